use Rattle.std.proofs.Common.{refl, ◌∙◌, inl, inr}
use Rattle.client_front.proofs.Places.{changed-at, held-is, some-seen, was-late}
use Rattle.client_front.specs.Waiting.{held}
use Rattle.client_front.specs.declared.scan.Coming.TheVariants.{Nothing, Never, Part, Whole}
use Rattle.client_front.proofs.waiting.Waiting.end_wait.Goals as goal

-- its first octets are seen only now
pub returns-then-is_unseen : goal.returns-then-is_unseen
returns-then-is_unseen g c =
    was-late g.S.ClientStream.shows g.S.ClientStream.closes c.args.now c.args.self.now.idle.items c.args.self.now.asking.items (held c.note.new.self) c.args.at (Part c.in-Part.scan)
    c.requires.within c.requires.late c.requires.earlier c.in-Part.ensures (λ d within. inl ((c.if-is_unseen.ensures d).0 refl, held-is (held c.note.new.self) _ _ (c.note.ensures.idle d ∙ changed-at c.args.self.now.idle.items c.args.at _ within) c.note.ensures.asking))

pub returns-else-is_unseen : goal.returns-else-is_unseen
returns-else-is_unseen g c =
    was-late g.S.ClientStream.shows g.S.ClientStream.closes c.args.now c.args.self.now.idle.items c.args.self.now.asking.items (held c.leave.new.self) c.args.at (Part c.in-Part.scan)
    c.requires.within c.requires.late c.requires.earlier c.in-Part.ensures (λ d within. inr (some-seen _ (c.if-is_unseen.ensures d).1, (held-is (held c.leave.new.self) _ _ c.leave.ensures.idle (c.leave.ensures.asking d), c.leave.ensures.closed d)))

pub returns-in-Whole : goal.returns-in-Whole
returns-in-Whole g c =
    was-late g.S.ClientStream.shows g.S.ClientStream.closes c.args.now c.args.self.now.idle.items c.args.self.now.asking.items (held c.leave-in-Whole.new.self) c.args.at Whole
    c.requires.within c.requires.late c.requires.earlier c.in-Whole.ensures (λ d within. (held-is (held c.leave-in-Whole.new.self) _ _ c.leave-in-Whole.ensures.idle (c.leave-in-Whole.ensures.asking d), c.leave-in-Whole.ensures.closed d))

pub returns-in-Nothing : goal.returns-in-Nothing
returns-in-Nothing g c =
    was-late g.S.ClientStream.shows g.S.ClientStream.closes c.args.now c.args.self.now.idle.items c.args.self.now.asking.items (held c.leave-in-Nothing.new.self) c.args.at Nothing
    c.requires.within c.requires.late c.requires.earlier c.in-Nothing.ensures (λ d within. (held-is (held c.leave-in-Nothing.new.self) _ _ c.leave-in-Nothing.ensures.idle (c.leave-in-Nothing.ensures.asking d), c.leave-in-Nothing.ensures.closed d))

pub returns-in-Never : goal.returns-in-Never
returns-in-Never g c =
    was-late g.S.ClientStream.shows g.S.ClientStream.closes c.args.now c.args.self.now.idle.items c.args.self.now.asking.items (held c.leave-in-Never.new.self) c.args.at Never
    c.requires.within c.requires.late c.requires.earlier c.in-Never.ensures (λ d within. (held-is (held c.leave-in-Never.new.self) _ _ c.leave-in-Never.ensures.idle (c.leave-in-Never.ensures.asking d), c.leave-in-Never.ensures.closed d))
