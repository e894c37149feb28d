use Rattle.std.proofs.Common.{refl, ◌∙◌}
use Rattle.client_front.proofs.Places.{changed-at, held-is, was-asked}
use Rattle.client_front.specs.Waiting.{held}
use Rattle.client_front.specs.declared.scan.Coming.TheVariants.{Nothing, Never, Part, Whole}
use Rattle.client_front.proofs.waiting.Waiting.ask.Goals as goal

pub returns-in-Nothing : goal.returns-in-Nothing
returns-in-Nothing g c =
    was-asked g.S.ClientStream.shows g.S.ClientStream.closes c.args.now c.args.key c.args.self.now.idle.items c.args.self.now.asking.items (held c.args.self.now) c.in-Some.at Nothing
    c.in-Some.ensures.some.0 c.in-Some.ensures.some.1 c.in-Some.ensures.some.2 c.in-Nothing.ensures (λ d within. refl)

pub returns-in-Part : goal.returns-in-Part
returns-in-Part g c =
    was-asked g.S.ClientStream.shows g.S.ClientStream.closes c.args.now c.args.key c.args.self.now.idle.items c.args.self.now.asking.items (held c.note.new.self) c.in-Some.at (Part c.in-Part.scan)
    c.in-Some.ensures.some.0 c.in-Some.ensures.some.1 c.in-Some.ensures.some.2 c.in-Part.ensures (λ d within. held-is (held c.note.new.self) _ _ (c.note.ensures.idle d ∙ changed-at c.args.self.now.idle.items c.in-Some.at _ within) c.note.ensures.asking)

pub returns-in-Whole : goal.returns-in-Whole
returns-in-Whole g c =
    was-asked g.S.ClientStream.shows g.S.ClientStream.closes c.args.now c.args.key c.args.self.now.idle.items c.args.self.now.asking.items (held c.leave.new.self) c.in-Some.at Whole
    c.in-Some.ensures.some.0 c.in-Some.ensures.some.1 c.in-Some.ensures.some.2 c.in-Whole.ensures (λ d within. (held-is (held c.leave.new.self) _ _ c.leave.ensures.idle (c.leave.ensures.asking d), c.leave.ensures.closed d))

pub returns-in-Never : goal.returns-in-Never
returns-in-Never g c =
    was-asked g.S.ClientStream.shows g.S.ClientStream.closes c.args.now c.args.key c.args.self.now.idle.items c.args.self.now.asking.items (held c.leave-in-Never.new.self) c.in-Some.at Never
    c.in-Some.ensures.some.0 c.in-Some.ensures.some.1 c.in-Some.ensures.some.2 c.in-Never.ensures (λ d within. (held-is (held c.leave-in-Never.new.self) _ _ c.leave-in-Never.ensures.idle (c.leave-in-Never.ensures.asking d), c.leave-in-Never.ensures.closed d))
