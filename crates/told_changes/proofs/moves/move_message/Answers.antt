use Rattle.std.proofs.Common.{ap, sym, subst, refl}
use Rattle.std.specs.Option.{option_map}
use Rattle.told_folder.proofs.IndexLemmas.{mark_of}
use Rattle.told_mail.specs.Told.{Told}
use Rattle.told_changes.specs.Changes.{with_moved}
use Rattle.told_changes.specs.reading.Steps.{Steps}
use Rattle.told_changes.proofs.Moving.{free_there, mark_there, mark_given, moved_is, taken_steps, moved_steps}
use Rattle.told_changes.proofs.Steps.{steps_none}
use Rattle.told_changes.proofs.moves.move_message.Goals as goal

pub returns-in_default-clause-ok : goal.returns-in_default-clause-ok
returns-in_default-clause-ok c = ap (with_moved c.args.mirror.now.mail c.args.from c.args.uid c.args.landing) c.in_default.ensures

pub returns-in_default-clause-steps : goal.returns-in_default-clause-steps
returns-in_default-clause-steps c = steps_none _ _ c.each_is_mail.ensures refl

pub unreachable-requires : goal.unreachable-requires
unreachable-requires c =
    c.in_default-cut_message.ensures.none (c.args.from, c.args.uid) (ap (option_map mark_of) (sym c.in-Some.ensures))

pub put_message-requires-clause-there : goal.put_message-requires-clause-there
put_message-requires-clause-there c =
    (free_there c.args.mirror.now c.each_is_mail.ensures c.args.from c.args.uid c.args.landing c.in-Some.message.now _ c.in-Some.ensures c.cut_message.new.self
    c.in-Some-cut_message.ensures.cut c.requires).there

pub put_message-requires-clause-new_uid : goal.put_message-requires-clause-new_uid
put_message-requires-clause-new_uid c =
    (free_there c.args.mirror.now c.each_is_mail.ensures c.args.from c.args.uid c.args.landing c.in-Some.message.now _ c.in-Some.ensures c.cut_message.new.self
    c.in-Some-cut_message.ensures.cut c.requires).free

pub put_message-requires-clause-new_mark : goal.put_message-requires-clause-new_mark
put_message-requires-clause-new_mark c =
    mark_there c.args.mirror.now c.each_is_mail.ensures c.args.from c.args.uid c.args.landing c.in-Some.message.now _ c.in-Some.ensures c.cut_message.new.self
    c.in-Some-cut_message.ensures.cut

pub put_message-requires-clause-mark : goal.put_message-requires-clause-mark
put_message-requires-clause-mark c = λ above.
    mark_given c.args.mirror.now c.each_is_mail.ensures c.args.from c.args.uid c.args.landing c.in-Some.message.now _ c.in-Some.ensures c.cut_message.new.self
    c.in-Some-cut_message.ensures.cut

pub returns-clause-ok : goal.returns-clause-ok
returns-clause-ok c =
    moved_is c.args.mirror.now c.each_is_mail.ensures c.args.from c.args.uid c.args.landing c.in-Some.message.now _ c.in-Some.ensures c.cut_message.new.self
    c.in-Some-cut_message.ensures.cut _ c.in_ok-put_message.ensures.ok

pub returns-clause-steps : goal.returns-clause-steps
returns-clause-steps c =
    moved_steps c.args.mirror.now c.each_is_mail.ensures c.args.from c.args.uid c.args.landing c.in-Some.message.now _ c.in-Some.ensures c.cut_message.new.self
    c.in-Some-cut_message.ensures.cut _ c.in_ok-put_message.ensures.ok c.in-Some-cut_message.ensures.counted c.in_ok-put_message.ensures.counted

pub returns-in_err-put_message-clause-steps : goal.returns-in_err-put_message-clause-steps
returns-in_err-put_message-clause-steps c =
    subst (λ (z : Told). Steps c.args.mirror.now z) (sym c.in_err-put_message.ensures.err)
    (taken_steps c.args.mirror.now c.each_is_mail.ensures c.args.from c.args.uid c.args.landing c.in-Some.message.now _ c.in-Some.ensures c.cut_message.new.self
    c.in-Some-cut_message.ensures.cut c.in-Some-cut_message.ensures.counted)
