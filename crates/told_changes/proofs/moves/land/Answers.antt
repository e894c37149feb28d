use Rattle.std.proofs.Common.{FitsSigned, refl, rules, w64}
use Rattle.std.proofs.lemmas.Int.{to_z-of_z}
use Rattle.told_changes.proofs.Appending.{append_left}
use Rattle.told_changes.proofs.Moving.{landing_free}
use Rattle.told_changes.proofs.Steps.{steps_none}
use Rattle.told_changes.proofs.moves.land.Goals as goal

pub move_selected-requires : goal.move_selected-requires
move_selected-requires c = landing_free c.args.mirror.now.mail c.each_is_mail.ensures c.args.exchange.now c.args.landing c.requires

pub append_message-requires-clause-free : goal.append_message-requires-clause-free
append_message-requires-clause-free c = landing_free c.args.mirror.now.mail c.each_is_mail.ensures c.args.exchange.now c.args.landing c.requires

pub append_message-requires-clause-mark : goal.append_message-requires-clause-mark
append_message-requires-clause-mark c =
    append_left c.args.mirror.now.mail c.args.exchange.now c.args.landing _ _ _ _ c.in-Append.is c.requires

pub returns-in_default-clause-steps : goal.returns-in_default-clause-steps
returns-in_default-clause-steps c = steps_none _ _ c.each_is_mail.ensures refl

pub returns-in-Append-clause-ok : goal.returns-in-Append-clause-ok
returns-in-Append-clause-ok c =
    let fits : FitsSigned w64 c.in-Append.date = search rules in
    let told = c.append_message.ensures.ok in
    let same = simp to_z-of_z at told in
    rw c.in-Append.is same
