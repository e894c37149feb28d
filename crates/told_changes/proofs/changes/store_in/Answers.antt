use Rattle.std.proofs.Common.{◌∙◌, ℕ, List, ap, refl}
use Rattle.kept_names.specs.Changes.{flags_after}
use Rattle.told_changes.proofs.Steps.{steps_none}
use Rattle.told_changes.proofs.Storing.{stored_is, not_stored, flags_steps}
use Rattle.told_changes.proofs.changes.store_in.Goals as goal

pub returns-in_default-clause-ok : goal.returns-in_default-clause-ok
returns-in_default-clause-ok c = not_stored c.args.mirror.now.mail c.args.folder c.args.uid c.args.add c.args.flags.now c.in_default.ensures

pub returns-in_default-clause-steps : goal.returns-in_default-clause-steps
returns-in_default-clause-steps c = steps_none _ _ c.each_is_mail.ensures refl

pub returns-in_err-flags-clause-steps : goal.returns-in_err-flags-clause-steps
returns-in_err-flags-clause-steps c = steps_none _ _ c.each_is_mail.ensures refl

pub returns-clause-ok : goal.returns-clause-ok
returns-clause-ok c =
    stored_is c.args.mirror.now.mail _ c.args.folder c.args.uid c.args.add c.args.flags.now c.in_ok-flags.flags c.in-Some.message.now c.in-Some.ensures
    (c.in_ok-flags.ensures
    ∙ (ap (λ (asked : List (List ℕ)). flags_after c.args.add asked c.as_slice-2.result.now) c.as_slice.ensures
    ∙ ap (λ (was : List (List ℕ)). flags_after c.args.add c.args.flags.now was) c.as_slice-2.ensures))
    c.set_flags.ensures.mail

pub returns-clause-steps : goal.returns-clause-steps
returns-clause-steps c = flags_steps _ _ c.args.folder c.args.uid c.in_ok-flags.flags c.each_is_mail.ensures c.set_flags.ensures.mail c.set_flags.ensures.counts
