use Rattle.std.proofs.Common.{refl, sym, ◌∙◌, arith}
use Rattle.std.proofs.lemmas.Result.{err_from_is_err_and}
use Rattle.told_folder.proofs.KeyedLemmas.{some_is_not_none}
use Rattle.told_folder.proofs.LostLemmas.{lost_goes, lost_fails}
use Rattle.told_folder.proofs.PartLemmas.{some_there}
use Rattle.told_folder.proofs.vanished.tell_lost.Goals as goal

pub returns-in_err-message : goal.returns-in_err-message
returns-in_err-message c =
    rw (err_from_is_err_and c.from_residual.result c.from_residual.ensures.1).1 (lost_fails _ _ _ _ refl c.in_err-message.ensures.err refl refl refl)

pub returns-in_default : goal.returns-in_default
returns-in_default c =
    let held = some_there _ c.requires.held in
    absurd (some_is_not_none held.0 (sym held.1 ∙ sym c.in_ok-message.ensures.message ∙ c.in_default.is))

pub returns : goal.returns
returns c =
    lost_goes _ _ c.args.uid c.in-Some.message (sym c.in_ok-message.ensures.message ∙ c.in-Some.is)
    (record {
      folder = refl;
      rises = omega (arith, c.one_more-work.ensures);
      stands = λ e l. absurd (omega (arith, e, l, c.one_more-work.ensures));
      draws = λ e l. refl;
    }) c.in_ok-message.ensures.ok refl c.remove-2.ensures.updates.0
