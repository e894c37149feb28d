use Rattle.std.proofs.Common.{Result, refl, sym, subst}
use Rattle.std.proofs.lemmas.Result.{err_from_is_err_and}
use Rattle.std.specs.declared.alloc.AllocError.{AllocError}
use Rattle.gate_world.proofs.Joins.{widen}
use Rattle.store_causes.specs.declared.rounds.RoundFound.{RoundFound}
use Rattle.store_causes.specs.reading.Rounding.{RoundsTo}
use Rattle.store_causes.proofs.TwoRounds.{finds_in_round, keeps_none, wants_in_round}
use Rattle.store_causes.proofs.rounds.ask_round.Goals as goal

pub ask_all-requires-clause-kept : goal.ask_all-requires-clause-kept
ask_all-requires-clause-kept g c = keeps_none _

pub returns-in_err-cause-clause-tape : goal.returns-in_err-cause-clause-tape
returns-in_err-cause-clause-tape g c =
    let ends = err_from_is_err_and c.from_residual.result c.from_residual.ensures.1 in
    widen _ c.in_err-cause.ensures.tape (λ x so life stands. let f = so life stands in (
      f.0,
      subst (λ (r : Result RoundFound AllocError). RoundsTo c.args.password.now c.args.special_use c.args.mirror.mail c.args.notes life f.0 c.ask_all.new.client r x) (sym ends.1)
          (wants_in_round c.args.special_use c.args.mirror.mail c.args.notes refl refl f.1),
    ))

pub returns-in_err-beginning-clause-tape : goal.returns-in_err-beginning-clause-tape
returns-in_err-beginning-clause-tape g c =
    let ends = err_from_is_err_and c.from_residual-in_err-beginning.result c.from_residual-in_err-beginning.ensures.1 in
    widen _ c.in_ok-cause.ensures.tape (λ x so life stands. let f = so life stands in (
      f.0,
      subst (λ (r : Result RoundFound AllocError). RoundsTo c.args.password.now c.args.special_use c.args.mirror.mail c.args.notes life f.0 c.ask_all.new.client r x) (sym ends.1)
          (wants_in_round c.args.special_use c.args.mirror.mail c.args.notes refl refl f.1),
    ))

pub returns-clause-tape : goal.returns-clause-tape
returns-clause-tape g c =
    rw c.in_ok-beginning.ensures.told (rw c.as_slice.ensures (widen _ c.in_ok-cause.ensures.tape (λ x so life stands. let f = so life stands in (
      f.0,
      finds_in_round c.args.special_use c.args.mirror.mail c.args.notes c.args.password.now c.in_ok-cause.cause _ refl refl (c.refusals_stop.ensures.round _ _) refl refl refl refl f.1,
    ))))
