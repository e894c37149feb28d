use Rattle.std.proofs.Common.{Result, refl, subst, sym, inl, inr}
use Rattle.std.proofs.lemmas.Result.{err_from_is_err_and}
use Rattle.std.specs.declared.alloc.AllocError.{AllocError}
use Rattle.gate_world.specs.Tape.{Adds}
use Rattle.gate_world.proofs.Joins.{none, widen}
use Rattle.gate_serving.specs.GateState.{new_state}
use Rattle.gate_serving.specs.Gates.{OpensTo}
use Rattle.gate_serving.specs.declared.gate.Gate.{Gate}
use Rattle.gate_serving.proofs.gate.Gate.open.Goals as goal

pub returns-in_err-account-clause-run : goal.returns-in_err-account-clause-run
returns-in_err-account-clause-run g c =
    let ends = err_from_is_err_and c.from_residual.result c.from_residual.ensures.1 in
    subst (λ (r : Result Gate AllocError). Adds (g.W.Taped.tape c.args.world.now) (g.W.Taped.tape c.args.world.now) (OpensTo r)) (sym ends.1)
    (none _ _ (inl refl))

pub returns-in_err-machine-clause-run : goal.returns-in_err-machine-clause-run
returns-in_err-machine-clause-run g c =
    let ends = err_from_is_err_and c.from_residual-in_err-machine.result c.from_residual-in_err-machine.ensures.1 in
    subst (λ (r : Result Gate AllocError). Adds (g.W.Taped.tape c.args.world.now) (g.W.Taped.tape c.word-epoch.new.self) (OpensTo r)) (sym ends.1)
    (widen _ c.word-epoch.ensures.tape (λ x is. inr (c.word-epoch.result, is)))

pub returns-clause-run : goal.returns-clause-run
returns-clause-run g c =
    widen _ c.word-epoch.ensures.tape (λ x is.
    (new_state c.word-epoch.result, record { machine = c.in_ok-machine.ensures; uploads = c.new.ensures }, (c.word-epoch.result, is, refl)))
