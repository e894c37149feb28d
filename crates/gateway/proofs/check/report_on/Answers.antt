use Rattle.std.proofs.lemmas.Result.{err_from_is_err_and}
use Rattle.gate_world.proofs.Joins.{widen}
use Rattle.gateway.proofs.Performing.{lacks_report}
use Rattle.gateway.proofs.check.report_on.Goals as goal

pub returns-in_err-checked-clause-tape : goal.returns-in_err-checked-clause-tape
returns-in_err-checked-clause-tape g c =
    let ends = err_from_is_err_and c.from_residual.result c.from_residual.ensures.1 in
    widen _ c.in_err-checked.ensures.tape (λ x checks. lacks_report c.args.store.now c.args.user.now (g.W.Taped.hidden c.args.world.now).password
    (g.W.Taped.faults c.args.world.now) (g.W.Taped.faults c.check_store.new.world) c.from_residual.result ends.0 ends.1 (_, checks))

pub returns-in_err-finding-clause-tape : goal.returns-in_err-finding-clause-tape
returns-in_err-finding-clause-tape g c =
    let ends = err_from_is_err_and c.from_residual-in_err-finding.result c.from_residual-in_err-finding.ensures.1 in
    widen _ c.in_ok-checked.ensures.tape (λ x checks. lacks_report c.args.store.now c.args.user.now (g.W.Taped.hidden c.args.world.now).password
    (g.W.Taped.faults c.args.world.now) (g.W.Taped.faults c.check_store.new.world) c.from_residual-in_err-finding.result ends.0 ends.1 (_, checks))

pub returns-in_err-text-clause-tape : goal.returns-in_err-text-clause-tape
returns-in_err-text-clause-tape g c =
    let ends = err_from_is_err_and c.from_residual-in_err-text.result c.from_residual-in_err-text.ensures.1 in
    widen _ c.in_ok-checked.ensures.tape (λ x checks. lacks_report c.args.store.now c.args.user.now (g.W.Taped.hidden c.args.world.now).password
    (g.W.Taped.faults c.args.world.now) (g.W.Taped.faults c.check_store.new.world) c.from_residual-in_err-text.result ends.0 ends.1 (_, checks))

pub returns-clause-tape : goal.returns-clause-tape
returns-clause-tape g c =
    widen _ c.in_ok-checked.ensures.tape (λ x checks. (
      record {
        checked = c.in_ok-checked.checked;
        finding = c.in_ok-finding.finding;
        checks = checks;
        finds = c.in_ok-finding.ensures;
        text_is = c.in_ok-text.ensures;
        status_is = c.found_status-status.ensures.status;
      },
      c.in_ok-checked.ensures.cause,
    ))
