use Rattle.std.proofs.Common.{◌∙◌, sym, ap, subst}
use Rattle.gate_world.specs.Causes.{Faults, Hidden, LinkAlone}
use Rattle.gate_world.proofs.Joins.{widen}
use Rattle.gate_machine.proofs.Asking.{alone_none}
use Rattle.gate_serving.specs.Gates.{account_by}
use Rattle.gate_serving.specs.declared.gate.Gate.{Gate}
use Rattle.gate_serving.proofs.Answering.{adds_at, finished_untold, kept_left, on_err, on_ok}
use Rattle.gate_serving.proofs.gate.Gate.answer_untold.Goals as goal

pub returns-clause-run : goal.returns-clause-run
returns-clause-run g c =
    let same = c.response_untold-made.ensures.world in
    adds_at _ (ap (λ (w : g.row.W.Denot). g.W.Taped.tape w) same)
    (widen _ c.leave.ensures.tape (λ es hangs p was how came is.
    finished_untold (λ (h : Hidden). account_by c.args.self.now h) (g.W.Taped.hidden c.args.world.now) c.args.error c.unless_lacking.result c.response_untold-made.result
    came is hangs (ap (λ (w : g.row.W.Denot). g.W.Taped.faults w) same ∙ c.leave.ensures.cause) c.unless_lacking.ensures.made c.response_untold-made.ensures.made
    (kept_left c.args.self.now.machine c.unless_lacking.new.self.machine c.unless_lacking.result came.held
    (on_ok (λ (gate : Gate). gate.machine) _ _ c.unless_lacking.result c.unless_lacking.ensures.ok)
    (on_err (λ (gate : Gate). gate.machine.known) _ _ c.unless_lacking.result c.unless_lacking.ensures.err))))

pub returns-clause-alone : goal.returns-clause-alone
returns-clause-alone g c =
    subst (λ (f : Faults). LinkAlone (g.W.Taped.faults c.args.world.now) f)
    (sym (ap (λ (w : g.row.W.Denot). g.W.Taped.faults w) c.response_untold-made.ensures.world ∙ c.leave.ensures.cause)) (alone_none (g.W.Taped.faults c.args.world.now))

pub returns-clause-hidden : goal.returns-clause-hidden
returns-clause-hidden g c = ap (λ (w : g.row.W.Denot). g.W.Taped.hidden w) c.response_untold-made.ensures.world ∙ c.leave.ensures.hidden
