use Rattle.std.proofs.Common.{refl, ap}
use Rattle.gate_world.specs.Causes.{Hidden}
use Rattle.jmap_core.specs.Request.{request_data}
use Rattle.gate_serving.specs.Gates.{account_by}
use Rattle.gate_serving.proofs.Made.{untold_made, untold_stays}
use Rattle.gate_serving.proofs.gate.Gate.calls_without.Goals as goal

pub returns-clause-made : goal.returns-clause-made
returns-clause-made g c =
    untold_made (λ s. s.0.error) c.args.self.now.door c.args.self.now.account.user c.args.self.now.account.base c.args.self.now.uploads (request_data c.args.request) _ _
    (λ (h : Hidden). account_by c.args.self.now h) (λ h. (refl, refl)) c.calls_response.result c.calls_response.ensures

pub returns-clause-world : goal.returns-clause-world
returns-clause-world g c =
    ap (λ p. p.1)
    (untold_stays (λ s. s.0.error) c.args.self.now.door c.args.self.now.account.user c.args.self.now.account.base c.args.self.now.uploads (request_data c.args.request) _ _
    c.calls_response.result c.calls_response.ensures)
