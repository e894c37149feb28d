use Rattle.std.proofs.Common.{◌∙◌, Bool, sym, ap, subst}
use Rattle.std.specs.Option.{option_copied}
use Rattle.gate_world.specs.Causes.{Faults, LinkAlone}
use Rattle.gate_world.specs.Tape.{Adds}
use Rattle.gate_world.proofs.Joins.{widen}
use Rattle.imap_client.specs.LinkLife.{ClientState}
use Rattle.imap_exchange.specs.Answering.{HangsUp}
use Rattle.mail_state.specs.State.{ServedState}
use Rattle.gate_machine.specs.Lending.{Moment, SourceState}
use Rattle.gate_machine.proofs.Asking.{same_on}
use Rattle.gate_serving.specs.Gates.{account_by}
use Rattle.gate_serving.specs.Requests.{Download}
use Rattle.gate_serving.specs.declared.gate.Gate.{Gate}
use Rattle.gate_serving.proofs.Answering.{on_err, on_ok}
use Rattle.gate_serving.proofs.Lent.{IsLentAt, download_done, download_stays, finished, holds_lent}
use Rattle.gate_serving.proofs.gate.Gate.answer_download.Given as given
use Rattle.gate_serving.proofs.gate.Gate.answer_download.Goals as goal

-- the source and the outside, as bodies are asked
abbrev moment : (g : given.Over) → SourceState × g.row.W.Denot → Moment
moment g s = record { source = s.0; tape = g.W.Taped.tape s.1; faults = g.W.Taped.faults s.1; hidden = g.W.Taped.hidden s.1 }

pub take_back-client-requires : goal.take_back-client-requires
take_back-client-requires g c =
    same_on c.lend-served.ensures.same
    (download_stays (moment g) c.args.self.now.door (account_by c.args.self.now (g.W.Taped.hidden c.args.world.now)) c.args.self.now.uploads c.args.blob.now
    (option_copied c.args.media) c.lend-served.result.0 c.state.result.now.rows.numbered.rows (ap (λ (s : ServedState). s.rows.numbered.rows) c.state.ensures)
    (c.lend-served.result.1, c.args.world.now) (c.told_response-made.new.bodies, c.told_response-made.new.world) c.told_response-made.result c.told_response-made.ensures).counts

pub returns-clause-run : goal.returns-clause-run
returns-clause-run g c =
    widen _
    (finished c.args.self.now.door (account_by c.args.self.now (g.W.Taped.hidden c.args.world.now)) c.args.self.now.uploads
    (Download c.args.blob.now (option_copied c.args.media)) (IsLentAt c.lend-served.result.0 (moment g (c.lend-served.result.1, c.args.world.now)))
    (g.W.Taped.tape c.args.world.now) c.unless_lacking.new.self.machine c.take_back-client.new.self c.told_response-made.new.bodies.client
    (subst (λ (b : Bool). Adds (g.W.Taped.tape c.told_response-made.new.world) (g.W.Taped.tape c.leave.new.link) (HangsUp b))
    (ap (λ (x : ClientState). x.alive) c.take_back-client.ensures.client) c.leave.ensures.tape)
    c.leave.ensures.cause c.unless_lacking.result c.told_response-made.result c.unless_lacking.ensures.made
    (download_done (moment g) c.args.self.now.door (account_by c.args.self.now (g.W.Taped.hidden c.args.world.now)) c.args.self.now.uploads c.args.blob.now
    (option_copied c.args.media) c.lend-served.result.0 c.state.result.now.rows.numbered.rows (ap (λ (s : ServedState). s.rows.numbered.rows) c.state.ensures)
    (c.lend-served.result.1, c.args.world.now) (c.told_response-made.new.bodies, c.told_response-made.new.world) c.take_back-client.new.self
    c.take_back-client.ensures.held c.told_response-made.result c.told_response-made.ensures)
    (on_ok (λ (gate : Gate). gate.machine) _ _ c.unless_lacking.result c.unless_lacking.ensures.ok)
    (on_err (λ (gate : Gate). gate.machine.known) _ _ c.unless_lacking.result c.unless_lacking.ensures.err))
    (λ es finishes p was came. finishes p was (holds_lent c.lend-served.ensures.lent p was came))

pub returns-clause-alone : goal.returns-clause-alone
returns-clause-alone g c =
    subst (λ (f : Faults). LinkAlone (g.W.Taped.faults c.args.world.now) f) (sym c.leave.ensures.cause)
    (download_stays (moment g) c.args.self.now.door (account_by c.args.self.now (g.W.Taped.hidden c.args.world.now)) c.args.self.now.uploads c.args.blob.now
    (option_copied c.args.media) c.lend-served.result.0 c.state.result.now.rows.numbered.rows (ap (λ (s : ServedState). s.rows.numbered.rows) c.state.ensures)
    (c.lend-served.result.1, c.args.world.now) (c.told_response-made.new.bodies, c.told_response-made.new.world) c.told_response-made.result c.told_response-made.ensures).goes_on.alone

pub returns-clause-hidden : goal.returns-clause-hidden
returns-clause-hidden g c =
    c.leave.ensures.hidden
    ∙ (download_stays (moment g) c.args.self.now.door (account_by c.args.self.now (g.W.Taped.hidden c.args.world.now)) c.args.self.now.uploads c.args.blob.now
    (option_copied c.args.media) c.lend-served.result.0 c.state.result.now.rows.numbered.rows (ap (λ (s : ServedState). s.rows.numbered.rows) c.state.ensures)
    (c.lend-served.result.1, c.args.world.now) (c.told_response-made.new.bodies, c.told_response-made.new.world) c.told_response-made.result c.told_response-made.ensures).goes_on.hidden
