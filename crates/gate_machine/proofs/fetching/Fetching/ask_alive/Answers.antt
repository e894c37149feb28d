use Rattle.std.proofs.Common.{◌∙◌, sym, ap}
use Rattle.gate_machine.specs.Lending.{SourceState}
use Rattle.gate_machine.proofs.Fetched.{answers_ended}
use Rattle.gate_machine.proofs.fetching.Fetching.ask_alive.Goals as goal

pub returns-else-alive-clause-ended : goal.returns-else-alive-clause-ended
returns-else-alive-clause-ended g c = λ is.
    answers_ended c.args.message _ (ap (λ (x : SourceState). x.client.alive) (sym c.self.view_is) ∙ sym c.alive.ensures ∙ c.if-alive.false) c.requires
