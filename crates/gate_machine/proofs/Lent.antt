-- What is lent of a machine that is ready.
use Rattle.std.proofs.Common.{◌≡◌, ◌∙◌, Some, sym, subst}
use Rattle.gate_world.specs.Causes.{Faults}
use Rattle.mail_state.specs.State.{ServedState, IsStateOf}
use Rattle.imap_client.specs.LinkLife.{ClientState}
use Rattle.gate_machine.specs.History.{KnownMail}
use Rattle.gate_machine.specs.Kept.{KeptMail, ServedMail}
use Rattle.gate_machine.specs.Lending.{HoldsSource, IsLentOf, SourceState}
use Rattle.gate_machine.specs.Progress.{CameTo, Progress}
use Rattle.gate_machine.specs.declared.machine.Machine.{Machine}
use Rattle.gate_machine.specs.declared.mail_status.MailStatus.TheVariants as standing
use Rattle.gate_machine.proofs.Stages.{held_ready}

pub lent : (machine : Machine) (a : KeptMail) (client : ClientState) (served : ServedMail) (source : SourceState) → machine.known ≡ Some a → served.state ≡ a.state
    → served.served ≡ a.served → source ≡ record { told = a.told; bodies = a.bodies; client = client }
    → (p : Progress) (was now : Faults) → CameTo machine client standing.Stands was now p
    → (k : KnownMail) × (p.machine.known ≡ Some k) × IsLentOf k served × HoldsSource p source was now
lent machine a client served source is state_is served_is source_is p was now came =
    let of = held_ready p.machine machine a came.held is in (
      of.0,
      of.1,
      record {
        state = subst (λ (s : ServedState). IsStateOf of.0.history s) (sym state_is) of.2.state;
        served_is = served_is ∙ of.2.served;
      },
      subst (λ (x : SourceState). HoldsSource p x was now) (sym source_is) (record {
        known = of.0;
        ready = of.1;
        told = of.2.told;
        bodies = of.2.bodies;
        next = of.2.next;
        in_life = came.in_life;
        bears = came.bears;
      }),
    )
