use Rattle.std.proofs.Common.{◌≡◌, Some, subst}
use Rattle.gate_world.specs.Causes.{Faults}
use Rattle.serde_json.specs.View.{view}
use Rattle.imap_client.specs.LinkLife.{ClientState}
use Rattle.gate_machine.specs.History.{KnownMail}
use Rattle.gate_machine.specs.Lending.{HoldsSource, IsLentOf, Moment, SourceState}
use Rattle.gate_machine.specs.Progress.{CameTo, Progress}
use Rattle.gate_machine.specs.declared.mail_status.MailStatus.TheVariants.{Stands}
use Rattle.gate_machine.proofs.Asking.{same_on}
use Rattle.gate_calls.proofs.Reading.{counts_of, reads}
use Rattle.gate_calls.proofs.request_mail.RequestMail.read.Given as given
use Rattle.gate_calls.proofs.request_mail.RequestMail.read.Goals as goal

-- the source and the outside, as bodies are asked
abbrev moment : (g : given.Over) → SourceState × g.row.L.Denot → Moment
moment g s = record { source = s.0; tape = g.L.Taped.tape s.1; faults = g.L.Taped.faults s.1; hidden = g.L.Taped.hidden s.1 }

pub take_back-requires : goal.take_back-requires
take_back-requires g c =
    same_on c.lend-served.ensures.same (counts_of (moment g) (c.lend-served.result.1, c.args.link.now) (c.reply_over-came.new.bodies, c.reply_over-came.new.world)
    c.reply_over-came.result _ c.reply_over-came.ensures.meant)

pub returns-clause-meant : goal.returns-clause-meant
returns-clause-meant g c = λ created.
    reads (moment g) c.args.uploads.now c.args.self.now.machine c.take_back.new.self c.args.self.now.client c.take_back.result c.args.self.now.status created
    c.lend-served.result.0 (c.lend-served.result.1, c.args.link.now) (c.reply_over-came.new.bodies, c.reply_over-came.new.world) c.args.method (view c.args.arguments)
    c.requires.stands
    (subst (λ (x : ClientState). (p : Progress) (was now : Faults) → CameTo c.args.self.now.machine x Stands was now p
    → (k : KnownMail) × (p.machine.known ≡ Some k) × IsLentOf k c.lend-served.result.0 × HoldsSource p c.lend-served.result.1 was now)
    c.replace-client.ensures.value c.lend-served.ensures.lent)
    c.take_back.ensures.held c.take_back.ensures.client c.state.result.now c.reply_over-came.result c.state.ensures c.reply_over-came.ensures.meant
