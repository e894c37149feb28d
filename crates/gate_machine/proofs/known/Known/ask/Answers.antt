use Rattle.std.proofs.Common.{ap, subst, List}
use Rattle.gate_world.specs.Tape.{Adds}
use Rattle.gate_world.specs.declared.event.Event.{Event}
use Rattle.imap_client.specs.LinkLife.{LinkLife, Stands}
use Rattle.imap_client.specs.Rounds.{KeepsCount, Rounds}
use Rattle.told_mail.specs.Told.{Told}
use Rattle.gate_machine.specs.Kept.{KeptMail}
use Rattle.gate_machine.proofs.known.Known.ask.Goals as goal

pub returns-clause-tape : goal.returns-clause-tape
returns-clause-tape g c =
    subst (λ (t : Told). Adds (g.L.Taped.tape c.args.link.now) (g.L.Taped.tape c.round.new.link) (λ (es : List Event). (life : LinkLife) → Stands c.args.client.now life
    → (left : LinkLife) × (rounds : Rounds t.mail c.round.new.mirror.mail life left c.round.new.self c.round.result es)
    × KeepsCount t c.round.new.mirror c.round.result rounds.exchanges)) (ap (λ (k : KeptMail). k.told) c.self.view_is) c.round.ensures.tape
