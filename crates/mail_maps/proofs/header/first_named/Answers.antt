use Rattle.std.proofs.Common.{ℕ, List, sym, subst, Option, None}
use Rattle.mail_maps.specs.Envelope.{IsFirstOf}
use Rattle.mail_maps.specs.Envelope.IsFirstOf.{NoMailbox}
use Rattle.mail_maps.proofs.header.first_named.Goals as goal

pub returns-in-None : goal.returns-in-None
returns-in-None c = let P : Option (List ℕ) → Type 0 = λ r. IsFirstOf r None in subst P (sym c.in-None.ensures) NoMailbox
