use Rattle.std.proofs.Common.{ℕ, List, sym, subst, Option, None}
use Rattle.mail_maps.specs.Envelope.{IsTimeOf}
use Rattle.mail_maps.specs.Envelope.IsTimeOf.{NoDate}
use Rattle.mail_maps.proofs.header.time_named.Goals as goal

pub returns-in-None : goal.returns-in-None
returns-in-None c = let P : Option (List ℕ) → Type 0 = λ r. IsTimeOf r None in subst P (sym c.in-None.ensures) NoDate
