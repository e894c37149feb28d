use Rattle.std.proofs.Common.{ℕ, List, sym, subst, Option, Some, None}
use Rattle.mail_maps.specs.Envelope.{IsFieldText}
use Rattle.mail_maps.specs.Envelope.IsFieldText.{NoText, Text}
use Rattle.mail_maps.proofs.header.text_named.Goals as goal

pub returns-in-None : goal.returns-in-None
returns-in-None c = let P : Option (List ℕ) → Type 0 = λ r. IsFieldText r None in subst P (sym c.in-None.ensures) NoText

pub returns-in_ok-text-in-Some : goal.returns-in_ok-text-in-Some
returns-in_ok-text-in-Some c =
    let P : Option (List ℕ) → Type 0 = λ r. IsFieldText r (Some c.in_ok-text-in-Some.text) in
    subst P (sym c.in-Some.ensures) (Text c.in-Some.raw.now c.in_ok-text-in-Some.text c.in_ok-text-in-Some.ensures)
