use Rattle.std.proofs.Common.{ℕ, List, sym, subst, Option, Some, None}
use Rattle.mail_maps.specs.Envelope.{IsSearchText}
use Rattle.mail_maps.specs.Envelope.IsSearchText.{NoSearchText, SearchText}
use Rattle.mail_maps.proofs.header.search_text_named.Goals as goal

pub returns-in-None : goal.returns-in-None
returns-in-None c = let P : Option (List ℕ) → Type 0 = λ r. IsSearchText r None in subst P (sym c.in-None.ensures) NoSearchText

pub returns-in_ok-text-in-Some : goal.returns-in_ok-text-in-Some
returns-in_ok-text-in-Some c =
    let P : Option (List ℕ) → Type 0 = λ r. IsSearchText r (Some c.in_ok-text-in-Some.text) in
    subst P (sym c.in-Some.ensures) (SearchText c.in-Some.raw.now c.in_ok-text-in-Some.text c.in_ok-text-in-Some.ensures)
