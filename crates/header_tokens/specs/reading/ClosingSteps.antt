-- What ends in a text, as the code counts it.
use Rattle.std.specs.Prelude.{◌≡◌, ℕ, true, false, List}
use Rattle.header_tokens.specs.reading.ClosingCounts.{unmatched, has_closer, has_greater}
use Rattle.header_tokens.specs.declared.closings.Closer.{Closer}
use Rattle.header_tokens.specs.declared.closings.Ends.{Ends}

pub record IsCloser (octet : ℕ) (c : Closer) (t : List ℕ) : Type 0 where
  pub plain : c.plain ≡ has_closer octet false t
  pub escaped : c.escaped ≡ has_closer octet true t

pub record AreEnds (e : Ends) (t : List ℕ) : Type 0 where
  pub comments : e.comments ≡ unmatched false t
  pub comments_escaped : e.comments_escaped ≡ unmatched true t
  pub quote : IsCloser 34 e.quote t
  pub literal : IsCloser 93 e.literal t
  pub greater : e.greater ≡ has_greater t
