-- The ids touched after a place, with whether each was there at it.
use Rattle.std.specs.Prelude.{◌≡◌, ℕ, List, Bool, true, map, length, All}
use Rattle.change_list.specs.Changes.{Lists}
use Rattle.change_list.specs.Touches.{there_at, between, touches}
use Rattle.change_list.specs.declared.entries.Entry.{Entry}

pub record AreTouched (h : List Entry) (s : ℕ) (xs : List (ℕ × Bool)) : Type 0 where
  pub ids : Lists (map (λ x. x.0) xs) (λ q. touches (between h s (length h)) q ≡ true)
  pub presence : All (λ x. x.1 ≡ there_at h s x.0) xs
