-- What changed between two places (RFC 8620, section 5.2).
use Rattle.std.specs.Prelude.{◌≡◌, ◌≢◌, ℕ, ◌≤◌, ◌↔◌, List, [], true, false, length, Contains, Option, Some, None, IsTrue}
use Rattle.std.specs.List.Sorted.{IsStrictlyIncreasing}
use Rattle.change_list.specs.Touches.{there_at, between, touches, counts_alone}
use Rattle.change_list.specs.declared.entries.Entry.{Entry}
use Rattle.change_list.specs.declared.answer.Changes.{Changes}

-- these numbers and no others, ascending
pub record Lists (xs : List ℕ) (P : ℕ → Type 0) : Type 0 where
  pub ascending : IsStrictlyIncreasing xs
  pub members : (q : ℕ) → Contains xs q ↔ P q

-- no more ids than the limit are touched after s up to k: a list of them has at most n
abbrev pub IsWithin : Option ℕ → List Entry → ℕ → ℕ → Type 0
IsWithin None h s k = Unit {0}
IsWithin (Some most) h s k = (ids : List ℕ) × Lists ids (λ q. touches (between h s k) q ≡ true) × (length ids ≤ most)

-- k is the greatest place up to which no more ids than the limit are touched after s
pub record Reaches (h : List Entry) (s : ℕ) (max : Option ℕ) (k : ℕ) : Type 0 where
  pub after : s ≤ k
  pub to_last : k ≤ length h
  pub within : IsWithin max h s k
  pub greatest : (j : ℕ) → j ≤ length h → IsWithin max h s j → j ≤ k

abbrev pub IsCreated : List Entry → ℕ → ℕ → ℕ → Type 0
IsCreated h s k q = (there_at h s q ≡ false) × (there_at h k q ≡ true)

abbrev pub IsDestroyed : List Entry → ℕ → ℕ → ℕ → Type 0
IsDestroyed h s k q = (there_at h s q ≡ true) × (there_at h k q ≡ false)

-- also where its value is as it was again
abbrev pub IsUpdated : List Entry → ℕ → ℕ → ℕ → Type 0
IsUpdated h s k q = (touches (between h s k) q ≡ true) × (there_at h s q ≡ true) × (there_at h k q ≡ true)

-- c is what changed after place s, up to the place that the limit allows
pub record IsChanges (h : List Entry) (s : ℕ) (max : Option ℕ) (c : Changes) : Type 0 where
  pub reaches : Reaches h s max c.to
  pub created : Lists c.created (IsCreated h s c.to)
  pub updated : Lists c.updated (IsUpdated h s c.to)
  pub destroyed : Lists c.destroyed (IsDestroyed h s c.to)
  pub counts_only : IsTrue c.counts_only ↔ ((c.updated ≢ []) × ((q : ℕ) → IsUpdated h s c.to q → counts_alone (between h s c.to) q ≡ true))
