-- A client's copy of a type, and what answers do to it (RFC 8620, section 5.2).
use Rattle.std.specs.Prelude.{◌≡◌, ◌≢◌, ◌↔◌, ℕ, ◌≤◌, ◌==◌, List, [], ◌∷◌, Bool, false, IsTrue, if◌then◌else◌, map, take, All, Contains, Option, None}
use Rattle.std.specs.List.{list_any}
use Rattle.change_list.specs.Touches.{between, touches}
use Rattle.change_list.specs.Changes.{IsChanges}
use Rattle.change_list.specs.History.{Touch, last_place, map_at, map_now, entries_of, IsTouched}
use Rattle.change_list.specs.declared.answer.Changes.{Changes}

abbrev pub holds_id : List ℕ → ℕ → Bool
holds_id xs q = list_any (λ x. q == x) xs

-- a step of a client: an answer, the last place when it was made, and the last place when the values were fetched
pub record ClientStep : Type 0 where
  pub max : Option ℕ
  pub changes : Changes
  pub answered : ℕ
  pub fetched : ℕ

module _ {V : Type 0} where
  -- a copy that is right up to place s: it has no id that the map there lacks, and each id untouched since as it is now
  pub record IsCopy (copy : ℕ → Option V) (h : List (Touch V)) (s : ℕ) : Type 0 where
    pub no_other : (q : ℕ) → map_at h s q ≡ None → copy q ≡ None
    pub agrees : (q : ℕ) → touches (between (entries_of h) s (last_place h)) q ≡ false → copy q ≡ map_now h q

  -- what an answer makes of a copy: created and updated ids as they are now, destroyed ones dropped
  abbrev pub applied : Changes → (ℕ → Option V) → (ℕ → Option V) → ℕ → Option V
  applied c now copy q = if holds_id c.created q then now q else (if holds_id c.updated q then now q else (if holds_id c.destroyed q then None else copy q))

  -- a copy with this value of one id, or without the id
  abbrev pub with_value : ℕ → Option V → (ℕ → Option V) → ℕ → Option V
  with_value id value copy q = if id == q then value else copy q

  -- the answer is right where it was made, and the values were fetched then or later, and not before place now
  pub record IsClientStep (h : List (Touch V)) (s now : ℕ) (r : ClientStep) : Type 0 where
    pub answer_first : r.answered ≤ r.fetched
    pub in_order : now ≤ r.fetched
    pub by_now : r.fetched ≤ last_place h
    pub changes : IsChanges (entries_of (take r.answered h)) s r.max r.changes

  -- steps one after the other, each from the place to which the one before came
  abbrev pub AreClientSteps : List (Touch V) → ℕ → ℕ → List ClientStep → Type 0
  AreClientSteps h s now [] = Unit {0}
  AreClientSteps h s now (r ∷ rs) = IsClientStep h s now r × AreClientSteps h r.changes.to r.fetched rs

  abbrev pub copy_after : List (Touch V) → (ℕ → Option V) → List ClientStep → ℕ → Option V
  copy_after h copy [] = copy
  copy_after h copy (r ∷ rs) = copy_after h (applied r.changes (map_at h r.fetched) copy) rs

  -- the created ids are those that the later map alone has, the destroyed ones those that the earlier one alone has,
  -- the updated ones those that both have and that were touched; what isn't listed is as it was
  pub record TellsMaps (h : List (Touch V)) (s : ℕ) (c : Changes) : Type 0 where
    pub created : (q : ℕ) → Contains c.created q ↔ ((map_at h s q ≡ None) × (map_at h c.to q ≢ None))
    pub destroyed : (q : ℕ) → Contains c.destroyed q ↔ ((map_at h s q ≢ None) × (map_at h c.to q ≡ None))
    pub updated : (q : ℕ) → Contains c.updated q ↔ ((map_at h s q ≢ None) × (map_at h c.to q ≢ None) × IsTouched h s c.to q)
    pub as_it_was : (q : ℕ) → ¬ Contains c.created q → ¬ Contains c.updated q → ¬ Contains c.destroyed q → map_at h c.to q ≡ map_at h s q

  -- the ids listed are those touched after the place, each with whether the map there has it; what isn't listed is as it was
  pub record TouchedTellsMaps (h : List (Touch V)) (s : ℕ) (xs : List (ℕ × Bool)) : Type 0 where
    pub listed : (q : ℕ) → Contains (map (λ x. x.0) xs) q ↔ IsTouched h s (last_place h) q
    pub presence : All (λ x. IsTrue x.1 ↔ (map_at h s x.0 ≢ None)) xs
    pub as_it_was : (q : ℕ) → ¬ Contains (map (λ x. x.0) xs) q → map_now h q ≡ map_at h s q

-- the place to which steps from s come
abbrev pub place_after : ℕ → List ClientStep → ℕ
place_after s [] = s
place_after s (r ∷ rs) = place_after r.changes.to rs
