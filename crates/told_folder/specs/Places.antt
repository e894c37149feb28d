-- Places in lists that ascend.
use Rattle.std.specs.Prelude.{◌≡◌, ℕ, ◌<◌, ◌≤◌, List, length, slice_index_or}

module _ {X : Type 0} (key : X → ℕ) where
  -- the place of k: keys before it are below k, and no other is
  pub record IsPlace (k : ℕ) (xs : List X) (at : ℕ) : Type 0 where
    pub within : at ≤ length xs
    pub before : (i : ℕ) (d : X) → i < at → key (slice_index_or xs i d) < k
    pub from : (i : ℕ) (d : X) → at ≤ i → i < length xs → k ≤ key (slice_index_or xs i d)

  -- the element at this place has the key
  pub record IsHeldAt (k : ℕ) (xs : List X) (at : ℕ) : Type 0 where
    pub place : IsPlace k xs at
    pub within : at < length xs
    pub same : (d : X) → key (slice_index_or xs at d) ≡ k

  -- no element has the key, and one would go to this place
  pub record IsFreeAt (k : ℕ) (xs : List X) (at : ℕ) : Type 0 where
    pub place : IsPlace k xs at
    pub above : (d : X) → at < length xs → k < key (slice_index_or xs at d)
