-- The keys of a map: how great they are, and whether it has one.
use Rattle.std.proofs.Common.{◌≡◌, ◌<◌, ◌≤◌, ◌^◌, ◌||◌, ℕ, List, [], ◌∷◌, Bool, true, false, cond, Some, length, nat_cmp, nat_eq, refl, ap, ◌∙◌, arith, is_some}
use Rattle.std.specs.BTreeMap.{is_at}
use Rattle.std.specs.List.{All, list_any}
use Rattle.std.specs.Map.{keys_of, lookup}
use Rattle.std.specs.Ordering.{is_lt}
use Rattle.std.proofs.lemmas.List.Elements.{All-weaker}
use Rattle.std.proofs.lemmas.Map.Keys.{ge_from_not_lt}
use Rattle.served_maps.proofs.AmongLemmas.{key_test}

-- keys have as few bits as one that none is above
pub all_small : (n : ℕ) (ks : List ℕ) → n < 2 ^ 64 → All (λ k. is_lt (nat_cmp n k) ≡ false) ks → All (λ k. k < 2 ^ 64) ks
all_small n ks fits most =
    All-weaker (λ k. is_lt (nat_cmp n k) ≡ false) (λ k. k < 2 ^ 64) (λ k is. let below : k ≤ n = ge_from_not_lt n k is in omega (arith, below, fits)) ks most

module _ {R : Type 0} where
  -- a map without entries has no key
  pub no_keys : (es : List (ℕ × R)) → (0 < length es → ⊥) → keys_of es ≡ []
  no_keys [] none = refl
  no_keys (e ∷ es) none = absurd (none (omega arith))

  -- a map has a key where it is one of the keys
  pub has_key : (es : List (ℕ × R)) (n : ℕ) → is_some (lookup (is_at (nat_cmp n)) es) ≡ list_any (λ k. nat_eq k n) (keys_of es)
  has_key [] n = refl
  has_key (e ∷ es) n =
      ap (λ (b : Bool). is_some (cond b (Some e.1) (lookup (is_at (nat_cmp n)) es))) (key_test n e.0)
      ∙ elim (nat_eq e.0 n) as (λ b. is_some (cond b (Some e.1) (lookup (is_at (nat_cmp n)) es)) ≡ (b || list_any (λ k. nat_eq k n) (keys_of es))) [
        | true ↦ refl
        | false ↦ has_key es n
      ]

-- without keys all have as few bits as are asked
pub none_small : (ks : List ℕ) → ks ≡ [] → All (λ k. k < 2 ^ 64) ks
none_small [] none = λ k d below. absurd (omega (arith, below))
none_small (n ∷ ns) none = absurd (omega (arith, ap (λ (l : List ℕ). length l) none))
