-- What a stack holds, by how many symbols stand.
use Rattle.std.proofs.Common.{◌≡◌, ℕ, zero, suc, ◌+◌, ◌-◌, ◌<◌, ◌≤◌, List, [], ◌∷◌, length, take, drop, refl, ap, arith}
use Rattle.std.proofs.Common.{add-one}

-- five symbols
abbrev pub five : {S : Type 0} → S → S → S → S → S → List S
five a b c d e = a ∷ b ∷ c ∷ d ∷ e ∷ []

-- the first n of five symbols are n in number, where n is at most 5
pub held : {S : Type 0} (n : ℕ) (a b c d e : S) → n ≤ 5 → length (take n (five a b c d e)) ≡ n
held zero a b c d e le = refl
held (suc zero) a b c d e le = refl
held (suc (suc zero)) a b c d e le = refl
held (suc (suc (suc zero))) a b c d e le = refl
held (suc (suc (suc (suc zero)))) a b c d e le = refl
held (suc (suc (suc (suc (suc zero))))) a b c d e le = refl
held (suc (suc (suc (suc (suc (suc n)))))) a b c d e le = absurd (omega (arith, le))

-- one symbol more
pub pushed : {S : Type 0} (n : ℕ) (x a b c d e : S) → n < 5 → take (n + 1) (five x a b c d) ≡ x ∷ take n (five a b c d e)
pushed zero x a b c d e lt = refl
pushed (suc zero) x a b c d e lt = refl
pushed (suc (suc zero)) x a b c d e lt = refl
pushed (suc (suc (suc zero))) x a b c d e lt = refl
pushed (suc (suc (suc (suc zero)))) x a b c d e lt = refl
pushed (suc (suc (suc (suc (suc n))))) x a b c d e lt = absurd (omega (arith, lt))

-- one less
pub popped : {S : Type 0} (n : ℕ) (a b c d e : S) → 0 < n → n ≤ 5 → take n (five a b c d e) ≡ a ∷ take (n - 1) (five b c d e e)
popped zero a b c d e lt le = absurd (omega (arith, lt))
popped (suc zero) a b c d e lt le = refl
popped (suc (suc zero)) a b c d e lt le = refl
popped (suc (suc (suc zero))) a b c d e lt le = refl
popped (suc (suc (suc (suc zero)))) a b c d e lt le = refl
popped (suc (suc (suc (suc (suc zero))))) a b c d e lt le = refl
popped (suc (suc (suc (suc (suc (suc n)))))) a b c d e lt le = absurd (omega (arith, le))

-- another one first
pub replaced : {S : Type 0} (n : ℕ) (x a b c d e : S) → 0 < n → take n (five x b c d e) ≡ x ∷ drop 1 (take n (five a b c d e))
replaced zero x a b c d e lt = absurd (omega (arith, lt))
replaced (suc n) x a b c d e lt = refl

-- none
pub emptied : {S : Type 0} (n : ℕ) (a b c d e : S) → take n (five a b c d e) ≡ [] → n ≡ 0
emptied zero a b c d e f = refl
emptied (suc n) a b c d e f = absurd cc
