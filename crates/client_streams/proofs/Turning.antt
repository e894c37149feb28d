-- A list whose elements go on, one after another.
use Rattle.std.proofs.Common.{◌≡◌, ◌+◌, ◌<◌, ◌++◌, ℕ, List, [], ◌∷◌, length, take, drop, suc, get_or, sym, ap, ◌∙◌, add-one, arith}
use Rattle.std.proofs.Math.Seq.{drop-cons, take-suc}

head-is : {A : Type 0} (a b : A) (xs ys : List A) → a ∷ xs ≡ b ∷ ys → a ≡ b
head-is a b xs ys same = cc

tail-is : {A : Type 0} (a b : A) (xs ys : List A) → a ∷ xs ≡ b ∷ ys → xs ≡ ys
tail-is a b xs ys same = cc

no-cons : {A : Type 0} (b : A) (ys : List A) → [] ≡ b ∷ ys → ⊥
no-cons b ys same = cc

module _ {A : Type 0} where
  -- the one that comes next, and those behind it
  next-both : (all kept rest : List A) (turn : ℕ) (next : A) → turn < length all → next ∷ rest ≡ drop turn all ++ kept
      → next ∷ rest ≡ get_or all turn next ∷ (drop (suc turn) all ++ kept)
  next-both all kept rest turn next within is = is ∙ ap (λ (l : List A). l ++ kept) (drop-cons all turn next within)

  pub next-left : (all kept rest : List A) (turn : ℕ) (next : A) → turn < length all → next ∷ rest ≡ drop turn all ++ kept
      → rest ≡ drop (turn + 1) all ++ kept
  next-left all kept rest turn next within is =
      tail-is next (get_or all turn next) rest (drop (suc turn) all ++ kept) (next-both all kept rest turn next within is)
      ∙ ap (λ (n : ℕ). drop n all ++ kept) (sym (add-one turn))

  pub next-taken : (all kept rest : List A) (turn : ℕ) (next : A) → turn < length all → next ∷ rest ≡ drop turn all ++ kept
      → take turn all ++ next ∷ [] ≡ take (turn + 1) all
  next-taken all kept rest turn next within is =
      ap (λ (a : A). take turn all ++ a ∷ [])
      (head-is next (get_or all turn next) rest (drop (suc turn) all ++ kept) (next-both all kept rest turn next within is))
      ∙ sym (take-suc all turn next within) ∙ ap (λ (n : ℕ). take n all) (sym (add-one turn))

  pub some-left : (all kept : List A) (turn : ℕ) (next : A) → turn < length all → [] ≡ drop turn all ++ kept → ⊥
  some-left all kept turn next within is =
      no-cons (get_or all turn next) (drop (suc turn) all ++ kept) (is ∙ ap (λ (l : List A). l ++ kept) (drop-cons all turn next within))

  pub has-some : (all : List A) (turn : ℕ) → turn < length all → A
  has-some [] turn within = absurd (omega (arith, within))
  has-some (first ∷ rest) turn within = first
