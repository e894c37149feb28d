-- What holds of the whole lines of octets.
use Rattle.std.proofs.Common.{◌≡◌, ℕ, ◌+◌, ◌-◌, ◌<◌, ◌≤◌, zero, suc, Bool, true, false, ◌||◌, List, [], ◌∷◌, ◌++◌, length, get_or, take, refl, sym, ap, ◌∙◌, arith, eqb}
use Rattle.std.proofs.Common.{if◌then◌else◌}
use Rattle.std.specs.List.{list_any}
use Rattle.std.proofs.lemmas.List.{take_more}
use Rattle.std.proofs.lemmas.List.Folds.{list_any-append}
use Rattle.told_folder.specs.Tell.{whole_lines}

abbrev pub has_end : List ℕ → Bool
has_end bs = list_any (λ c. eqb c 10) bs

or_false : (a b : Bool) → b ≡ false → (a || (b || false)) ≡ a
or_false true b e = refl
or_false false b e = ap (λ v. v || false) e

or_true : (a b : Bool) → b ≡ true → (a || (b || false)) ≡ true
or_true true b e = refl
or_true false b e = ap (λ v. v || false) e

-- octets with one more that isn't LF have an LF exactly where they had one without it
pub has_end_more : (bs : List ℕ) (b : ℕ) → eqb b 10 ≡ false → has_end (bs ++ b ∷ []) ≡ has_end bs
has_end_more bs b e = list_any-append (λ c. eqb c 10) bs (b ∷ []) ∙ or_false (has_end bs) (eqb b 10) e

-- octets that end in LF have an LF
pub has_end_last : (bs : List ℕ) (b : ℕ) → eqb b 10 ≡ true → has_end (bs ++ b ∷ []) ≡ true
has_end_last bs b e = list_any-append (λ c. eqb c 10) bs (b ∷ []) ∙ or_true (has_end bs) (eqb b 10) e

-- an octet after the last line end counts for nothing
pub lines_more : (bs : List ℕ) (b : ℕ) → eqb b 10 ≡ false → whole_lines (bs ++ b ∷ []) ≡ whole_lines bs
lines_more [] b e = ap (λ v. if v then b ∷ [] else []) (has_end_more [] b e)
lines_more (x ∷ xs) b e =
    ap (λ v. if v then x ∷ whole_lines (xs ++ b ∷ []) else []) (has_end_more (x ∷ xs) b e)
    ∙ ap (λ (zs : List ℕ). if has_end (x ∷ xs) then x ∷ zs else []) (lines_more xs b e)

-- octets that end in a line end are whole lines
pub lines_last : (bs : List ℕ) (b : ℕ) → eqb b 10 ≡ true → whole_lines (bs ++ b ∷ []) ≡ bs ++ b ∷ []
lines_last [] b e = ap (λ v. if v then b ∷ [] else []) (has_end_last [] b e)
lines_last (x ∷ xs) b e =
    ap (λ v. if v then x ∷ whole_lines (xs ++ b ∷ []) else []) (has_end_last (x ∷ xs) b e)
    ∙ ap (λ (zs : List ℕ). x ∷ zs) (lines_last xs b e)

take_one : (bs : List ℕ) (i : ℕ) → take (suc i) bs ≡ take (i + 1) bs
take_one bs i = let same : suc i ≡ i + 1 = omega arith in ap (λ j. take j bs) same

less_one : (i : ℕ) → (suc i) - 1 ≡ i
less_one i = omega arith

-- where the last of n octets isn't LF, their whole lines are those of one octet less
pub lines_passed : (bs : List ℕ) (n : ℕ) → 0 < n → n ≤ length bs → eqb (get_or bs (n - 1) 0) 10 ≡ false → whole_lines (take n bs) ≡ whole_lines (take (n - 1) bs)
lines_passed bs zero h w e = absurd (omega arith)
lines_passed bs (suc i) h w e =
    let at : eqb (get_or bs i 0) 10 ≡ false = ap (λ j. eqb (get_or bs j 0) 10) (sym (less_one i)) ∙ e in
    ap whole_lines (take_one bs i) ∙ ap whole_lines (take_more bs i 0 (omega arith)) ∙ lines_more (take i bs) (get_or bs i 0) at
    ∙ ap (λ j. whole_lines (take j bs)) (sym (less_one i))

-- where the last of n octets is LF, they are whole lines
pub lines_end : (bs : List ℕ) (n : ℕ) → 0 < n → n ≤ length bs → eqb (get_or bs (n - 1) 0) 10 ≡ true → whole_lines (take n bs) ≡ take n bs
lines_end bs zero h w e = absurd (omega arith)
lines_end bs (suc i) h w e =
    let at : eqb (get_or bs i 0) 10 ≡ true = ap (λ j. eqb (get_or bs j 0) 10) (sym (less_one i)) ∙ e in
    ap whole_lines (take_one bs i) ∙ ap whole_lines (take_more bs i 0 (omega arith)) ∙ lines_last (take i bs) (get_or bs i 0) at ∙ sym (take_more bs i 0 (omega arith))
    ∙ sym (take_one bs i)
