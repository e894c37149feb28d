-- What `split_once` gives, by what stands before and after the first of a mark.
use Rattle.std.proofs.Common.{◌≡◌, ◌<◌, ◌+◌, ℕ, List, [], ◌==◌, length, take, drop, Some, None, Bor, sym, ap, ◌∙◌, arith}
use Rattle.std.specs.List.{before_first, after_first, position_or_len}
use Rattle.std.proofs.Math.ListN.{drop_of_length-le}
use Rattle.std.proofs.Math.Seq.{take-length}
use Rattle.std.proofs.lemmas.Str.Pattern.{IsSplitOnceResult, split_once_first}

-- where the mark is found, what is given stands before and after the first of them
pub cut-some : (c : ℕ) (bs : List ℕ) (x : Bor (List ℕ) × Bor (List ℕ)) → IsSplitOnceResult c bs (Some x) → c < 128
    → (x.0.now ≡ before_first (λ b. b == c) bs) × (x.1.now ≡ after_first (λ b. b == c) bs)
cut-some c bs x given small = let parts = split_once_first c bs (Some x) given small in (parts.1, parts.2)

-- where no mark is found, the whole text stands before it, and nothing after it
pub cut-none : (c : ℕ) (bs : List ℕ) → IsSplitOnceResult c bs None → c < 128 → (bs ≡ before_first (λ b. b == c) bs) × ([] ≡ after_first (λ b. b == c) bs)
cut-none c bs given small =
    let none : position_or_len (λ b. b == c) bs ≡ length bs = split_once_first c bs None given small in (
      sym (ap (λ (n : ℕ). take n bs) none ∙ take-length bs),
      sym (ap (λ (n : ℕ). drop (n + 1) bs) none ∙ drop_of_length-le bs (omega arith)),
    )
