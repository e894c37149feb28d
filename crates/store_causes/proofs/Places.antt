-- Whether something holds at a place.
use Rattle.std.proofs.Common.{◌≡◌, ◌+◌, ◌-◌, ◌<◌, ◌||◌, ◌&&◌, ℕ, suc, Bool, true, false, not, sym, ◌∙◌, ap, arith}
use Rattle.std.specs.List.{list_any, range_with_len}

-- at the first place that is left, or at those behind it
unrolled : (p : ℕ → Bool) (at n : ℕ) → at < n
    → list_any p (range_with_len at (n - at)) ≡ (p at || list_any p (range_with_len (at + 1) (n - (at + 1))))
unrolled p at n less =
    let more : n - at ≡ suc (n - (at + 1)) = omega (arith, less) in ap (λ (k : ℕ). list_any p (range_with_len at k)) more

pub found : (p : ℕ → Bool) (empty : Bool) (at n : ℕ) → empty ≡ false → at < n → list_any p (range_with_len 0 n) ≡ list_any p (range_with_len at (n - at))
    → p at ≡ true → true ≡ (not empty && list_any p (range_with_len 0 n))
found p empty at n some less so here =
    let any : list_any p (range_with_len 0 n) ≡ true =
    so ∙ unrolled p at n less ∙ ap (λ (b : Bool). b || list_any p (range_with_len (at + 1) (n - (at + 1)))) here in
    sym (λ i. not (some i) && any i)

pub passed : (p : ℕ → Bool) (at n : ℕ) → at < n → list_any p (range_with_len 0 n) ≡ list_any p (range_with_len at (n - at)) → p at ≡ false
    → list_any p (range_with_len 0 n) ≡ list_any p (range_with_len (at + 1) (n - (at + 1)))
passed p at n less so none = so ∙ unrolled p at n less ∙ ap (λ (b : Bool). b || list_any p (range_with_len (at + 1) (n - (at + 1)))) none
