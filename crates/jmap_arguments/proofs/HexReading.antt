-- Hexadecimal digits that are read from the last one on.
use Rattle.std.proofs.Common.{◌≡◌, ◌<◌, ◌≤◌, ◌^◌, ℕ, Bool, true, false, ◌==◌, zero, suc, ◌+◌, ◌-◌, ◌*◌, ◌/◌, ◌%◌, List, [], ◌∷◌, ◌++◌, length, take, drop, get_or, refl, sym, ap}
use Rattle.std.proofs.Common.{◌∙◌}
use Rattle.std.proofs.Common.{arith}
use Rattle.std.proofs.lemmas.Bool.{eqb-true}
use Rattle.std.proofs.Math.Nat.{pow-suc, pow-le-pow_right}
use Rattle.std.proofs.Math.Seq.{take-append_seam, drop-append_seam}
use Rattle.std.proofs.lemmas.List.{take-append-drop, length-append}
use Rattle.jmap_arguments.specs.State.{hex_digit, hex_text}
use Rattle.jmap_arguments.proofs.HexText.{hex-last}

-- how many digits there are
pub length-hex : (width n : ℕ) → length (hex_text width n) ≡ width
unfolding hex_text
length-hex zero n = refl
length-hex (suc width) n = omega (arith, length-append (hex_text width (n / 16)) (hex_digit (n % 16) ∷ []), length-hex width (n / 16))

-- digits are those before the last one, and that one
pub hex_parted : (ds : List ℕ) (n : ℕ) → 0 < length ds → ds ≡ hex_text (length ds) n → ds ≡ hex_text (length ds - 1) (n / 16) ++ hex_digit (n % 16) ∷ []
hex_parted ds n some is = is ∙ hex-last (length ds) n (λ none. absurd (omega (arith, some, none)))

-- the digits before the last one
pub hex_front : (ds front : List ℕ) (n : ℕ) → 0 < length ds → front ≡ take (length ds - 1) ds → ds ≡ hex_text (length ds) n
    → front ≡ hex_text (length front) (n / 16)
hex_front ds front n some cut is =
    let left = hex_text (length ds - 1) (n / 16) in
    let long : length left ≡ length ds - 1 = length-hex (length ds - 1) (n / 16) in
    let seam : take (length left) (left ++ hex_digit (n % 16) ∷ []) ≡ left = take-append_seam left (hex_digit (n % 16) ∷ []) in
    let front_is : front ≡ left = cut ∙ ap (λ (l : List ℕ). take (length ds - 1) l) (hex_parted ds n some is) ∙ ap (λ (k : ℕ). take k (left ++ hex_digit (n % 16) ∷ [])) (sym long)
    ∙ seam in
    front_is ∙ ap (λ (k : ℕ). hex_text k (n / 16)) (sym (ap (λ (l : List ℕ). length l) front_is ∙ long))

-- the last one
pub hex_back : (ds back : List ℕ) (n : ℕ) → 0 < length ds → back ≡ drop (length ds - 1) ds → ds ≡ hex_text (length ds) n → get_or back 0 0 ≡ hex_digit (n % 16)
hex_back ds back n some cut is =
    let left = hex_text (length ds - 1) (n / 16) in
    let long : length left ≡ length ds - 1 = length-hex (length ds - 1) (n / 16) in
    let seam : drop (length left) (left ++ hex_digit (n % 16) ∷ []) ≡ hex_digit (n % 16) ∷ [] = drop-append_seam left (hex_digit (n % 16) ∷ []) in
    let back_is : back ≡ hex_digit (n % 16) ∷ [] = cut ∙ ap (λ (l : List ℕ). drop (length ds - 1) l) (hex_parted ds n some is) ∙ ap
    (λ (k : ℕ). drop k (left ++ hex_digit (n % 16) ∷ [])) (sym long) ∙ seam in
    ap (λ (l : List ℕ). get_or l 0 0) back_is

-- a text of one octet is that octet
one_octet : (back : List ℕ) (octet : ℕ) → length back ≡ 1 → get_or back 0 0 ≡ octet → back ≡ octet ∷ []
one_octet (c ∷ []) octet one is = ap (λ (x : ℕ). x ∷ []) is
one_octet [] octet one is = absurd (omega (arith, one))
one_octet (c ∷ d ∷ l) octet one is = absurd (omega (arith, one))

-- digits that are put together
pub hex_joined : (ds front back : List ℕ) (n digit : ℕ) → 0 < length ds → front ≡ take (length ds - 1) ds → back ≡ drop (length ds - 1) ds → length front ≡ length ds - 1
    → length back ≡ 1 → front ≡ hex_text (length front) n → get_or back 0 0 ≡ hex_digit digit → digit < 16 → ds ≡ hex_text (length ds) (n * 16 + digit)
hex_joined ds front back n digit some front_cut back_cut front_long one left last small =
    let whole : front ++ back ≡ ds = ap (λ (l : List ℕ). l ++ back) front_cut ∙ ap (λ (l : List ℕ). take (length ds - 1) ds ++ l) back_cut ∙ take-append-drop (length ds - 1) ds in
    let high : (n * 16 + digit) / 16 ≡ n = omega (arith, small) in
    let low : (n * 16 + digit) % 16 ≡ digit = omega (arith, small) in
    let front_is : front ≡ hex_text (length ds - 1) ((n * 16 + digit) / 16) = left ∙ ap (λ (k : ℕ). hex_text k n) front_long ∙ ap (λ (m : ℕ). hex_text (length ds - 1) m)
    (sym high) in
    let back_is : back ≡ hex_digit ((n * 16 + digit) % 16) ∷ [] = one_octet back (hex_digit digit) one last ∙ ap (λ (d : ℕ). hex_digit d ∷ []) (sym low) in
    sym whole ∙ ap (λ (l : List ℕ). l ++ back) front_is ∙ ap (λ (l : List ℕ). hex_text (length ds - 1) ((n * 16 + digit) / 16) ++ l) back_is
    ∙ sym (hex-last (length ds) (n * 16 + digit) (λ none. absurd (omega (arith, some, none))))

-- no digit is the number 0
pub hex_none : (ds : List ℕ) → length ds ≡ 0 → (0 < 16 ^ length ds) × (ds ≡ hex_text (length ds) 0)
unfolding hex_text
hex_none [] none = (omega arith, refl)
hex_none (c ∷ ds) none = absurd (omega (arith, none))

-- whether there are digits, as a test says
pub some_by : (ds : List ℕ) (b : Bool) → b ≡ (length ds == 0) → b ≡ false → 0 < length ds
some_by [] b is not_so = absurd (cc (is, not_so))
some_by (c ∷ ds) b is not_so = omega arith

-- where the test says so, there are no digits
pub none_by : (ds : List ℕ) (b : Bool) → b ≡ (length ds == 0) → b ≡ true → length ds ≡ 0
none_by ds b is so = eqb-true (length ds) 0 (sym is ∙ so)

-- one digit more
pub hex_below : (k n digit : ℕ) → n < 16 ^ k → digit < 16 → n * 16 + digit < 16 ^ suc k
hex_below k n digit small one = omega (arith, small, one, pow-suc 16 k)

-- sixteen digits are a word
pub hex_fits : (k n : ℕ) → k ≤ 16 → n < 16 ^ k → n < 2 ^ 64
hex_fits k n few small = omega (arith, small, pow-le-pow_right {n = 16} (omega arith) few)
