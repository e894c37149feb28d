-- Decimal digits and the numbers that they write.
use Rattle.std.proofs.Common.{arith, inl, inr, not, ◌==◌, ◌||◌, nat_le, ◌≡◌, ◌<◌, ◌≤◌, ◌^◌, ℕ, zero, suc, List, true, length, get_or, decimal, Result, Ok, Err, sym, ap, ◌∙◌, subst}
use Rattle.std.proofs.lemmas.Bool.{leb-true, and_parts, and_from, or_left, or_right, or_cases}
use Rattle.std.proofs.lemmas.Bool.Decides.{eqb_tells}
use Rattle.std.proofs.lemmas.Fmt.{digits_decimal, decimal-digits_value, parse-decimal, first_decimal, decimal_digit}
use Rattle.std.proofs.lemmas.Str.Parse.{IsNumeralModel, numerals_by_value, tells_all_ascii_digits, parse_digits}
use Rattle.std.specs.Str.{all_ascii_digits}
use Rattle.std.specs.Str.Parse.{ParsesUnsigned, digits_value}
use Rattle.std.specs.Result.{OkIff}
use Rattle.jmap_arguments.specs.reading.PlainDigits.{is_plain}

own : IsNumeralModel (λ (ds : List ℕ). all_ascii_digits ds ≡ true) (digits_value 10)
own = numerals_by_value _ tells_all_ascii_digits

-- the first digit is the only one where it is 0
zero_alone : (n : ℕ) → n < 2 ^ 64 → get_or (decimal n) 0 0 ≡ 48 → length (decimal n) ≡ 1
zero_alone zero fits is = ap (λ (l : List ℕ). length l) (decimal_digit zero (omega arith))
zero_alone (suc n) fits is = absurd (omega (arith, is, first_decimal (suc n) (omega arith) fits))

-- a number's first digit isn't 0, or is its only one
not_led : (ds : List ℕ) → (get_or ds 0 0 ≡ 48 → length ds ≡ 1) → (nat_le (length ds) 1 || not (get_or ds 0 0 == 48)) ≡ true
not_led ds led = elim (eqb_tells (get_or ds 0 0) 48) [
  | inl is ↦ or_left _ _ (ap (λ (k : ℕ). nat_le k 1) (led is.1))
  | inr is ↦ or_right _ _ (ap not is.0)
]

-- the same the other way
led_by : (ds : List ℕ) → 0 < length ds → (nat_le (length ds) 1 || not (get_or ds 0 0 == 48)) ≡ true → get_or ds 0 0 ≡ 48 → length ds ≡ 1
led_by ds some so is = elim (or_cases _ _ so) [
  | inl few ↦ (let most : length ds ≤ 1 = leb-true (length ds) 1 few in omega (arith, some, most))
  | inr other ↦ absurd (cc (sym other ∙ ap (λ (c : ℕ). not (c == 48)) is))
]

-- numbers are written so
pub plain-decimal : (n : ℕ) → n < 2 ^ 64 → is_plain (decimal n) ≡ true
plain-decimal n fits = and_from _ _ (digits_decimal own n fits) (not_led (decimal n) (zero_alone n fits))

-- digits of which a number was read are those that write it
pub plain_read : {E : Type 0} (ds : List ℕ) (r : Result ℕ E) (n : ℕ) → is_plain ds ≡ true → ParsesUnsigned 64 10 ds r → r ≡ Ok n → ds ≡ decimal n
plain_read {E} ds r n plain parsed is =
    let parts = and_parts _ _ plain in
    let read : OkIff {E = E} (Ok n) ((0 < length ds) × (digits_value 10 ds < 2 ^ 64)) (digits_value 10 ds) =
    subst (λ (r : Result ℕ E). OkIff r ((0 < length ds) × (digits_value 10 ds < 2 ^ 64)) (digits_value 10 ds)) is (parse_digits own 64 ds r parsed parts.0) in
    sym (decimal-digits_value own ds parts.0 read.0.0 (led_by ds read.0.0 parts.1) read.0.1) ∙ ap decimal (sym read.1)

-- no number is written by digits of which none was read
pub plain_unread : {E : Type 0} (ds : List ℕ) (r : Result ℕ E) (e : E) (n : ℕ) → n < 2 ^ 64 → ParsesUnsigned 64 10 ds r → r ≡ Err e → ds ≡ decimal n → ⊥
plain_unread ds r e n fits parsed failed is = cc (failed, parse-decimal 64 n ds r fits fits is parsed)
