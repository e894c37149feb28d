-- Decimal numbers are numbers of the grammar.
use Rattle.std.proofs.Common.{◌≡◌, ℕ, ◌+◌, ◌-◌, ◌*◌, ◌/◌, ◌%◌, ◌^◌, ◌<◌, ◌≤◌, Bool, true, List, [], ◌∷◌, ◌++◌, length, decimal, refl, sym, ap, ◌∙◌, arith}
use Rattle.std.proofs.lemmas.Fmt.{decimal_by_steps, decimal_nonempty, length-decimal-le}
use Rattle.imap_types.proofs.EachLemmas.{each_append, each_to}
use Rattle.imap_types.specs.Octets.{is_digit}
use Rattle.imap_types.specs.Texts.{Each}
use Rattle.imap_types.specs.Numbers.{value_from, IsNumber, IsNonZero, IsLong}
use Rattle.store_responses.specs.Sendable.{IsNonZeroNumber}

pub digit_octet : (d : ℕ) → d < 10 → is_digit (48 + d) ≡ true
digit_octet d lt = grind arith

value_last : (v : ℕ) (t : List ℕ) (c : ℕ) → value_from v (t ++ c ∷ []) ≡ 10 * value_from v t + (c - 48)
value_last v [] c = refl
value_last v (d ∷ t) c = value_last (10 * v + (d - 48)) t c

abbrev IsNumeral : ℕ → List ℕ → Type 0
IsNumeral n ds = Each is_digit ds × (value_from 0 ds ≡ n)

one_digit : (n : ℕ) → n < 10 → IsNumeral n ((48 + n) ∷ [])
one_digit n lt = ((digit_octet n lt, tt), omega arith)

more_digits : (n : ℕ) (ds : List ℕ) → 10 ≤ n → IsNumeral (n / 10) ds → IsNumeral n (ds ++ (48 + n % 10) ∷ [])
more_digits n ds ge h =
    let last : 10 * (n / 10) + (48 + n % 10 - 48) ≡ n = omega arith in (
      each_append is_digit ds ((48 + n % 10) ∷ []) h.0 (digit_octet (n % 10) (omega arith), tt),
      value_last 0 ds (48 + n % 10) ∙ ap (λ v. 10 * v + (48 + n % 10 - 48)) h.1 ∙ last,
    )

numeral : (n : ℕ) → n < 2 ^ 64 → IsNumeral n (decimal n)
numeral n lt = decimal_by_steps IsNumeral one_digit more_digits n lt

-- its digits are of each class that all digits are of
pub decimal_class : (p : ℕ → Bool) (n : ℕ) → ((c : ℕ) → is_digit c ≡ true → p c ≡ true) → n < 2 ^ 64 → Each p (decimal n)
decimal_class p n f lt = each_to is_digit p (decimal n) f (numeral n lt).0

pub number_text : (n : ℕ) → n < 2 ^ 32 → IsNumber n (decimal n)
number_text n lt =
    let fits : n < 2 ^ 64 = omega arith in
    let h = numeral n fits in
    record {
      digits = h.0;
      some = decimal_nonempty n fits;
      few = length-decimal-le 10 n (omega arith) (omega arith) fits;
      value = sym h.1;
      most = omega arith;
    }

pub nonzero_text : (n : ℕ) → IsNonZeroNumber n → IsNonZero n (decimal n)
nonzero_text n h = (number_text n h.1, h.0)

pub long_text : (n : ℕ) → n < 2 ^ 63 → IsLong n (decimal n)
long_text n lt =
    let fits : n < 2 ^ 64 = omega arith in
    let h = numeral n fits in
    record {
      digits = h.0;
      some = decimal_nonempty n fits;
      few = length-decimal-le 19 n (omega arith) (omega arith) fits;
      value = sym h.1;
      most = omega arith;
    }

-- up to 50000000 it has at most eight digits
pub count_few : (n : ℕ) → n ≤ 50000000 → length (decimal n) ≤ 8
count_few n le = length-decimal-le 8 n (omega arith) (omega arith) (omega arith)

pub decimal_some : (n : ℕ) → n < 2 ^ 64 → 0 < length (decimal n)
decimal_some n lt = decimal_nonempty n lt

pub decimal_value : (n : ℕ) → n < 2 ^ 64 → n ≡ value_from 0 (decimal n)
decimal_value n lt = sym (numeral n lt).1
