-- What the code of a status line is read of: numbers and sets of UIDs.
use Rattle.std.proofs.Common.{◌≡◌, ℕ, zero, suc, ◌-◌, ◌<◌, ◌≤◌, Bool, true, false, ◌&&◌, List, [], ◌∷◌, ◌++◌, length, refl, sym, ap, ◌∙◌, append_assoc, arith, Option, Some, None}
use Rattle.std.specs.Prelude.{nat_lt, nat_le}
use Rattle.std.proofs.lemmas.Bool.{and_parts, and_from, ltb-true, leb-true, lt-ltb, le-leb}
use Rattle.imap_automaton.proofs.Tests.{both}
use Rattle.imap_types.specs.declared.uid_set.UidRange.{UidRange}
use Rattle.imap_types.specs.Numbers.{value_from, IsNonZero, IsLong}
use Rattle.imap_types.specs.reading.CodeReading.{cut, nonzero_in, long_in, range_in, one_in_set, more_in_set, ranges_in}
use Rattle.imap_types.proofs.CodeLemmas.{nonzero_sound, nonzero_complete, long_sound, long_complete}
use Rattle.imap_grammar.specs.reading.Codes.{put_ranges}
use Rattle.imap_grammar.specs.reading.Reading as reading
use Rattle.imap_values.proofs.Cuts.{number_is, long_is, long_capped, within_cap}
use Rattle.imap_grammar.proofs.Readings.{sequence_true, true_sequence, digits_true, true_digits}

-- ---- numbers

nonzero_none : (t : List ℕ) → ((n : ℕ) → IsNonZero n t → ⊥) → None ≡ nonzero_in t
nonzero_none t h = by (nonzero_in t) refl
  where
    by : (o : Option ℕ) → nonzero_in t ≡ o → None ≡ o
    by None e = refl
    by (Some n) e = absurd (h n (nonzero_sound t n e))

-- a text that fails the test for a number isn't read as a nonzero number
pub no_sequence : (t : List ℕ) (b : Bool) → b ≡ reading.is_sequence t → b ≡ false → None ≡ nonzero_in t
no_sequence t b is fails = nonzero_none t (λ n h. both (reading.is_sequence t) (sequence_true n t h.0) (sym is ∙ fails))

-- a text whose digits come to 0 isn't read as a nonzero number
pub zero_sequence : (t : List ℕ) (n : ℕ) → n ≡ reading.number_in t → n ≤ 0 → None ≡ nonzero_in t
zero_sequence t n is le = nonzero_none t (λ m h.
    let value : reading.number_in t ≡ value_from 0 t = number_is t (omega (arith, h.0.value, h.0.most)) in
    omega (arith, is, value, h.0.value, h.1, le))

-- a text that passes the test for a number, and whose digits come to more than 0, is read as that nonzero number
pub nonzero_sequence : (t : List ℕ) (b : Bool) (n : ℕ) → b ≡ reading.is_sequence t → b ≡ true → n ≡ reading.number_in t → 0 < n → Some n ≡ nonzero_in t
nonzero_sequence t b n is holds value lt =
    let number = true_sequence t (sym is ∙ holds) in
    let same : n ≡ value_from 0 t = value ∙ number_is t number.most in
    ap (λ (m : ℕ). Some m) same ∙ sym (nonzero_complete (value_from 0 t) t (number, omega (arith, same, lt)))

pub ruleset numbers = (no_sequence, zero_sequence, nonzero_sequence)

abbrev pub few_digits : List ℕ → Bool
few_digits t = nat_lt 0 (length t) && nat_le (length t) 19 && reading.all_digits t

long_none : (t : List ℕ) → ((n : ℕ) → IsLong n t → ⊥) → None ≡ long_in t
long_none t h = by (long_in t) refl
  where
    by : (o : Option ℕ) → long_in t ≡ o → None ≡ o
    by None e = refl
    by (Some n) e = absurd (h n (long_sound t n e))

-- a text that isn't one to nineteen digits isn't read as a 63-bit number
pub no_long : (t : List ℕ) (b : Bool) → b ≡ few_digits t → b ≡ false → None ≡ long_in t
no_long t b is fails = long_none t (λ n h. both (few_digits t) (and_from _ _ (and_from _ _ (lt-ltb 0 (length t) h.some) (le-leb (length t) 19 h.few)) (digits_true t h.digits))
    (sym is ∙ fails))

-- a text whose digits come to 2^63 or more isn't read as a 63-bit number
pub great_long : (t : List ℕ) (n : ℕ) → n ≡ reading.long_value t → 9223372036854775807 < n → None ≡ long_in t
great_long t n is lt = long_none t (λ m h.
    let value : reading.long_value t ≡ value_from 0 t = long_is t (omega (arith, h.value, h.most)) in
    omega (arith, is, value, h.value, h.most, lt))

-- a text of one to nineteen digits that come to less than 2^63 is read as that 63-bit number
pub some_long : (t : List ℕ) (b : Bool) (n : ℕ) → b ≡ few_digits t → b ≡ true → n ≡ reading.long_value t → n ≤ 9223372036854775807 → Some n ≡ long_in t
some_long t b n is holds value le =
    let p = and_parts (nat_lt 0 (length t) && nat_le (length t) 19) (reading.all_digits t) (sym is ∙ holds) in
    let q = and_parts (nat_lt 0 (length t)) (nat_le (length t) 19) p.0 in
    let most : value_from 0 t ≤ 9223372036854775807 = within_cap 9223372036854775807 (value_from 0 t) (omega (arith, sym (long_capped t), value, le)) in
    let same : n ≡ value_from 0 t = value ∙ long_is t most in
    ap (λ (m : ℕ). Some m) same
    ∙ sym (long_complete (value_from 0 t) t (record { digits = true_digits t p.1; some = ltb-true 0 (length t) q.0; few = leb-true (length t) 19 q.1; value = refl; most = most }))

pub ruleset longs = (no_long, great_long, some_long)

-- ---- sets of UIDs

-- where what is left has no comma, the set is the ranges so far and the one that is left
pub last_range : (ranges : List UidRange) (left : ℕ) (rest : List ℕ) (all : Option (List UidRange)) → 0 < left → cut 44 rest ≡ None → put_ranges ranges (ranges_in left rest) ≡ all
    → put_ranges ranges (one_in_set (range_in rest)) ≡ all
unfolding ranges_in
last_range ranges zero rest all lt e h = absurd (omega (arith, lt))
last_range ranges (suc most) rest all lt e h =
    sym (ap (λ (o : Option (List ℕ × List ℕ)). put_ranges ranges (elim o [ None ↦ one_in_set (range_in rest) | Some r ↦ more_in_set (range_in r.0) (ranges_in most r.1) ])) e) ∙ h

-- where what is left is cut at a comma, the set is the ranges so far, the one before the comma and those after it
pub next_range : (ranges : List UidRange) (left : ℕ) (rest front back : List ℕ) (all : Option (List UidRange)) → 0 < left → cut 44 rest ≡ Some (front, back)
    → put_ranges ranges (ranges_in left rest) ≡ all → put_ranges ranges (more_in_set (range_in front) (ranges_in (left - 1) back)) ≡ all
unfolding ranges_in
next_range ranges zero rest front back all lt e h = absurd (omega (arith, lt))
next_range ranges (suc most) rest front back all lt e h =
    let less : suc most - 1 ≡ most = omega arith in
    ap (λ (n : ℕ). put_ranges ranges (more_in_set (range_in front) (ranges_in n back))) less
    ∙ sym (ap (λ (o : Option (List ℕ × List ℕ)). put_ranges ranges (elim o [ None ↦ one_in_set (range_in rest) | Some r ↦ more_in_set (range_in r.0) (ranges_in most r.1) ])) e) ∙ h

-- putting ranges after those so far and one more is putting the one and them after those so far
pub put_more : (ranges : List UidRange) (r : UidRange) (o : Option (List UidRange)) → put_ranges (ranges ++ r ∷ []) o ≡ put_ranges ranges (more_in_set (Some r) o)
put_more ranges r None = refl
put_more ranges r (Some rs) = ap (λ (q : List UidRange). Some q) (append_assoc ranges (r ∷ []) rs)

-- where no more ranges may be read, there is no set
pub no_more : (ranges : List UidRange) (left : ℕ) (rest : List ℕ) (all : Option (List UidRange)) → left ≡ 0 → put_ranges ranges (ranges_in left rest) ≡ all → None ≡ all
unfolding ranges_in
no_more ranges left rest all e h = ap (λ (n : ℕ). put_ranges ranges (ranges_in n rest)) (sym e) ∙ h
