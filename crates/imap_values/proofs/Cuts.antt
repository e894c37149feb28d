-- Where a run of octets of a class ends.
use Rattle.std.proofs.Common.{◌≡◌, ℕ, suc, ◌+◌, ◌-◌, ◌*◌, ◌<◌, ◌≤◌, Bool, true, false, List, [], ◌∷◌, ◌++◌, length, take, drop, get_or, cond, refl, sym, ap, ◌∙◌, arith}
use Rattle.std.specs.Prelude.{nat_lt, nat_le}
use Rattle.std.proofs.lemmas.Bool.{cond-true, cond-false, leb-true, leb-false, le-leb, false_from_ne_true}
use Rattle.std.proofs.lemmas.List.{map-append}
use Rattle.std.proofs.Math.Seq.{take-append_seam, drop-append_seam}
use Rattle.imap_values.specs.Spans.{span, cap, count_from, number_from, number_in, long_value}
use Rattle.imap_types.specs.Octets.{is_digit, is_text, is_word, is_atom, lower}
use Rattle.imap_types.specs.Texts.{Each, plain_of, plain_octets}
use Rattle.imap_types.specs.Numbers.{value_from}

abbrev pub small : ℕ → Bool
small c = nat_lt c 256

-- ---- octets of a class are below 256

-- a digit
pub digit_small : (c : ℕ) → is_digit c ≡ true → small c ≡ true
digit_small c e = grind arith

-- an octet of a word
pub word_small : (c : ℕ) → is_word c ≡ true → small c ≡ true
word_small c e = grind arith

-- an octet of text
pub text_small : (c : ℕ) → is_text c ≡ true → small c ≡ true
text_small c e = grind arith

-- one whose lower case is below 256
pub small_lower : (c : ℕ) → small (lower c) ≡ true → small c ≡ true
small_lower c e = grind arith

-- an octet of an atom
pub atom_small : (c : ℕ) → is_atom c ≡ true → small c ≡ true
atom_small c e = grind arith

-- ---- texts of such octets are plain

-- a text whose octets are all below 256 is its own plain octets
pub plain_small : (x : List ℕ) → Each small x → plain_octets x ≡ x
plain_small [] h = refl
plain_small (c ∷ x) h = let e : plain_of c ≡ c = cond-true (nat_lt c 256) c (c - 256) h.0 in let r = plain_small x h.1 in cc

-- where all octets of a front are below 256, the plain octets of a text are that front and those of the rest
pub plain_join : (x y : List ℕ) → Each small x → plain_octets (x ++ y) ≡ x ++ plain_octets y
plain_join x y h = map-append plain_of x y ∙ ap (λ (u : List ℕ). u ++ plain_octets y) (plain_small x h)

-- ---- a run of a class, and what stands after it

-- octets of a class, with none of it next, are the whole run at the front
pub span_at : (p : ℕ → Bool) (x y : List ℕ) → Each p x → p (get_or y 0 0) ≡ false → span p (x ++ y) ≡ length x
unfolding span
span_at p [] [] h e = refl
span_at p [] (c ∷ y) h e = cond-false (p c) (suc (span p y)) 0 e
span_at p (c ∷ x) y h e = cond-true (p c) (suc (span p (x ++ y))) 0 h.0 ∙ ap (λ (n : ℕ). suc n) (span_at p x y h.1 e)

drop_suc : (x y : List ℕ) (c : ℕ) → drop (suc (length x)) (x ++ c ∷ y) ≡ y
drop_suc [] y c = refl
drop_suc (d ∷ x) y c = drop_suc x y c

drop_past : (x y : List ℕ) (c : ℕ) → drop (length x + 1) (x ++ c ∷ y) ≡ y
drop_past x y c = let e : length x + 1 ≡ suc (length x) = omega arith in ap (λ (n : ℕ). drop n (x ++ c ∷ y)) e ∙ drop_suc x y c

get_front : (x y : List ℕ) → get_or (x ++ y) (length x) 0 ≡ get_or y 0 0
get_front [] y = refl
get_front (c ∷ x) y = get_front x y

-- octets cut after a run of a class
pub record CutAt (p : ℕ → Bool) (x y b : List ℕ) : Type 0 where
  pub count : span p b ≡ length x
  pub front : take (span p b) b ≡ x
  pub back : drop (span p b) b ≡ y
  pub octet : get_or b (span p b) 0 ≡ get_or y 0 0
  pub past : (c : ℕ) (z : List ℕ) → y ≡ c ∷ z → drop (span p b + 1) b ≡ z

-- octets of a class, with none of it next, are cut from what follows them
pub cut_at : (p : ℕ → Bool) (x y b : List ℕ) → b ≡ x ++ y → Each p x → p (get_or y 0 0) ≡ false → CutAt p x y b
cut_at p x y b e h o =
    let n : span p b ≡ length x = ap (span p) e ∙ span_at p x y h o in
    record {
      count = n;
      front = ap (λ (k : ℕ). take k b) n ∙ ap (take (length x)) e ∙ take-append_seam x y;
      back = ap (λ (k : ℕ). drop k b) n ∙ ap (drop (length x)) e ∙ drop-append_seam x y;
      octet = ap (λ (k : ℕ). get_or b k 0) n ∙ ap (λ (u : List ℕ). get_or u (length x) 0) e ∙ get_front x y;
      past = λ c z f. ap (λ (k : ℕ). drop (k + 1) b) n ∙ ap (drop (length x + 1)) (e ∙ ap (λ (u : List ℕ). x ++ u) f) ∙ drop_past x z c;
    }

-- ---- numbers

cap_more : (most v d : ℕ) → cap most (10 * cap most v + d) ≡ cap most (10 * v + d)
cap_more most v d = by (nat_le v most) refl
  where
    past : (n : ℕ) → most + 1 ≤ n → cap most n ≡ most + 1
    past n lt = cond-false (nat_le n most) n (most + 1) (false_from_ne_true (nat_le n most) (λ e. let le = leb-true n most e in omega (arith, le, lt)))

    by : (b : Bool) → nat_le v most ≡ b → cap most (10 * cap most v + d) ≡ cap most (10 * v + d)
    by true e = ap (λ (n : ℕ). cap most (10 * n + d)) (cond-true (nat_le v most) v (most + 1) e)
    by false e =
        let over : most < v = leb-false v most e in
        let is : cap most v ≡ most + 1 = cond-false (nat_le v most) v (most + 1) e in
        past (10 * cap most v + d) (omega (arith, is)) ∙ sym (past (10 * v + d) (omega (arith, over)))

count_capped : (most v : ℕ) (t : List ℕ) → count_from most (cap most v) t ≡ cap most (value_from v t)
unfolding count_from
count_capped most v [] = refl
count_capped most v (c ∷ t) = ap (λ (n : ℕ). count_from most n t) (cap_more most v (c - 48)) ∙ count_capped most (10 * v + (c - 48)) t

cap_small : (most n : ℕ) → n ≤ most → cap most n ≡ n
cap_small most n le = cond-true (nat_le n most) n (most + 1) (le-leb n most le)

-- a number counted up from 0 is the digits' value, or 2^32 where that is greater
pub number_from_is : (t : List ℕ) → number_from 0 t ≡ cap 4294967295 (value_from 0 t)
number_from_is t = count_capped 4294967295 0 t

-- digits whose value is below 2^32 are read as that value
pub number_is : (t : List ℕ) → value_from 0 t ≤ 4294967295 → number_in t ≡ value_from 0 t
number_is t le =
    let e : number_from 0 t ≡ value_from 0 t = number_from_is t ∙ cap_small 4294967295 (value_from 0 t) le in
    ap (λ (n : ℕ). cond (nat_le n 4294967295) n 4294967295) e ∙ cond-true (nat_le (value_from 0 t) 4294967295) (value_from 0 t) 4294967295 (le-leb (value_from 0 t) 4294967295 le)

-- digits whose value is below 2^63 are read as that value
pub long_is : (t : List ℕ) → value_from 0 t ≤ 9223372036854775807 → long_value t ≡ value_from 0 t
long_is t le = count_capped 9223372036854775807 0 t ∙ cap_small 9223372036854775807 (value_from 0 t) le

-- a number below 2^32 stays below it when it is capped
pub capped_le : (n : ℕ) → n ≤ 4294967295 → cap 4294967295 n ≤ 4294967295
capped_le n le = let e = cap_small 4294967295 n le in omega (arith, e, le)

-- a 63-bit number is read as the digits' value, or as 2^63 where that is greater
pub long_capped : (t : List ℕ) → long_value t ≡ cap 9223372036854775807 (value_from 0 t)
long_capped t = count_capped 9223372036854775807 0 t

-- a number that is at most `most` once it is capped is at most `most` itself
pub within_cap : (most n : ℕ) → cap most n ≤ most → n ≤ most
within_cap most n le = by (nat_le n most) refl
  where
    by : (b : Bool) → nat_le n most ≡ b → n ≤ most
    by true e = leb-true n most e
    by false e = absurd (omega (arith, le, cond-false (nat_le n most) n (most + 1) e))
