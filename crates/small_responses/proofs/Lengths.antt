-- How long the texts of responses are.
use Rattle.std.proofs.Common.{◌≡◌, inl, inr, ℕ, ◌+◌, ◌*◌, ◌/◌, ◌%◌, ◌^◌, ◌<◌, ◌≤◌, ◌==◌, ◌||◌, fold, ℤ, Bool, true, false, List, [], ◌∷◌, ◌++◌, length, codes, decimal, Option}
use Rattle.std.proofs.Common.{Some, None, IfSome, refl, sym, subst, arith, length-append, if◌then◌else◌}
use Rattle.std.proofs.lemmas.Fmt.{length-decimal-le}
use Rattle.imap_types.specs.declared.response.FetchItems.{FetchItems}
use Rattle.imap_types.specs.Commands.{literal_head}
use Rattle.imap_types.specs.Dates.{clock_text, date_text, day_at, day_text, day_text_of, four_digits, month_name, seconds_from}
use Rattle.imap_types.specs.Items.{AllNames, IsName}
use Rattle.imap_types.specs.Lines.{joined, spaced}
use Rattle.imap_types.specs.Strings.{escaped}
use Rattle.imap_types.specs.Texts.{crlf}
use Rattle.store_responses.specs.ResponseTexts.{count_text, flags_text, internal_date_text, item_texts, modseq_text, octets_text}
use Rattle.store_responses.specs.Sendable.{octets_of}
use Rattle.small_answers.specs.Limits.{text_limit, total_length}

-- ---- numbers

pub number_length : (n : ℕ) → n < 2 ^ 63 → length (decimal n) ≤ 19
number_length n l = length-decimal-le 19 n (omega arith) (omega (arith, l)) (omega (arith, l))

-- ---- texts with spaces between

-- with a space before each
abbrev pub with_spaces : List (List ℕ) → ℕ
with_spaces [] = 0
with_spaces (t ∷ ts) = 1 + length t + with_spaces ts

spaced_length : (ts : List (List ℕ)) → length (spaced ts) ≡ with_spaces ts
spaced_length [] = refl
spaced_length (t ∷ ts) = omega (arith, length-append t (spaced ts), spaced_length ts)

pub joined_length : (ts : List (List ℕ)) → length (joined ts) ≤ with_spaces ts
joined_length [] = omega arith
joined_length (t ∷ ts) = omega (arith, length-append t (spaced ts), spaced_length ts)

with_spaces_join : (xs ys : List (List ℕ)) → with_spaces (xs ++ ys) ≡ with_spaces xs + with_spaces ys
with_spaces_join [] ys = omega arith
with_spaces_join (x ∷ xs) ys = omega (arith, with_spaces_join xs ys)

-- ---- names

some_name : (t : List ℕ) → IsName t → 0 < length t
some_name t (inl atom) = atom.1
some_name t (inr flag) = subst (λ (u : List ℕ). 0 < length u) (sym flag.1) (omega arith)

names_from : (k : ℕ) (ns : List (List ℕ)) → AllNames ns → with_spaces ns + 2 * k ≤ 2 * fold (λ n t. n + length t) k ns
names_from k [] all = omega arith
names_from k (t ∷ ts) all = omega (arith, some_name t all.0, names_from (k + length t) ts all.1)

names_length : (ns : List (List ℕ)) → AllNames ns → with_spaces ns ≤ 2 * total_length ns
names_length ns all = omega (arith, names_from 0 ns all)

-- ---- dates

one_of : (b : Bool) (x y : List ℕ) → length x ≤ 3 → length y ≤ 3 → length (if b then x else y) ≤ 3
one_of true x y h k = h
one_of false x y h k = k

abbrev month_from_11 : ℕ → List ℕ
month_from_11 m = if m == 11 then codes "Nov" else codes "Dec"

abbrev month_from_10 : ℕ → List ℕ
month_from_10 m = if m == 10 then codes "Oct" else month_from_11 m

abbrev month_from_9 : ℕ → List ℕ
month_from_9 m = if m == 9 then codes "Sep" else month_from_10 m

abbrev month_from_8 : ℕ → List ℕ
month_from_8 m = if m == 8 then codes "Aug" else month_from_9 m

abbrev month_from_7 : ℕ → List ℕ
month_from_7 m = if m == 7 then codes "Jul" else month_from_8 m

abbrev month_from_6 : ℕ → List ℕ
month_from_6 m = if m == 6 then codes "Jun" else month_from_7 m

abbrev month_from_5 : ℕ → List ℕ
month_from_5 m = if m == 5 then codes "May" else month_from_6 m

abbrev month_from_4 : ℕ → List ℕ
month_from_4 m = if m == 4 then codes "Apr" else month_from_5 m

abbrev month_from_3 : ℕ → List ℕ
month_from_3 m = if m == 3 then codes "Mar" else month_from_4 m

abbrev month_from_2 : ℕ → List ℕ
month_from_2 m = if m == 2 then codes "Feb" else month_from_3 m

month_length_11 : (m : ℕ) → length (month_from_11 m) ≤ 3
month_length_11 m = one_of (m == 11) (codes "Nov") (codes "Dec") (omega arith) (omega arith)

month_length_10 : (m : ℕ) → length (month_from_10 m) ≤ 3
month_length_10 m = one_of (m == 10) (codes "Oct") (month_from_11 m) (omega arith) (month_length_11 m)

month_length_9 : (m : ℕ) → length (month_from_9 m) ≤ 3
month_length_9 m = one_of (m == 9) (codes "Sep") (month_from_10 m) (omega arith) (month_length_10 m)

month_length_8 : (m : ℕ) → length (month_from_8 m) ≤ 3
month_length_8 m = one_of (m == 8) (codes "Aug") (month_from_9 m) (omega arith) (month_length_9 m)

month_length_7 : (m : ℕ) → length (month_from_7 m) ≤ 3
month_length_7 m = one_of (m == 7) (codes "Jul") (month_from_8 m) (omega arith) (month_length_8 m)

month_length_6 : (m : ℕ) → length (month_from_6 m) ≤ 3
month_length_6 m = one_of (m == 6) (codes "Jun") (month_from_7 m) (omega arith) (month_length_7 m)

month_length_5 : (m : ℕ) → length (month_from_5 m) ≤ 3
month_length_5 m = one_of (m == 5) (codes "May") (month_from_6 m) (omega arith) (month_length_6 m)

month_length_4 : (m : ℕ) → length (month_from_4 m) ≤ 3
month_length_4 m = one_of (m == 4) (codes "Apr") (month_from_5 m) (omega arith) (month_length_5 m)

month_length_3 : (m : ℕ) → length (month_from_3 m) ≤ 3
month_length_3 m = one_of (m == 3) (codes "Mar") (month_from_4 m) (omega arith) (month_length_4 m)

month_length_2 : (m : ℕ) → length (month_from_2 m) ≤ 3
month_length_2 m = one_of (m == 2) (codes "Feb") (month_from_3 m) (omega arith) (month_length_3 m)

month_length : (m : ℕ) → length (month_name m) ≤ 3
month_length m = one_of (m == 1) (codes "Jan") (month_from_2 m) (omega arith) (month_length_2 m)

day_length : (year month day : ℕ) → length (day_text year month day) ≤ 11
unfolding day_text
day_length year month day = omega (arith, length-append (month_name month) (45 ∷ four_digits year), month_length month)

clock_length : (s : ℕ) → length (clock_text s) ≤ 8
unfolding clock_text
clock_length s = omega arith

pub date_length : (date : ℤ) → length (date_text date) ≤ 28
unfolding date_text
date_length date =
    let d = day_at (seconds_from date / 86400) in let day : List ℕ = day_text_of d in let clock : List ℕ = clock_text (seconds_from date % 86400) in
    omega (
      arith,
      length-append (day ++ 32 ∷ clock) (codes " +0000\""),
      length-append day (32 ∷ clock),
      day_length d.year d.month d.day,
      clock_length
          (seconds_from date % 86400),
    )

-- ---- quoted texts

escaped_one : (b : Bool) (c : ℕ) (t : List ℕ) (n : ℕ) → length t ≤ n → length (if b then 92 ∷ c ∷ t else c ∷ t) ≤ n + 2
escaped_one true c t n h = omega (arith, h)
escaped_one false c t n h = omega (arith, h)

pub escaped_length : (t : List ℕ) → length (escaped t) ≤ 2 * length t
escaped_length [] = omega arith
escaped_length (c ∷ t) = omega (arith, escaped_one (c == 34 || c == 92) c (escaped t) (2 * length t) (escaped_length t))

-- ---- items

count_bound : (word : List ℕ) (o : Option ℕ) → length word ≤ 11 → IfSome o (λ n. n < 2 ^ 63) → with_spaces (count_text word o) ≤ 40
count_bound word None few h = omega arith
count_bound word (Some n) few h = omega (arith, length-append word (32 ∷ decimal n), number_length n h, few)

flags_bound : (o : Option (List (List ℕ))) → IfSome o (λ ns. AllNames ns × (total_length ns ≤ text_limit + 5)) → with_spaces (flags_text o) ≤ 2000020
flags_bound None h = omega arith
flags_bound (Some ns) h = omega (arith, length-append (joined ns) (41 ∷ []), joined_length ns, names_length ns h.0, h.1)

modseq_bound : (o : Option ℕ) → IfSome o (λ n. n < 2 ^ 63) → with_spaces (modseq_text o) ≤ 40
modseq_bound None h = omega arith
modseq_bound (Some n) h = omega (arith, length-append (decimal n) (41 ∷ []), number_length n h)

date_bound : (o : Option ℤ) → with_spaces (internal_date_text o) ≤ 60
date_bound None = omega arith
date_bound (Some date) = omega (arith, date_length date)

octets_bound : (word : List ℕ) (o : Option (List ℕ)) → length word ≤ 15 → IfSome o (λ s. length s ≤ 50000000) → with_spaces (octets_text word o) ≤ octets_of o + 40
octets_bound word None few h = omega arith
octets_bound word (Some s) few h =
    omega (
      arith,
      length-append word (32 ∷ literal_head s ++ s),
      length-append (literal_head s) s,
      length-append (decimal (length s)) (125 ∷ crlf),
      number_length (length s)
          (omega (arith, h)),
      few,
    )

-- what the items of a FETCH are within
pub record AreFew (items : FetchItems) : Type 0 where
  pub uid : IfSome items.uid (λ n. n < 2 ^ 63)
  pub flags : IfSome items.flags (λ ns. AllNames ns × (total_length ns ≤ text_limit + 5))
  pub modseq : IfSome items.modseq (λ n. n < 2 ^ 63)
  pub size : IfSome items.size (λ n. n < 2 ^ 63)
  pub header : IfSome items.header (λ s. length s ≤ 50000000)
  pub body : IfSome items.body (λ s. length s ≤ 50000000)

pub items_bound : (items : FetchItems) → AreFew items → with_spaces (item_texts items) ≤ octets_of items.header + octets_of items.body + 2000300
items_bound items few =
    let uid : List (List ℕ) = count_text (codes "UID") items.uid in let flags : List (List ℕ) = flags_text items.flags in
    let modseq : List (List ℕ) = modseq_text items.modseq in let date : List (List ℕ) = internal_date_text items.date in
    let size : List (List ℕ) = count_text (codes "RFC822.SIZE") items.size in
    let header : List (List ℕ) = octets_text (codes "BODY[HEADER]<0>") items.header in let body : List (List ℕ) = octets_text (codes "BODY[]<0>") items.body in
    omega (
      arith,
      with_spaces_join uid (flags ++ (modseq ++ (date ++ (size ++ (header ++ body))))),
      with_spaces_join flags (modseq ++ (date ++ (size ++ (header ++ body)))),
      with_spaces_join modseq (date ++ (size ++ (header ++ body))),
      with_spaces_join date (size ++ (header ++ body)),
      with_spaces_join size (header ++ body),
      with_spaces_join header body,
      count_bound (codes "UID") items.uid (omega arith) few.uid,
      flags_bound items.flags few.flags,
      modseq_bound items.modseq few.modseq,
      date_bound items.date,
      count_bound (codes "RFC822.SIZE") items.size (omega arith) few.size,
      octets_bound (codes "BODY[HEADER]<0>") items.header (omega arith) few.header,
      octets_bound (codes "BODY[]<0>") items.body (omega arith) few.body,
    )
