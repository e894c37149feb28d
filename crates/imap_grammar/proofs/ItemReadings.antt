-- The items of a FETCH are read back as what they tell.
use Rattle.std.proofs.Common.{◌≡◌, ◌⊎◌, ℕ, zero, suc, ◌+◌, ◌-◌, ◌<◌, ◌≤◌, Bool, true, false, ◌||◌, List, [], ◌∷◌, ◌++◌, length, map, take, drop, get_or, cond, refl, sym, ap, ◌∙◌}
use Rattle.std.proofs.Common.{append_assoc, arith, inl, inr, Option, Some, None, ℤ}
use Rattle.std.specs.Prelude.{◌==◌, nat_lt, codes, bytes_eq}
use Rattle.std.proofs.lemmas.Bool.{cond-true, cond-false, or_cases}
use Rattle.std.proofs.lemmas.List.{length-append, map-append}
use Rattle.std.proofs.Math.Seq.{drop-append_seam}
use Rattle.imap_types.proofs.EachLemmas.{each_to, each_append}
use Rattle.imap_automaton.specs.Flow.{stops}
use Rattle.imap_automaton.specs.ItemRules.{item_start}
use Rattle.imap_keywords.specs.Keys.{key_text, keys}
use Rattle.imap_keywords.specs.declared.key.Key.{Key}
use Rattle.imap_keywords.specs.declared.key.Key.TheVariants as key
use Rattle.imap_keywords.specs.declared.key.WordPlace.TheVariants as place
use Rattle.imap_keywords.specs.Keys.{Among}
use Rattle.imap_keywords.proofs.KeyLemmas.{same_text}
use Rattle.pushdown.proofs.Lists.{cons_head, cons_tail}
use Rattle.imap_automaton.proofs.ItemEdges.{stop_no_digit, item_to}
use Rattle.imap_automaton.proofs.OtherItems.{named_atoms, other_word}
use Rattle.imap_values.specs.Spans.{span, number_in, long_value}
use Rattle.imap_values.specs.Strings.{astring_in}
use Rattle.imap_grammar.specs.declared.items.Told.{Told}
use Rattle.imap_grammar.specs.declared.items.Told.TheVariants as names
use Rattle.imap_grammar.specs.reading.ItemReading.{nstring_in, told_by, value_in, value_or_passed, item_in, items_in}
use Rattle.imap_grammar.specs.reading.Passing.{passed}
use Rattle.imap_grammar.proofs.DateReadings.{date_read}
use Rattle.imap_grammar.proofs.StringReadings.{astring_read}
use Rattle.imap_grammar.proofs.PassingReadings.{item_passed}
pub use Rattle.imap_values.proofs.NameReadings.{joined_small, flags_read, long_read}
use Rattle.imap_values.proofs.Cuts.{small, plain_small, plain_join, cut_at, number_is, atom_small, digit_small, small_lower}
use Rattle.imap_values.proofs.Lengths.{plain_length, less_one}
use Rattle.imap_types.specs.declared.response.FetchItems.{FetchItems}
use Rattle.imap_types.specs.Octets.{is_digit, is_atom, lower}
use Rattle.imap_types.specs.Texts.{plain_of, plain_octets}
use Rattle.imap_types.specs.Numbers.{IsNonZero, IsLong}
use Rattle.imap_types.specs.DateTimes.{IsDateTime}
use Rattle.imap_types.specs.Strings.{IsQuoted, IsLiteral, IsNString}
use Rattle.imap_types.specs.Items.{joined, IsNames, Item, Uid, Flags, ModSeq, Date, Size, Header, Body, Other, IsItem, IsMore, IsItems, header_limit, body_limit, told, told_from}

-- ---- items

-- ---- names that are told

told_names : (told_by (key_text key.Uid) ≡ Some names.Uid) × (told_by (key_text key.Flags) ≡ Some names.Flags) × (told_by (key_text key.ModSeq) ≡ Some names.ModSeq)
    × (told_by (key_text key.InternalDate) ≡ Some names.Date) × (told_by (key_text key.Size) ≡ Some names.Size)
unfolding told_by
told_names = (refl, refl, refl, refl, refl)

told_texts : (told_by (key_text key.Header) ≡ Some names.Header) × (told_by (key_text key.HeaderPart) ≡ Some names.Header) × (told_by (key_text key.Body) ≡ Some names.Body)
    × (told_by (key_text key.BodyPart) ≡ Some names.Body)
unfolding told_by
told_texts = (refl, refl, refl, refl)

-- an item whose name is a key
known_read : (i : Item) (so_far : FetchItems) (k : Key) (m : Told) (name value t back b : List ℕ) → map lower name ≡ key_text k → told_by (key_text k) ≡ Some m
    → value_in so_far m (plain_octets value ++ back) ≡ (told so_far i, back) → t ≡ name ++ 32 ∷ value → b ≡ plain_octets t ++ back
    → item_in so_far b ≡ (told so_far i, back)
unfolding item_in
known_read i so_far k m name value t back b is told_key read whole e =
    let atoms = named_atoms k name is in
    let s = each_to is_atom small name atom_small atoms in
    let cut : b ≡ name ++ (32 ∷ (plain_octets value ++ back)) = e ∙ ap (λ (u : List ℕ). u ++ back) (ap plain_octets whole ∙ plain_join name (32 ∷ value) s)
    ∙ append_assoc name (32 ∷ plain_octets value) back in
    let c = cut_at is_atom name (32 ∷ (plain_octets value ++ back)) b cut atoms refl in
    let n = span is_atom b in
    let word : told_by (map lower (take n b)) ≡ Some m = ap told_by (ap (map lower) c.front ∙ is) ∙ told_key in
    ap (λ (o : Option Told). value_or_passed so_far o (drop (n + 1) b) b) word
    ∙ ap (value_in so_far m) (c.past 32 (plain_octets value ++ back) refl) ∙ read

-- ---- values

no_digit : (back : List ℕ) → stops (get_or back 0 0) ≡ true → is_digit (get_or back 0 0) ≡ false
no_digit back e = stop_no_digit (get_or back 0 0) e

uid_read : (n : ℕ) (so_far : FetchItems) (value back : List ℕ) → IsNonZero n value → stops (get_or back 0 0) ≡ true
    → value_in so_far names.Uid (plain_octets value ++ back) ≡ (told so_far (Uid n), back)
unfolding value_in
uid_read n so_far value back h out =
    let b = plain_octets value ++ back in
    let v : plain_octets value ≡ value = plain_small value (each_to is_digit small value digit_small h.0.digits) in
    let k = cut_at is_digit value back b (ap (λ (u : List ℕ). u ++ back) v) h.0.digits (no_digit back out) in
    let num : number_in (take (span is_digit b) b) ≡ n = ap number_in k.front ∙ number_is value (omega (arith, h.0.value, h.0.most)) ∙ sym h.0.value in
    ap (λ (m : ℕ). (told so_far (Uid m), drop (span is_digit b) b)) num ∙ ap (λ (u : List ℕ). (told so_far (Uid n), u)) k.back

size_read : (n : ℕ) (so_far : FetchItems) (value back : List ℕ) → IsLong n value → stops (get_or back 0 0) ≡ true
    → value_in so_far names.Size (plain_octets value ++ back) ≡ (told so_far (Size n), back)
unfolding value_in
size_read n so_far value back h out =
    let b = plain_octets value ++ back in
    let v : plain_octets value ≡ value = plain_small value (each_to is_digit small value digit_small h.digits) in
    let k = cut_at is_digit value back b (ap (λ (u : List ℕ). u ++ back) v) h.digits (no_digit back out) in
    ap (λ (m : ℕ). (told so_far (Size m), drop (span is_digit b) b)) (ap long_value k.front ∙ long_read n value h) ∙ ap (λ (u : List ℕ). (told so_far (Size n), u)) k.back

modseq_read : (n : ℕ) (so_far : FetchItems) (value back digits : List ℕ) → value ≡ 40 ∷ digits ++ 41 ∷ [] → IsLong n digits
    → value_in so_far names.ModSeq (plain_octets value ++ back) ≡ (told so_far (ModSeq n), back)
unfolding value_in
modseq_read n so_far value back digits e is =
    let d = drop 1 (plain_octets value ++ back) in
    let inner : plain_octets value ≡ 40 ∷ digits ++ 41 ∷ [] = ap plain_octets e
    ∙ plain_small (40 ∷ digits ++ 41 ∷ []) (refl, each_append small digits (41 ∷ []) (each_to is_digit small digits digit_small is.digits) (refl, tt)) in
    let f : d ≡ digits ++ 41 ∷ back = ap (λ (u : List ℕ). drop 1 (u ++ back)) inner ∙ append_assoc digits (41 ∷ []) back in
    let k = cut_at is_digit digits (41 ∷ back) d f is.digits refl in
    ap (λ (m : ℕ). (told so_far (ModSeq m), drop (span is_digit d + 1) d)) (ap long_value k.front ∙ long_read n digits is)
    ∙ ap (λ (u : List ℕ). (told so_far (ModSeq n), u)) (k.past 41 back refl)

told_date : (seconds : ℤ) (so_far : FetchItems) (value back : List ℕ) → IsDateTime seconds value
    → value_in so_far names.Date (plain_octets value ++ back) ≡ (told so_far (Date seconds), back)
unfolding value_in
told_date seconds so_far value back h =
    let b = plain_octets value ++ back in
    let r = date_read seconds value back b h refl in
    ap (λ (z : ℤ). (told so_far (Date z), drop 28 b)) r.0 ∙ ap (λ (u : List ℕ). (told so_far (Date seconds), u)) r.1

told_flags : (ns : List (List ℕ)) (so_far : FetchItems) (value back : List ℕ) → IsNames ns value
    → value_in so_far names.Flags (plain_octets value ++ back) ≡ (told so_far (Flags ns), back)
unfolding value_in
told_flags ns so_far value back h =
    let inner : plain_octets value ≡ 40 ∷ joined ns ++ 41 ∷ [] = ap plain_octets h.1
    ∙ plain_small (40 ∷ joined ns ++ 41 ∷ []) (refl, each_append small (joined ns) (41 ∷ []) (joined_small ns h.0) (refl, tt)) in
    let f : drop 1 (plain_octets value ++ back) ≡ joined ns ++ 41 ∷ back = ap (λ (u : List ℕ). drop 1 (u ++ back)) inner ∙ append_assoc (joined ns) (41 ∷ []) back in
    ap (λ (r : List (List ℕ) × List ℕ). (record so_far { flags = Some r.0 }, r.1)) (flags_read ns back (drop 1 (plain_octets value ++ back)) h.0 f)

-- ---- strings

string_first : (s x y : List ℕ) → IsQuoted s x ⊎ IsLiteral s x → (lower (get_or (plain_octets x ++ y) 0 0) == 110) ≡ false
string_first s x y (inl q) = ap (λ (u : List ℕ). lower (get_or (plain_octets u ++ y) 0 0) == 110) q.1
string_first s x y (inr (inl k)) = ap (λ (u : List ℕ). lower (get_or (plain_octets u ++ y) 0 0) == 110) k.whole
string_first s x y (inr (inr l)) = ap (λ (u : List ℕ). lower (get_or (plain_octets u ++ y) 0 0) == 110) l.1

stop_ends : (c : ℕ) → stops c ≡ true → (is_atom c ≡ false) × ((c == 123) ≡ false)
stop_ends c e = (grind arith, grind arith)

nil_letter : (c d : ℕ) → lower c ≡ d → nat_lt d 256 ≡ true → small c ≡ true
nil_letter c d e f = small_lower c (ap small e ∙ f)

nil_read : (x y : List ℕ) → map lower x ≡ codes "nil" → nstring_in (plain_octets x ++ y) ≡ ([], y)
unfolding nstring_in
nil_read (a ∷ b ∷ c ∷ []) y e =
    let f = cons_tail (lower a) 110 (lower b ∷ lower c ∷ []) (105 ∷ 108 ∷ []) e in
    let g = cons_tail (lower b) 105 (lower c ∷ []) (108 ∷ []) f in
    let first : lower a ≡ 110 = cons_head (lower a) 110 (lower b ∷ lower c ∷ []) (105 ∷ 108 ∷ []) e in
    let second : lower b ≡ 105 = cons_head (lower b) 105 (lower c ∷ []) (108 ∷ []) f in
    let third : lower c ≡ 108 = cons_head (lower c) 108 [] [] g in
    let is : plain_octets (a ∷ b ∷ c ∷ []) ≡ a ∷ b ∷ c ∷ [] = plain_small (a ∷ b ∷ c ∷ [])
    (nil_letter a 110 first refl, (nil_letter b 105 second refl, (nil_letter c 108 third refl, tt))) in
    ap (λ (u : List ℕ). nstring_in (u ++ y)) is
    ∙ cond-true (lower a == 110) ([], y) (astring_in (a ∷ b ∷ c ∷ y)) (ap (λ (n : ℕ). n == 110) first)
nil_read _ y e = absurd (let l = ap length e in omega (arith, l))

string_read : (s x y : List ℕ) → IsNString s x → stops (get_or y 0 0) ≡ true → nstring_in (plain_octets x ++ y) ≡ (s, y)
unfolding nstring_in
string_read s x y (inl n) out = nil_read x y n.1 ∙ ap (λ (u : List ℕ). (u, y)) (sym n.0)
string_read s x y (inr q) out =
    let b = plain_octets x ++ y in
    cond-false (lower (get_or b 0 0) == 110) ([], drop 3 b) (astring_in b) (string_first s x y q) ∙ astring_read s x y b (inr q) (stop_ends (get_or y 0 0) out) refl

header_read : (s : List ℕ) (so_far : FetchItems) (value back : List ℕ) → IsNString s value → stops (get_or back 0 0) ≡ true
    → value_in so_far names.Header (plain_octets value ++ back) ≡ (told so_far (Header s), back)
unfolding value_in
header_read s so_far value back h out =
    ap (λ (q : List ℕ × List ℕ). (record so_far { header = Some (take header_limit q.0) }, q.1)) (string_read s value back h out)

body_read : (s : List ℕ) (so_far : FetchItems) (value back : List ℕ) → IsNString s value → stops (get_or back 0 0) ≡ true
    → value_in so_far names.Body (plain_octets value ++ back) ≡ (told so_far (Body s), back)
unfolding value_in
body_read s so_far value back h out =
    ap (λ (q : List ℕ × List ℕ). (record so_far { body = Some (take body_limit q.0) }, q.1)) (string_read s value back h out)

-- ---- other items

told_case : {P : Type 0} {o : Option Told} (b : Bool) (x m : Told) → cond b (Some x) o ≡ Some m → (b ≡ true → P) → (o ≡ Some m → P) → P
told_case true x m e f g = f refl
told_case false x m e f g = g e

-- a told name is a key
told_key : {P : Type 0} (w : List ℕ) (m : Told) → told_by w ≡ Some m → ((k : Key) → Among k (keys place.Item) → w ≡ key_text k → P) → P
unfolding told_by
told_key w m e f =
    let is : List ℕ → Bool = bytes_eq w in
    told_case (is (codes "uid")) names.Uid m e (λ a. f key.Uid (inl refl) (same_text w (codes "uid") a)) (λ e.
    told_case (is (codes "flags")) names.Flags m e (λ a. f key.Flags (inr (inl refl)) (same_text w (codes "flags") a)) (λ e.
    told_case (is (codes "modseq")) names.ModSeq m e (λ a. f key.ModSeq (inr (inr (inl refl))) (same_text w (codes "modseq") a)) (λ e.
    told_case (is (codes "internaldate")) names.Date m e (λ a. f key.InternalDate (inr (inr (inr (inl refl)))) (same_text w (codes "internaldate") a)) (λ e.
    told_case (is (codes "rfc822.size")) names.Size m e (λ a. f key.Size (inr (inr (inr (inr (inl refl))))) (same_text w (codes "rfc822.size") a)) (λ e.
    told_case (is (codes "body[header]") || is (codes "body[header]<0>")) names.Header m e
    (λ b. elim (or_cases (is (codes "body[header]")) (is (codes "body[header]<0>")) b) [
      | inl a ↦ f key.Header (inr (inr (inr (inr (inr (inl refl)))))) (same_text w (codes "body[header]") a)
      | inr a ↦ f key.HeaderPart (inr (inr (inr (inr (inr (inr (inl refl))))))) (same_text w (codes "body[header]<0>") a)
    ]) (λ e.
    told_case (is (codes "body[]") || is (codes "body[]<0>")) names.Body m e
    (λ b. elim (or_cases (is (codes "body[]")) (is (codes "body[]<0>")) b) [
      | inl a ↦ f key.Body (inr (inr (inr (inr (inr (inr (inr (inl refl)))))))) (same_text w (codes "body[]") a)
      | inr a ↦ f key.BodyPart (inr (inr (inr (inr (inr (inr (inr (inr (inl refl))))))))) (same_text w (codes "body[]<0>") a)
    ]) (λ e.
    absurd cc)))))))

tail_head : (tail back : List ℕ) → nat_lt (get_or tail 0 0) 256 ≡ true → 0 < length tail → is_atom (get_or tail 0 0) ≡ false → is_atom
    (get_or (plain_octets tail ++ back) 0 0) ≡ false
tail_head [] back s lt o = absurd (omega (arith, lt))
tail_head (c ∷ t) back s lt o = ap is_atom (cond-true (nat_lt c 256) c (c - 256) s) ∙ o

other_read : (so_far : FetchItems) (t back b : List ℕ) → IsItem Other t → stops (get_or back 0 0) ≡ true → b ≡ plain_octets t ++ back → item_in so_far b ≡ (so_far, back)
unfolding item_in
other_read so_far t back b h out e =
    let o = other_word t h in
    let s = each_to is_atom small o.word atom_small o.each in
    let cut : b ≡ o.word ++ (plain_octets o.tail ++ back) = e ∙ ap (λ (u : List ℕ). u ++ back) (ap plain_octets o.whole ∙ plain_join o.word o.tail s) ∙ append_assoc o.word
    (plain_octets o.tail) back in
    let c = cut_at is_atom o.word (plain_octets o.tail ++ back) b cut o.each (tail_head o.tail back o.small o.goes_on o.longest) in
    let n = span is_atom b in
    let no : told_by (map lower (take n b)) ≡ None =
    untold (told_by (map lower (take n b))) (λ m q. told_key (map lower (take n b)) m q (λ k a w. o.no_key k a (sym (ap (map lower) c.front) ∙ w))) in
    let count : passed b (item_start ∷ []) ≡ length (plain_octets t) = item_passed t back b (item_to Other t h) out e ∙ sym (plain_length t) in
    ap (λ (q : Option Told). value_or_passed so_far q (drop (n + 1) b) b) no
    ∙ ap (λ (m : ℕ). (so_far, drop m b)) count ∙ ap (λ (u : List ℕ). (so_far, drop (length (plain_octets t)) u)) e ∙ ap (λ (u : List ℕ). (so_far, u))
    (drop-append_seam (plain_octets t) back)
  where
    untold : (q : Option Told) → ((m : Told) → q ≡ Some m → ⊥) → q ≡ None
    untold None f = refl
    untold (Some m) f = absurd (f m refl)

-- ---- the item at the front

item_read : (i : Item) (so_far : FetchItems) (t back b : List ℕ) → IsItem i t → stops (get_or back 0 0) ≡ true → b ≡ plain_octets t ++ back
    → item_in so_far b ≡ (told so_far i, back)
item_read (Uid n) so_far t back b h out e =
    known_read (Uid n) so_far key.Uid names.Uid h.name h.value t back b h.item.0 told_names.0 (uid_read n so_far h.value back h.item.1 out) h.whole e
item_read (Flags ns) so_far t back b h out e =
    known_read (Flags ns) so_far key.Flags names.Flags h.name h.value t back b h.item.0 told_names.1 (told_flags ns so_far h.value back h.item.1) h.whole e
item_read (ModSeq n) so_far t back b h out e = known_read (ModSeq n) so_far key.ModSeq names.ModSeq h.name h.value t back b h.item.0 told_names.2
    (modseq_read n so_far h.value back h.item.1.0 h.item.1.1 h.item.1.2) h.whole e
item_read (Date s) so_far t back b h out e =
    known_read (Date s) so_far key.InternalDate names.Date h.name h.value t back b h.item.0 told_names.3 (told_date s so_far h.value back h.item.1) h.whole e
item_read (Size n) so_far t back b h out e =
    known_read (Size n) so_far key.Size names.Size h.name h.value t back b h.item.0 told_names.4 (size_read n so_far h.value back h.item.1 out) h.whole e
item_read (Header s) so_far t back b h out e =
    let r = header_read s so_far h.value back h.item.1 out in
    elim h.item.0 [
      | inl n ↦ known_read (Header s) so_far key.Header names.Header h.name h.value t back b n told_texts.0 r h.whole e
      | inr n ↦ known_read (Header s) so_far key.HeaderPart names.Header h.name h.value t back b n told_texts.1 r h.whole e
    ]
item_read (Body s) so_far t back b h out e =
    let r = body_read s so_far h.value back h.item.1 out in
    elim h.item.0 [
      | inl n ↦ known_read (Body s) so_far key.Body names.Body h.name h.value t back b n told_texts.2 r h.whole e
      | inr n ↦ known_read (Body s) so_far key.BodyPart names.Body h.name h.value t back b n told_texts.3 r h.whole e
    ]
item_read Other so_far t back b h out e = other_read so_far t back b h out e

-- ---- one item more

-- where a space follows an item, the others are read after the space, with one fewer allowed
pub items_next : (left : ℕ) (so_far : FetchItems) (b : List ℕ) → 0 < left → (get_or (item_in so_far b).1 0 0 == 32) ≡ true
    → items_in left so_far b ≡ items_in (left - 1) (item_in so_far b).0 (drop 1 (item_in so_far b).1)
unfolding items_in
items_next zero so_far b lt e = absurd (omega (arith, lt))
items_next (suc left) so_far b lt e =
    let r = item_in so_far b in
    cond-true (get_or r.1 0 0 == 32) (items_in left r.0 (drop 1 r.1)) r.0 e ∙ ap (λ (n : ℕ). items_in n r.0 (drop 1 r.1)) (less_one left)

-- an item with no space after it is the last that is read
pub items_last : (left : ℕ) (so_far : FetchItems) (b : List ℕ) → 0 < left → (get_or (item_in so_far b).1 0 0 == 32) ≡ false → items_in left so_far b ≡ (item_in so_far b).0
unfolding items_in
items_last zero so_far b lt e = absurd (omega (arith, lt))
items_last (suc left) so_far b lt e = let r = item_in so_far b in cond-false (get_or r.1 0 0 == 32) (items_in left r.0 (drop 1 r.1)) r.0 e

more_head : (is : List Item) (y : List ℕ) → IsMore is y → stops (get_or (plain_octets y) 0 0) ≡ true
more_head [] y h = ap (λ (u : List ℕ). stops (get_or (plain_octets u) 0 0)) h
more_head (i ∷ is) y h = ap (λ (u : List ℕ). stops (get_or (plain_octets u) 0 0)) h.2

more_long : (is : List Item) (y : List ℕ) → IsMore is y → length is < length y
more_long [] y h = let l = ap length h in omega (arith, l)
more_long (i ∷ is) y h =
    let ih = more_long is h.1 h.4 in
    let l = ap length h.2 in
    let m = length-append h.0 h.1 in
    omega (arith, ih, l, m)

-- a space before each item, at most n
pub items_read : (is : List Item) (most : ℕ) (so_far : FetchItems) (i : Item) (x y b : List ℕ) → IsItem i x → IsMore is y → length is < most → b ≡ plain_octets x ++ plain_octets y
    → items_in most so_far b ≡ told_from so_far (i ∷ is)
unfolding items_in
items_read is zero so_far i x y b h m lt e = absurd (omega (arith, lt))
items_read [] (suc most) so_far i x y b h m lt e =
    let r = item_read i so_far x (plain_octets y) b h (more_head [] y m) e in
    ap (λ (q : FetchItems × List ℕ). cond (get_or q.1 0 0 == 32) (items_in most q.0 (drop 1 q.1)) q.0) r
    ∙ cond-false (get_or (plain_octets y) 0 0 == 32) (items_in most (told so_far i) (drop 1 (plain_octets y))) (told so_far i)
    (ap (λ (u : List ℕ). get_or (plain_octets u) 0 0 == 32) m)
items_read (j ∷ is) (suc most) so_far i x y b h m lt e =
    let r = item_read i so_far x (plain_octets y) b h (more_head (j ∷ is) y m) e in
    ap (λ (q : FetchItems × List ℕ). cond (get_or q.1 0 0 == 32) (items_in most q.0 (drop 1 q.1)) q.0) r
    ∙ cond-true (get_or (plain_octets y) 0 0 == 32) (items_in most (told so_far i) (drop 1 (plain_octets y))) (told so_far i)
    (ap (λ (u : List ℕ). get_or (plain_octets u) 0 0 == 32) m.2)
    ∙ items_read is most (told so_far i) j m.0 m.1 (drop 1 (plain_octets y)) m.3 m.4 (omega (arith, lt))
    (ap (λ (u : List ℕ). drop 1 (plain_octets u)) m.2 ∙ map-append plain_of m.0 m.1)

-- items up to the line's end, with the octets' number to bound them
pub all_items_read : (is : List Item) (so_far : FetchItems) (t : List ℕ) (most : ℕ) → IsItems is t → length t ≤ most → items_in most so_far (plain_octets t) ≡ told_from so_far is
all_items_read [] so_far t most h le = absurd h
all_items_read (i ∷ is) so_far t most h le =
    let l = more_long is h.back h.second in
    let n = ap length h.whole in
    let m = length-append h.front h.back in
    items_read is most so_far i h.front h.back (plain_octets t) h.first h.second (omega (arith, l, n, m, le)) (ap plain_octets h.whole ∙ map-append plain_of h.front h.back)
