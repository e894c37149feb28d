-- The counts of a STATUS spell what they tell.
use Rattle.std.proofs.Common.{◌≡◌, ℕ, ◌<◌, ◌≤◌, ◌^◌, true, List, [], ◌∷◌, ◌++◌, length, map, codes, decimal, Option, Some, None, IfSome, refl, sym, ap, subst, ◌∙◌, arith, append_assoc}
use Rattle.std.specs.Prelude.{nat_le}
use Rattle.std.proofs.lemmas.Bool.{cond-true, le-leb}
use Rattle.std.proofs.lemmas.List.{map-append}
use Rattle.imap_types.proofs.EachLemmas.{each_append, each_all, each_to}
use Rattle.imap_types.specs.declared.response.StatusItems.{StatusItems}
use Rattle.imap_types.specs.Octets.{is_status_word}
use Rattle.imap_types.specs.Texts.{Each, crlf}
use Rattle.imap_types.specs.Lines.{spaced, joined}
use Rattle.imap_types.specs.Folders.{IsCount, IsMoreCounts, IsCounts, told_counts, no_counts}
use Rattle.imap_values.proofs.Cuts.{small, digit_small}
use Rattle.store_responses.specs.ResponseTexts.{count_text, count_texts}
use Rattle.store_responses.specs.Sendable.{AreSendableCounts}
use Rattle.store_responses.proofs.Numerals.{decimal_class, long_text}

-- a word and its number
abbrev text_of : List ℕ × ℕ → List ℕ
text_of c = c.0 ++ 32 ∷ decimal c.1

record IsTold (c : List ℕ × ℕ) : Type 0 where
  count : IsCount c (text_of c)
  low : Each small (text_of c)

abbrev AreTold : List (List ℕ × ℕ) → Type 0
AreTold [] = Unit {0}
AreTold (c ∷ cs) = IsTold c × AreTold cs

told_join : (x y : List (List ℕ × ℕ)) → AreTold x → AreTold y → AreTold (x ++ y)
told_join [] y h g = g
told_join (c ∷ x) y h g = (h.0, told_join x y h.1 g)

-- ---- a line of counts

more_counts : (cs : List (List ℕ × ℕ)) → AreTold cs → IsMoreCounts cs (spaced (map text_of cs) ++ 41 ∷ crlf)
more_counts [] h = refl
more_counts (c ∷ cs) h =
    (text_of c, spaced (map text_of cs) ++ 41 ∷ crlf, append_assoc (32 ∷ text_of c) (spaced (map text_of cs)) (41 ∷ crlf), h.0.count, more_counts cs h.1)

all_counts : (cs : List (List ℕ × ℕ)) → AreTold cs → IsCounts cs (joined (map text_of cs) ++ 41 ∷ crlf)
all_counts [] h = refl
all_counts (c ∷ cs) h = record {
  front = text_of c;
  back = spaced (map text_of cs) ++ 41 ∷ crlf;
  whole = append_assoc (text_of c) (spaced (map text_of cs)) (41 ∷ crlf);
  first = h.0.count;
  second = more_counts cs h.1;
}

spaced_low : (cs : List (List ℕ × ℕ)) → AreTold cs → Each small (spaced (map text_of cs))
spaced_low [] h = tt
spaced_low (c ∷ cs) h = (refl, each_append small (text_of c) (spaced (map text_of cs)) h.0.low (spaced_low cs h.1))

joined_low : (cs : List (List ℕ × ℕ)) → AreTold cs → Each small (joined (map text_of cs))
joined_low [] h = tt
joined_low (c ∷ cs) h = each_append small (text_of c) (spaced (map text_of cs)) h.0.low (spaced_low cs h.1)

-- ---- counts by their words

abbrev counted : List ℕ → Option ℕ → List (List ℕ × ℕ)
counted word None = []
counted word (Some n) = (word, n) ∷ []

status_low : (c : ℕ) → is_status_word c ≡ true → small c ≡ true
status_low c e = grind arith

counted_told : (word : List ℕ) (most : ℕ) (o : Option ℕ) → Each is_status_word word → 0 < length word → most ≤ 2 ^ 63 → IfSome o (λ n. n < most)
    → AreTold (counted word o)
counted_told word most None all some fits h = tt
counted_told word most (Some n) all some fits h =
    let long : n < 2 ^ 63 = omega (arith, h, fits) in (
      record {
        count = record { digits = decimal n; whole = refl; word = all; some = some; number = long_text n long };
        low = each_append small word (32 ∷ decimal n) (each_to is_status_word small word status_low all) (refl, decimal_class small n digit_small (omega arith));
      },
      tt,
    )

counted_text : (word : List ℕ) (o : Option ℕ) → map text_of (counted word o) ≡ count_text word o
counted_text word None = refl
counted_text word (Some n) = refl

texts_join : (x y : List (List ℕ × ℕ)) (u w : List (List ℕ)) → map text_of x ≡ u → map text_of y ≡ w → map text_of (x ++ y) ≡ u ++ w
texts_join x y u w e f = map-append text_of x y ∙ ap (λ (z : List (List ℕ)). z ++ map text_of y) e ∙ ap (λ (z : List (List ℕ)). u ++ z) f

abbrev counts : StatusItems → List (List ℕ × ℕ)
counts items =
    counted (codes "MESSAGES") items.messages ++ (counted (codes "UIDNEXT") items.uid_next
    ++ (counted (codes "UIDVALIDITY") items.uid_validity ++ counted (codes "HIGHESTMODSEQ") items.modseq))

counts_texts : (items : StatusItems) → map text_of (counts items) ≡ count_texts items
counts_texts i =
    texts_join (counted (codes "MESSAGES") i.messages) _ _ _ (counted_text (codes "MESSAGES") i.messages)
    (texts_join (counted (codes "UIDNEXT") i.uid_next) _ _ _ (counted_text (codes "UIDNEXT") i.uid_next)
    (texts_join (counted (codes "UIDVALIDITY") i.uid_validity) (counted (codes "HIGHESTMODSEQ") i.modseq) _ _
    (counted_text (codes "UIDVALIDITY") i.uid_validity) (counted_text (codes "HIGHESTMODSEQ") i.modseq)))

counts_told : (items : StatusItems) → AreSendableCounts items → AreTold (counts items)
counts_told i h =
    told_join (counted (codes "MESSAGES") i.messages) _
    (counted_told (codes "MESSAGES") (2 ^ 32) i.messages (each_all is_status_word (codes "MESSAGES") refl) (omega arith) (omega arith) h.messages)
    (told_join (counted (codes "UIDNEXT") i.uid_next) _
    (counted_told (codes "UIDNEXT") (2 ^ 32) i.uid_next (each_all is_status_word (codes "UIDNEXT") refl) (omega arith) (omega arith) h.uid_next)
    (told_join (counted (codes "UIDVALIDITY") i.uid_validity) (counted (codes "HIGHESTMODSEQ") i.modseq)
    (counted_told (codes "UIDVALIDITY") (2 ^ 32) i.uid_validity (each_all is_status_word (codes "UIDVALIDITY") refl) (omega arith) (omega arith) h.uid_validity)
    (counted_told (codes "HIGHESTMODSEQ") (2 ^ 63) i.modseq (each_all is_status_word (codes "HIGHESTMODSEQ") refl) (omega arith) (omega arith) h.modseq)))

-- ---- what they tell together

tell_join : (items : StatusItems) (x y : List (List ℕ × ℕ)) → told_counts items (x ++ y) ≡ told_counts (told_counts items x) y
tell_join items [] y = refl
tell_join items (c ∷ x) y = tell_join (told_counts items (c ∷ [])) x y

tell_step : (first second third : StatusItems) (x y : List (List ℕ × ℕ)) → told_counts first x ≡ second → told_counts second y ≡ third → told_counts first (x ++ y) ≡ third
tell_step first second third x y e f = tell_join first x y ∙ ap (λ (s : StatusItems). told_counts s y) e ∙ f

abbrev so : Option ℕ → Option ℕ → Option ℕ → Option ℕ → StatusItems
so m n v h = record { messages = m; uid_next = n; uid_validity = v; modseq = h }

fits : (n : ℕ) → n < 2 ^ 32 → nat_le n 4294967295 ≡ true
fits n lt = le-leb n 4294967295 (omega arith)

messages_told : (m : Option ℕ) → IfSome m (λ n. n < 2 ^ 32) → told_counts (so None None None None) (counted (codes "MESSAGES") m) ≡ so m None None None
messages_told None h = refl
messages_told (Some k) h = cond-true (nat_le k 4294967295) (so (Some k) None None None) (so None None None None) (fits k h)

next_told : (m n : Option ℕ) → IfSome n (λ k. k < 2 ^ 32) → told_counts (so m None None None) (counted (codes "UIDNEXT") n) ≡ so m n None None
next_told m None h = refl
next_told m (Some k) h = cond-true (nat_le k 4294967295) (so m (Some k) None None) (so m None None None) (fits k h)

validity_told : (m n v : Option ℕ) → IfSome v (λ k. k < 2 ^ 32) → told_counts (so m n None None) (counted (codes "UIDVALIDITY") v) ≡ so m n v None
validity_told m n None h = refl
validity_told m n (Some k) h = cond-true (nat_le k 4294967295) (so m n (Some k) None) (so m n None None) (fits k h)

modseq_told : (m n v h : Option ℕ) → told_counts (so m n v None) (counted (codes "HIGHESTMODSEQ") h) ≡ so m n v h
modseq_told m n v None = refl
modseq_told m n v (Some k) = refl

counts_tell : (items : StatusItems) → AreSendableCounts items → told_counts no_counts (counts items) ≡ items
counts_tell i h =
    tell_step _ _ _ (counted (codes "MESSAGES") i.messages) _ (messages_told i.messages h.messages)
    (tell_step _ _ _ (counted (codes "UIDNEXT") i.uid_next) _ (next_told i.messages i.uid_next h.uid_next)
    (tell_step _ _ _ (counted (codes "UIDVALIDITY") i.uid_validity) (counted (codes "HIGHESTMODSEQ") i.modseq)
    (validity_told i.messages i.uid_next i.uid_validity h.uid_validity) (modseq_told i.messages i.uid_next i.uid_validity i.modseq)))

-- ---- all counts

pub record SpellsCounts (items : StatusItems) : Type 0 where
  pub told : List (List ℕ × ℕ)
  pub spelled : IsCounts told (joined (count_texts items) ++ 41 ∷ crlf)
  pub value : items ≡ told_counts no_counts told
  pub low : Each small (joined (count_texts items))

pub counts_spelled : (items : StatusItems) → AreSendableCounts items → SpellsCounts items
counts_spelled items h =
    let told = counts_told items h in
    record {
      told = counts items;
      spelled = subst (λ (x : List (List ℕ)). IsCounts (counts items) (joined x ++ 41 ∷ crlf)) (counts_texts items) (all_counts (counts items) told);
      value = sym (counts_tell items h);
      low = subst (λ (x : List (List ℕ)). Each small (joined x)) (counts_texts items) (joined_low (counts items) told);
    }
