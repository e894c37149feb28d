-- A LIST and a STATUS are read back as their values.
use Rattle.std.proofs.Common.{◌≡◌, ℕ, zero, suc, ◌+◌, ◌-◌, ◌<◌, Bool, true, false, ◌||◌, List, [], ◌∷◌, ◌++◌, length, map, take, drop, get_or, cond, Option, Some, None, refl, sym}
use Rattle.std.proofs.Common.{ap, subst, ◌∙◌, append_assoc, arith, inl, inr}
use Rattle.std.specs.Prelude.{◌==◌, codes}
use Rattle.std.proofs.lemmas.Bool.{cond-true, cond-false}
use Rattle.std.proofs.lemmas.List.{length-append, map-append}
use Rattle.imap_types.proofs.EachLemmas.{each_to, each_append}
use Rattle.pushdown.proofs.Lists.{cons_head}
use Rattle.imap_automaton.proofs.StringEdges.{no_special}
use Rattle.imap_values.specs.Spans.{span, long_value, flags_in}
use Rattle.imap_values.specs.Strings.{astring_in}
use Rattle.imap_grammar.specs.reading.FolderReading.{delimiter_in, list_in, count_in, status_counts, counts_in, status_in}
use Rattle.imap_values.proofs.Cuts.{small, plain_small, cut_at, digit_small}
use Rattle.imap_grammar.proofs.ItemReadings.{joined_small, flags_read, long_read}
use Rattle.imap_grammar.proofs.StringReadings.{quoted_small, Ends, astring_read}
use Rattle.imap_values.proofs.Lengths.{plain_length, less_one}
use Rattle.imap_types.specs.declared.response.StatusItems.{StatusItems}
use Rattle.imap_types.specs.declared.response.Response.TheVariants as response
use Rattle.imap_types.specs.Octets.{is_digit, is_status_word, lower}
use Rattle.imap_types.specs.Texts.{Each, plain_of, plain_octets}
use Rattle.imap_types.specs.Strings.{quoted}
use Rattle.imap_types.specs.Items.{joined, kept}
use Rattle.imap_types.specs.Folders.{folder_name, IsDelimiter, IsListEnd, IsListLine, IsCount, IsMoreCounts, IsCounts, told_as, told_counts, no_counts, IsStatusLine}

-- ---- LIST

-- the octet of a quoted text of one, and what follows it
one_quoted : (c : ℕ) (y : List ℕ) → delimiter_in (quoted (c ∷ []) ++ y) ≡ (Some c, y)
unfolding delimiter_in
one_quoted c y = by (c == 34 || c == 92) refl
  where
    by : (b : Bool) → (c == 34 || c == 92) ≡ b → delimiter_in (quoted (c ∷ []) ++ y) ≡ (Some c, y)
    by true e = ap (λ (u : List ℕ). delimiter_in (34 ∷ (u ++ 34 ∷ []) ++ y)) (cond-true (c == 34 || c == 92) (92 ∷ c ∷ []) (c ∷ []) e)
    by false e =
        let n = no_special c e in
        ap (λ (u : List ℕ). delimiter_in (34 ∷ (u ++ 34 ∷ []) ++ y)) (cond-false (c == 34 || c == 92) (92 ∷ c ∷ []) (c ∷ []) e)
        ∙ cond-false (c == 92) (Some 34, drop 1 y) (Some c, y) n.1

no_quote : (c : ℕ) → lower c ≡ 110 → (plain_of c == 34) ≡ false
no_quote c e = grind arith

-- NIL in letters of any case
nil_read : (x y : List ℕ) → map lower x ≡ codes "nil" → delimiter_in (plain_octets x ++ y) ≡ (None, y)
unfolding delimiter_in
nil_read (a ∷ b ∷ c ∷ []) y h =
    let r : List ℕ = plain_of a ∷ plain_of b ∷ plain_of c ∷ y in
    cond-false (plain_of a == 34) (cond (plain_of b == 92) (Some (plain_of c), drop 4 r) (Some (plain_of b), y)) (None, y)
    (no_quote a (cons_head (lower a) 110 (map lower (b ∷ c ∷ [])) (codes "il") h))
nil_read [] y h = absurd cc
nil_read (a ∷ []) y h = absurd cc
nil_read (a ∷ b ∷ []) y h = absurd cc
nil_read (a ∷ b ∷ c ∷ d ∷ x) y h = absurd cc

delimiter_read : (d : Option ℕ) (x y : List ℕ) → IsDelimiter d x → delimiter_in (plain_octets x ++ y) ≡ (d, y)
delimiter_read None x y h = nil_read x y h
delimiter_read (Some c) x y h = ap (λ (u : List ℕ). delimiter_in (u ++ y)) (ap plain_octets h.1 ∙ plain_small (quoted (c ∷ [])) (quoted_small (c ∷ []) h.0)) ∙ one_quoted c y

list_ends : (rest : List ℕ) → IsListEnd rest → Ends (plain_octets rest)
list_ends rest (inl e) = subst (λ (u : List ℕ). Ends (plain_octets u)) (sym e) (refl, refl)
list_ends rest (inr v) = subst (λ (u : List ℕ). Ends (plain_octets u)) (sym v.1) (refl, refl)

-- the octets after LIST are read as the attributes, delimiter and name that they spell
pub list_line_read : (attributes : List (List ℕ)) (delimiter : Option ℕ) (name t : List ℕ) → IsListLine attributes delimiter name t
    → list_in (plain_octets t) ≡ response.List attributes delimiter name
unfolding list_in
list_line_read attributes delimiter name t h =
    let b = plain_octets t in
    let ns = h.told in
    let third : List ℕ = 32 ∷ (plain_octets h.third ++ plain_octets h.rest) in
    let second : List ℕ = 32 ∷ (plain_octets h.second ++ third) in
    let names : plain_octets h.first ≡ 40 ∷ joined ns ++ 41 ∷ [] = ap plain_octets h.names.1
    ∙ plain_small (40 ∷ joined ns ++ 41 ∷ []) (refl, each_append small (joined ns) (41 ∷ []) (joined_small ns h.names.0) (refl, tt)) in
    let all : b ≡ 32 ∷ (plain_octets h.first ++ second) = ap plain_octets h.whole
    ∙ ap (λ (u : List ℕ). 32 ∷ u) (map-append plain_of h.first (32 ∷ h.second ++ (32 ∷ h.third ++ h.rest)))
    ∙ ap (λ (u : List ℕ). 32 ∷ (plain_octets h.first ++ (32 ∷ u))) (map-append plain_of h.second (32 ∷ h.third ++ h.rest))
    ∙ ap (λ (u : List ℕ). 32 ∷ (plain_octets h.first ++ (32 ∷ (plain_octets h.second ++ (32 ∷ u))))) (map-append plain_of h.third h.rest) in
    let inner : drop 2 b ≡ joined ns ++ 41 ∷ second = ap (drop 2) (all ∙ ap (λ (u : List ℕ). 32 ∷ (u ++ second)) names) ∙ append_assoc (joined ns) (41 ∷ []) second in
    let f : flags_in (drop 2 b) ≡ (kept ns, second) = flags_read ns second (drop 2 b) h.names.0 inner in
    let a : astring_in (plain_octets h.third ++ plain_octets h.rest) ≡ (h.string, plain_octets h.rest) =
    astring_read h.string h.third (plain_octets h.rest) (plain_octets h.third ++ plain_octets h.rest) h.spelled (list_ends h.rest h.ends) refl in
    ap (λ (r : List (List ℕ) × List ℕ). response.List r.0 (delimiter_in (drop 1 r.1)).0 (folder_name (astring_in (drop 1 (delimiter_in (drop 1 r.1)).1)).0)) f
    ∙ ap (λ (r : Option ℕ × List ℕ). response.List (kept ns) r.0 (folder_name (astring_in (drop 1 r.1)).0)) (delimiter_read delimiter h.second third h.delimited)
    ∙ ap (λ (r : List ℕ × List ℕ). response.List (kept ns) delimiter (folder_name r.0)) a
    ∙ ap (λ (u : List ℕ). response.List (kept ns) delimiter u) (sym h.name_is) ∙ ap (λ (u : List (List ℕ)). response.List u delimiter name) (sym h.attributes_are)

-- ---- STATUS

status_word_small : (c : ℕ) → is_status_word c ≡ true → small c ≡ true
status_word_small c e = grind arith

count_read : (k : List ℕ × ℕ) (so_far : StatusItems) (t back b : List ℕ) → IsCount k t → is_digit (get_or back 0 0) ≡ false → b ≡ plain_octets t ++ back
    → count_in so_far b ≡ (told_as so_far (map lower k.0) k.1, back)
unfolding count_in
count_read k so_far t back b h out e =
    let word = k.0 in
    let rest : List ℕ = h.digits ++ back in
    let is : plain_octets t ≡ word ++ 32 ∷ h.digits = ap plain_octets h.whole
    ∙ plain_small (word ++ 32 ∷ h.digits) (each_append small word (32 ∷ h.digits) (each_to is_status_word small word status_word_small h.word)
    (refl, each_to is_digit small h.digits digit_small h.number.digits)) in
    let c = cut_at is_status_word word (32 ∷ rest) b (e ∙ ap (λ (u : List ℕ). u ++ back) is ∙ append_assoc word (32 ∷ h.digits) back) h.word refl in
    let d = drop (span is_status_word b + 1) b in
    let l = cut_at is_digit h.digits back d (c.past 32 rest refl) h.number.digits out in
    ap (λ (u : List ℕ). (told_as so_far (map lower u) (long_value (take (span is_digit d) d)), drop (span is_digit d) d)) c.front
    ∙ ap (λ (u : List ℕ). (told_as so_far (map lower word) (long_value u), drop (span is_digit d) d)) l.front
    ∙ ap (λ (u : List ℕ). (told_as so_far (map lower word) (long_value h.digits), u)) l.back
    ∙ ap (λ (n : ℕ). (told_as so_far (map lower word) n, back)) (long_read k.1 h.digits h.number)

-- where a space follows a count, the others are read after the space, with one fewer allowed
pub counts_next : (left : ℕ) (so_far : StatusItems) (b : List ℕ) → 0 < left → (get_or (count_in so_far b).1 0 0 == 32) ≡ true
    → status_counts left so_far b ≡ status_counts (left - 1) (count_in so_far b).0 (drop 1 (count_in so_far b).1)
unfolding status_counts
counts_next zero so_far b lt e = absurd (omega (arith, lt))
counts_next (suc left) so_far b lt e =
    let r = count_in so_far b in
    cond-true (get_or r.1 0 0 == 32) (status_counts left r.0 (drop 1 r.1)) r.0 e ∙ ap (λ (n : ℕ). status_counts n r.0 (drop 1 r.1)) (less_one left)

-- a count with no space after it is the last that is read
pub counts_last : (left : ℕ) (so_far : StatusItems) (b : List ℕ) → 0 < left → (get_or (count_in so_far b).1 0 0 == 32) ≡ false → status_counts left so_far b ≡ (count_in so_far b).0
unfolding status_counts
counts_last zero so_far b lt e = absurd (omega (arith, lt))
counts_last (suc left) so_far b lt e = let r = count_in so_far b in cond-false (get_or r.1 0 0 == 32) (status_counts left r.0 (drop 1 r.1)) r.0 e

more_head : (cs : List (List ℕ × ℕ)) (y : List ℕ) → IsMoreCounts cs y → is_digit (get_or (plain_octets y) 0 0) ≡ false
more_head [] y h = ap (λ (u : List ℕ). is_digit (get_or (plain_octets u) 0 0)) h
more_head (k ∷ cs) y h = ap (λ (u : List ℕ). is_digit (get_or (plain_octets u) 0 0)) h.2

more_long : (cs : List (List ℕ × ℕ)) (y : List ℕ) → IsMoreCounts cs y → length cs < length y
more_long [] y h = let l = ap length h in omega (arith, l)
more_long (k ∷ cs) y h =
    let ih = more_long cs h.1 h.4 in
    let l = ap length h.2 in
    let m = length-append h.0 h.1 in
    omega (arith, ih, l, m)

counts_read : (cs : List (List ℕ × ℕ)) (most : ℕ) (so_far : StatusItems) (k : List ℕ × ℕ) (x y b : List ℕ) → IsCount k x → IsMoreCounts cs y → length cs < most
    → b ≡ plain_octets x ++ plain_octets y → status_counts most so_far b ≡ told_counts so_far (k ∷ cs)
unfolding status_counts
counts_read cs zero so_far k x y b h m lt e = absurd (omega (arith, lt))
counts_read [] (suc most) so_far k x y b h m lt e =
    let next = told_as so_far (map lower k.0) k.1 in
    let r = count_read k so_far x (plain_octets y) b h (more_head [] y m) e in
    ap (λ (q : StatusItems × List ℕ). cond (get_or q.1 0 0 == 32) (status_counts most q.0 (drop 1 q.1)) q.0) r
    ∙ cond-false (get_or (plain_octets y) 0 0 == 32) (status_counts most next (drop 1 (plain_octets y))) next (ap (λ (u : List ℕ). get_or (plain_octets u) 0 0 == 32) m)
counts_read (j ∷ cs) (suc most) so_far k x y b h m lt e =
    let next = told_as so_far (map lower k.0) k.1 in
    let r = count_read k so_far x (plain_octets y) b h (more_head (j ∷ cs) y m) e in
    ap (λ (q : StatusItems × List ℕ). cond (get_or q.1 0 0 == 32) (status_counts most q.0 (drop 1 q.1)) q.0) r
    ∙ cond-true (get_or (plain_octets y) 0 0 == 32) (status_counts most next (drop 1 (plain_octets y))) next (ap (λ (u : List ℕ). get_or (plain_octets u) 0 0 == 32) m.2)
    ∙ counts_read cs most next j m.0 m.1 (drop 1 (plain_octets y)) m.3 m.4 (omega (arith, lt)) (ap (λ (u : List ℕ). drop 1 (plain_octets u)) m.2 ∙ map-append plain_of m.0 m.1)

first_word : (k : List ℕ × ℕ) (x y : List ℕ) → IsCount k x → (get_or (plain_octets (x ++ y)) 0 0 == 41) ≡ false
first_word k x y h = ap (λ (u : List ℕ). get_or (plain_octets (u ++ y)) 0 0 == 41) h.whole ∙ by k.0 h.word h.some
  where
    not_close : (c : ℕ) → is_status_word c ≡ true → (plain_of c == 41) ≡ false
    not_close c e = grind arith

    by : (w : List ℕ) → Each is_status_word w → 0 < length w → (get_or (plain_octets ((w ++ 32 ∷ h.digits) ++ y)) 0 0 == 41) ≡ false
    by [] each some = absurd (omega (arith, some))
    by (c ∷ w) each some = not_close c each.0

all_counts_read : (cs : List (List ℕ × ℕ)) (t : List ℕ) → IsCounts cs t → counts_in (plain_octets t) ≡ told_counts no_counts cs
unfolding counts_in
all_counts_read [] t h = cond-true (get_or (plain_octets t) 0 0 == 41) no_counts (status_counts (length (plain_octets t)) no_counts (plain_octets t))
    (ap (λ (u : List ℕ). get_or (plain_octets u) 0 0 == 41) h)
all_counts_read (k ∷ cs) t h =
    let l = more_long cs h.back h.second in
    let n = ap length h.whole in
    let m = length-append h.front h.back in
    let p = plain_length t in
    cond-false (get_or (plain_octets t) 0 0 == 41) no_counts (status_counts (length (plain_octets t)) no_counts (plain_octets t))
    (ap (λ (u : List ℕ). get_or (plain_octets u) 0 0 == 41) h.whole ∙ first_word k h.front h.back h.first)
    ∙ counts_read cs (length (plain_octets t)) no_counts k h.front h.back (plain_octets t) h.first h.second (omega (arith, l, n, m, p))
    (ap plain_octets h.whole ∙ map-append plain_of h.front h.back)

-- the octets after STATUS are read as the name and the counts that they spell
pub status_line_read : (name : List ℕ) (items : StatusItems) (t : List ℕ) → IsStatusLine name items t → status_in (plain_octets t) ≡ response.StatusItems name items
unfolding status_in
status_line_read name items t h =
    let b = plain_octets t in
    let rest : List ℕ = 32 ∷ 40 ∷ plain_octets h.rest in
    let all : b ≡ 32 ∷ (plain_octets h.first ++ rest) = ap plain_octets h.whole ∙ ap (λ (u : List ℕ). 32 ∷ u) (map-append plain_of h.first (32 ∷ 40 ∷ h.rest)) in
    let a : astring_in (drop 1 b) ≡ (h.string, rest) = astring_read h.string h.first rest (drop 1 b) h.spelled (refl, refl) (ap (drop 1) all) in
    ap (λ (r : List ℕ × List ℕ). response.StatusItems (folder_name r.0) (counts_in (drop 2 r.1))) a
    ∙ ap (λ (q : StatusItems). response.StatusItems (folder_name h.string) q) (all_counts_read h.counts h.rest h.counted ∙ sym h.items_are)
    ∙ ap (λ (u : List ℕ). response.StatusItems u items) (sym h.name_is)
