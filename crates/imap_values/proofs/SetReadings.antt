-- Words and sets of UIDs are read back as their values.
use Rattle.std.proofs.Common.{◌≡◌, ℕ, zero, suc, ◌+◌, ◌-◌, ◌<◌, ◌≤◌, Bool, true, false, List, [], ◌∷◌, ◌++◌, length, map, take, drop, get_or, cond, refl, sym, ap, subst, ◌∙◌}
use Rattle.std.proofs.Common.{append_assoc, arith, inl, inr}
use Rattle.std.specs.Prelude.{◌==◌, codes}
use Rattle.std.proofs.lemmas.Bool.{cond-true, cond-false}
use Rattle.std.proofs.lemmas.List.{length-append, append-nil}
use Rattle.imap_types.proofs.EachLemmas.{each_to, each_append}
use Rattle.imap_values.specs.Spans.{span, number_in}
use Rattle.imap_values.specs.Sets.{words_in, range_read, ranges_read, vanished_in}
use Rattle.imap_values.proofs.Cuts.{small, plain_small, plain_join, cut_at, number_is, digit_small, word_small}
use Rattle.imap_values.proofs.Lengths.{less_one, plain_length, spaced_long}
use Rattle.imap_types.specs.declared.response.Response.TheVariants as response
use Rattle.imap_types.specs.declared.uid_set.UidRange.{UidRange}
use Rattle.imap_types.specs.Octets.{is_digit, is_word, lower}
use Rattle.imap_types.specs.Texts.{Each, plain_of, plain_octets, crlf, IsWord}
use Rattle.imap_types.specs.Numbers.{IsNonZero}
use Rattle.imap_types.specs.Lines.{AllPrinted, spaced, IsWords}
use Rattle.imap_types.specs.UidSets.{range_of, IsRange, IsSet, IsSetLine, IsVanished}

-- ---- one word more, one range more

-- at a space, the words so far, the next one and those after it are the words so far and all that are read here
pub word_next : (left : ℕ) (so_far : List (List ℕ)) (b : List ℕ) → 0 < left → (get_or b 0 0 == 32) ≡ true
    → (so_far ++ take (span is_word (drop 1 b)) (drop 1 b) ∷ []) ++ words_in (left - 1) (drop (span is_word (drop 1 b)) (drop 1 b)) ≡ so_far ++ words_in left b
unfolding words_in
word_next zero so_far b lt e = absurd (omega (arith, lt))
word_next (suc left) so_far b lt e =
    let w = drop 1 b in
    append_assoc so_far (take (span is_word w) w ∷ []) (words_in (suc left - 1) (drop (span is_word w) w))
    ∙ ap (λ (n : ℕ). so_far ++ take (span is_word w) w ∷ words_in n (drop (span is_word w) w)) (sym (less_one left))
    ∙ ap (λ (u : List (List ℕ)). so_far ++ u) (sym (cond-true (get_or b 0 0 == 32) (take (span is_word w) w ∷ words_in left (drop (span is_word w) w)) [] e))

-- where no space follows, no word is added to those so far
pub word_last : (left : ℕ) (so_far : List (List ℕ)) (b : List ℕ) → (get_or b 0 0 == 32) ≡ false → so_far ++ words_in left b ≡ so_far
unfolding words_in
word_last zero so_far b e = append-nil so_far
word_last (suc left) so_far b e =
    let w = drop 1 b in
    ap (λ (u : List (List ℕ)). so_far ++ u) (cond-false (get_or b 0 0 == 32) (take (span is_word w) w ∷ words_in left (drop (span is_word w) w)) [] e) ∙ append-nil so_far

-- where no more words may be read, none is added to those so far
pub word_end : (so_far : List (List ℕ)) (b : List ℕ) → so_far ++ words_in 0 b ≡ so_far
unfolding words_in
word_end so_far b = append-nil so_far

-- where a comma follows a range, the ranges so far, this one and those after it are the ranges so far and all that are read here
pub range_next : (left : ℕ) (so_far : List UidRange) (b : List ℕ) → 0 < left → (get_or (range_read b).1 0 0 == 44) ≡ true
    → (so_far ++ (range_read b).0 ∷ []) ++ ranges_read (left - 1) (drop 1 (range_read b).1) ≡ so_far ++ ranges_read left b
unfolding ranges_read
range_next zero so_far b lt e = absurd (omega (arith, lt))
range_next (suc left) so_far b lt e =
    let r = range_read b in
    append_assoc so_far (r.0 ∷ []) (ranges_read (suc left - 1) (drop 1 r.1))
    ∙ ap (λ (n : ℕ). so_far ++ r.0 ∷ ranges_read n (drop 1 r.1)) (sym (less_one left))
    ∙ ap (λ (u : List UidRange). so_far ++ r.0 ∷ u) (sym (cond-true (get_or r.1 0 0 == 44) (ranges_read left (drop 1 r.1)) [] e))

-- where no comma follows a range, it is the last that is added to those so far
pub range_last : (left : ℕ) (so_far : List UidRange) (b : List ℕ) → 0 < left → (get_or (range_read b).1 0 0 == 44) ≡ false
    → so_far ++ ranges_read left b ≡ so_far ++ (range_read b).0 ∷ []
unfolding ranges_read
range_last zero so_far b lt e = absurd (omega (arith, lt))
range_last (suc left) so_far b lt e =
    let r = range_read b in
    ap (λ (u : List UidRange). so_far ++ r.0 ∷ u) (cond-false (get_or r.1 0 0 == 44) (ranges_read left (drop 1 r.1)) [] e)

-- where no more ranges may be read, none is added to those so far
pub range_end : (so_far : List UidRange) (b : List ℕ) → so_far ++ ranges_read 0 b ≡ so_far
unfolding ranges_read
range_end so_far b = append-nil so_far

-- ---- words

spaced_small : (ws : List (List ℕ)) → AllPrinted ws → Each small (spaced ws)
spaced_small [] h = tt
spaced_small (w ∷ ws) h = (refl, each_append small w (spaced ws) (each_to is_word small w word_small h.0.0) (spaced_small ws h.1))

spaced_out : (ws : List (List ℕ)) → is_word (get_or (spaced ws ++ crlf) 0 0) ≡ false
spaced_out [] = refl
spaced_out (w ∷ ws) = refl

read_words : (ws : List (List ℕ)) (most : ℕ) (b : List ℕ) → AllPrinted ws → length ws ≤ most → b ≡ spaced ws ++ crlf → words_in most b ≡ ws
unfolding words_in
read_words [] zero b h le e = refl
read_words [] (suc most) b h le e =
    let w = drop 1 b in
    cond-false (get_or b 0 0 == 32) (take (span is_word w) w ∷ words_in most (drop (span is_word w) w)) [] (ap (λ (u : List ℕ). get_or u 0 0 == 32) e)
read_words (x ∷ ws) zero b h le e = absurd (omega (arith, le))
read_words (x ∷ ws) (suc most) b h le e =
    let w = drop 1 b in
    let k = cut_at is_word x (spaced ws ++ crlf) w (ap (drop 1) e ∙ append_assoc x (spaced ws) crlf) h.0.0 (spaced_out ws) in
    cond-true (get_or b 0 0 == 32) (take (span is_word w) w ∷ words_in most (drop (span is_word w) w)) [] (ap (λ (u : List ℕ). get_or u 0 0 == 32) e)
    ∙ ap (λ (u : List ℕ). u ∷ words_in most (drop (span is_word w) w)) k.front
    ∙ ap (λ (u : List (List ℕ)). x ∷ u) (read_words ws most (drop (span is_word w) w) h.1 (omega (arith, le)) k.back)

-- the octets of a text that spells words are read as these words
pub words_read : (ws : List (List ℕ)) (t : List ℕ) → IsWords ws t → words_in (length (plain_octets t)) (plain_octets t) ≡ ws
words_read ws t h =
    let e : plain_octets t ≡ spaced ws ++ crlf = ap plain_octets h.1 ∙ plain_small (spaced ws ++ crlf)
    (each_append small (spaced ws) crlf (spaced_small ws h.0) (refl, (refl, tt))) in
    let l = spaced_long ws in
    let m = length-append (spaced ws) crlf in
    read_words ws (length (plain_octets t)) (plain_octets t) h.0 (omega (arith, l, m, ap length e)) e

-- ---- sets of UIDs

number_small : (n : ℕ) (t : List ℕ) → IsNonZero n t → Each small t
number_small n t h = each_to is_digit small t digit_small h.0.digits

number_read : (n : ℕ) (t : List ℕ) → IsNonZero n t → number_in t ≡ n
number_read n t h = number_is t (omega (arith, h.0.value, h.0.most)) ∙ sym h.0.value

read_range : (r : UidRange) (x y b : List ℕ) → IsRange r x → is_digit (get_or y 0 0) ≡ false → (get_or y 0 0 == 58) ≡ false → b ≡ x ++ y → range_read b ≡ (r, y)
unfolding range_read
read_range r x y b (inl s) out no_colon e =
    let k = cut_at is_digit x y b e s.1.0.digits out in
    let n = span is_digit b in
    let first = number_in (take n b) in
    let is : first ≡ s.0 = ap number_in k.front ∙ number_read s.0 x s.1 in
    let second = drop 1 (drop n b) in
    cond-false (get_or (drop n b) 0 0 == 58) (range_of first (number_in (take (span is_digit second) second)), drop (span is_digit second) second) (range_of first first, drop n b)
    (ap (λ (u : List ℕ). get_or u 0 0 == 58) k.back ∙ no_colon)
    ∙ ap (λ (m : ℕ). (range_of m m, drop n b)) is ∙ ap (λ (u : List ℕ). (range_of s.0 s.0, u)) k.back ∙ ap (λ (q : UidRange). (q, y)) (sym s.2)
read_range r x y b (inr p) out no_colon e =
    let k = cut_at is_digit p.2 (58 ∷ p.3 ++ y) b (e ∙ ap (λ (u : List ℕ). u ++ y) p.4 ∙ append_assoc p.2 (58 ∷ p.3) y) p.5.0.digits refl in
    let n = span is_digit b in
    let first = number_in (take n b) in
    let is : first ≡ p.0 = ap number_in k.front ∙ number_read p.0 p.2 p.5 in
    let second = drop 1 (drop n b) in
    let l = cut_at is_digit p.3 y second (ap (drop 1) k.back) p.6.0.digits out in
    let other : number_in (take (span is_digit second) second) ≡ p.1 = ap number_in l.front ∙ number_read p.1 p.3 p.6 in
    cond-true (get_or (drop n b) 0 0 == 58) (range_of first (number_in (take (span is_digit second) second)), drop (span is_digit second) second) (range_of first first, drop n b)
    (ap (λ (u : List ℕ). get_or u 0 0 == 58) k.back)
    ∙ ap (λ (m : ℕ). (range_of m (number_in (take (span is_digit second) second)), drop (span is_digit second) second)) is
    ∙ ap (λ (m : ℕ). (range_of p.0 m, drop (span is_digit second) second)) other
    ∙ ap (λ (u : List ℕ). (range_of p.0 p.1, u)) l.back ∙ ap (λ (q : UidRange). (q, y)) (sym p.7)

range_small : (r : UidRange) (t : List ℕ) → IsRange r t → Each small t
range_small r t (inl s) = number_small s.0 t s.1
range_small r t (inr p) = subst (Each small) (sym p.4) (each_append small p.2 (58 ∷ p.3) (number_small p.0 p.2 p.5) (refl, number_small p.1 p.3 p.6))

set_small : (rs : List UidRange) (t : List ℕ) → IsSet rs t → Each small t
set_small [] t h = absurd h
set_small (r ∷ []) t h = range_small r t h
set_small (r ∷ q ∷ rs) t h = subst (Each small) (sym h.2) (each_append small h.0 (44 ∷ h.1) (range_small r h.0 h.3) (refl, set_small (q ∷ rs) h.1 h.4))

set_long : (rs : List UidRange) (t : List ℕ) → IsSet rs t → length rs ≤ length t + 1
set_long [] t h = absurd h
set_long (r ∷ []) t h = omega arith
set_long (r ∷ q ∷ rs) t h =
    let ih = set_long (q ∷ rs) h.1 h.4 in
    let l = ap length h.2 in
    let m = length-append h.0 (44 ∷ h.1) in
    omega (arith, ih, l, m)

-- the ranges of a set, before what follows it
pub read_ranges : (rs : List UidRange) (most : ℕ) (x y b : List ℕ) → IsSet rs x → length rs ≤ most → is_digit (get_or y 0 0) ≡ false → (get_or y 0 0 == 58) ≡ false
    → (get_or y 0 0 == 44) ≡ false → b ≡ x ++ y → ranges_read most b ≡ rs
unfolding ranges_read
read_ranges [] most x y b h le out no_colon no_comma e = absurd h
read_ranges (r ∷ rs) zero x y b h le out no_colon no_comma e = absurd (omega (arith, le))
read_ranges (r ∷ []) (suc most) x y b h le out no_colon no_comma e =
    let k = read_range r x y b h out no_colon e in
    ap (λ (q : UidRange × List ℕ). q.0 ∷ cond (get_or q.1 0 0 == 44) (ranges_read most (drop 1 q.1)) []) k
    ∙ ap (λ (u : List UidRange). r ∷ u) (cond-false (get_or y 0 0 == 44) (ranges_read most (drop 1 y)) [] no_comma)
read_ranges (r ∷ q ∷ rs) (suc most) x y b h le out no_colon no_comma e =
    let k = read_range r h.0 (44 ∷ h.1 ++ y) b h.3 refl refl (e ∙ ap (λ (u : List ℕ). u ++ y) h.2 ∙ append_assoc h.0 (44 ∷ h.1) y) in
    ap (λ (p : UidRange × List ℕ). p.0 ∷ cond (get_or p.1 0 0 == 44) (ranges_read most (drop 1 p.1)) []) k
    ∙ ap (λ (u : List UidRange). r ∷ u) (read_ranges (q ∷ rs) most h.1 y (h.1 ++ y) h.4 (omega (arith, le)) out no_colon no_comma refl)

line_ranges : (rs : List UidRange) (t : List ℕ) (most : ℕ) → IsSetLine rs t → length t ≤ most → ranges_read most (plain_octets t) ≡ rs
line_ranges rs t most h le =
    let s = set_small rs h.front h.first in
    let l = set_long rs h.front h.first in
    let n = ap length h.whole in
    let m = length-append h.front h.back in
    let c = ap length h.second in
    read_ranges rs most h.front crlf (plain_octets t) h.first (omega (arith, l, n, m, c, le)) refl refl refl
    (ap plain_octets h.whole ∙ plain_join h.front h.back s ∙ ap (λ (u : List ℕ). h.front ++ plain_octets u) h.second)

first_digit : (rs : List UidRange) (t : List ℕ) → IsSetLine rs t → (get_or (plain_octets t) 0 0 == 40) ≡ false
first_digit rs t h = ap (λ (u : List ℕ). get_or (plain_octets u) 0 0 == 40) h.whole ∙ set_first rs h.front h.back h.first
  where
    digit_no : (c : ℕ) → is_digit c ≡ true → (plain_of c == 40) ≡ false
    digit_no c e = grind arith

    number_first : (n : ℕ) (t u : List ℕ) → IsNonZero n t → (get_or (plain_octets (t ++ u)) 0 0 == 40) ≡ false
    number_first n [] u h = absurd (omega (arith, h.0.some))
    number_first n (c ∷ t) u h = digit_no c h.0.digits.0

    range_first : (r : UidRange) (t u : List ℕ) → IsRange r t → (get_or (plain_octets (t ++ u)) 0 0 == 40) ≡ false
    range_first r t u (inl s) = number_first s.0 t u s.1
    range_first r t u (inr p) = ap (λ (v : List ℕ). get_or (plain_octets v) 0 0 == 40) (ap (λ (v : List ℕ). v ++ u) p.4 ∙ append_assoc p.2 (58 ∷ p.3) u)
        ∙ number_first p.0 p.2 (58 ∷ p.3 ++ u) p.5

    set_first : (rs : List UidRange) (t u : List ℕ) → IsSet rs t → (get_or (plain_octets (t ++ u)) 0 0 == 40) ≡ false
    set_first [] t u h = absurd h
    set_first (r ∷ []) t u h = range_first r t u h
    set_first (r ∷ q ∷ rs) t u h = ap (λ (v : List ℕ). get_or (plain_octets v) 0 0 == 40) (ap (λ (v : List ℕ). v ++ u) h.2 ∙ append_assoc h.0 (44 ∷ h.1) u)
        ∙ range_first r h.0 (44 ∷ h.1 ++ u) h.3

-- ten octets, whatever their case
earlier_ten : (w : List ℕ) → IsWord (codes "(earlier) ") w → (u : List ℕ) → drop 10 (plain_octets (w ++ u)) ≡ plain_octets u
earlier_ten (a ∷ b ∷ c ∷ d ∷ e ∷ f ∷ g ∷ h ∷ i ∷ j ∷ []) q u = refl
earlier_ten [] q u = absurd cc
earlier_ten (a ∷ []) q u = absurd cc
earlier_ten (a ∷ b ∷ []) q u = absurd cc
earlier_ten (a ∷ b ∷ c ∷ []) q u = absurd cc
earlier_ten (a ∷ b ∷ c ∷ d ∷ []) q u = absurd cc
earlier_ten (a ∷ b ∷ c ∷ d ∷ e ∷ []) q u = absurd cc
earlier_ten (a ∷ b ∷ c ∷ d ∷ e ∷ f ∷ []) q u = absurd cc
earlier_ten (a ∷ b ∷ c ∷ d ∷ e ∷ f ∷ g ∷ []) q u = absurd cc
earlier_ten (a ∷ b ∷ c ∷ d ∷ e ∷ f ∷ g ∷ h ∷ []) q u = absurd cc
earlier_ten (a ∷ b ∷ c ∷ d ∷ e ∷ f ∷ g ∷ h ∷ i ∷ []) q u = absurd cc
earlier_ten (a ∷ b ∷ c ∷ d ∷ e ∷ f ∷ g ∷ h ∷ i ∷ j ∷ k ∷ w) q u = absurd cc

earlier_first : (w u : List ℕ) → IsWord (codes "(earlier) ") w → (get_or (plain_octets (w ++ u)) 0 0 == 40) ≡ true
earlier_first [] u h = absurd cc
earlier_first (c ∷ w) u h = let first : lower c ∷ map lower w ≡ codes "(earlier) " = h in bracket c cc
  where
    bracket : (c : ℕ) → lower c ≡ 40 → (plain_of c == 40) ≡ true
    bracket c e = grind arith

-- the octets after VANISHED are read as the set that they spell, and as EARLIER or not
pub vanished_read : (earlier : Bool) (rs : List UidRange) (t : List ℕ) → IsVanished earlier rs t → vanished_in (plain_octets t) ≡ response.Vanished earlier (record { ranges = rs })
unfolding vanished_in
vanished_read true rs t h =
    let b = plain_octets t in
    let n = plain_length t in
    let l = ap length h.whole in
    let m = length-append h.front h.back in
    let rest : drop 10 b ≡ plain_octets h.back = ap (λ (u : List ℕ). drop 10 (plain_octets u)) h.whole ∙ earlier_ten h.front h.first h.back in
    let is : ranges_read (length b) (drop 10 b) ≡ rs = ap (ranges_read (length b)) rest ∙ line_ranges rs h.back (length b) h.second (omega (arith, n, l, m)) in
    cond-true (get_or b 0 0 == 40) (response.Vanished true (record { ranges = ranges_read (length b) (drop 10 b) }))
    (response.Vanished false (record { ranges = ranges_read (length b) b })) (ap (λ (u : List ℕ). get_or (plain_octets u) 0 0 == 40) h.whole ∙ earlier_first h.front h.back h.first)
    ∙ ap (λ (u : List UidRange). response.Vanished true (record { ranges = u })) is
vanished_read false rs t h =
    let b = plain_octets t in
    let n = plain_length t in
    cond-false (get_or b 0 0 == 40) (response.Vanished true (record { ranges = ranges_read (length b) (drop 10 b) }))
    (response.Vanished false (record { ranges = ranges_read (length b) b })) (first_digit rs t h)
    ∙ ap (λ (u : List UidRange). response.Vanished false (record { ranges = u })) (line_ranges rs t (length b) h (omega (arith, n)))

pub ruleset words = (word_next, word_last, word_end)

pub ruleset ranges = (range_next, range_last, range_end)
