-- The code that is read is the one that the line has, and the only one.
use Rattle.std.proofs.Common.{◌≡◌, inl, inr, ℕ, zero, suc, ◌<◌, ◌≤◌, Bool, true, false, ◌&&◌, List, [], ◌∷◌, ◌++◌, length, map, drop, get_or, cond, refl, sym, ap, subst, ◌∙◌}
use Rattle.std.proofs.Common.{arith, Option, Some, None}
use Rattle.std.specs.Prelude.{◌==◌, nat_lt, nat_le, codes, bytes_eq, unwrap_or}
use Rattle.std.specs.List.{list_all}
use Rattle.std.proofs.lemmas.Bool.{cond-true, and_parts, and_from, ltb-true, leb-true, lt-ltb, le-leb, eqb-true}
use Rattle.std.proofs.lemmas.List.{length-append}
use Rattle.std.proofs.lemmas.Slice.Eq.{bytes_eq-Decides}
use Rattle.std.proofs.lemmas.Option.{same_Some}
use Rattle.imap_types.specs.declared.code.Code.{Code}
use Rattle.imap_types.specs.declared.code.Code.TheVariants as code
use Rattle.imap_types.specs.declared.uid_set.UidRange.{UidRange}
use Rattle.imap_types.specs.Octets.{is_digit, lower}
use Rattle.imap_types.specs.Texts.{Each, IsWord}
use Rattle.imap_types.specs.Numbers.{value_from, IsNonZero, IsLong}
use Rattle.imap_types.specs.UidSets.{range_of, IsRange, IsSet}
use Rattle.imap_types.specs.Codes.{Parted, IsKnown, Bracketed, HasCode}
use Rattle.imap_types.specs.reading.CodeReading.{cut, is_decimal, nonzero_in, long_in, one_range, two_range, range_by, range_in, one_in_set, more_in_set, ranges_in, set_in}
use Rattle.imap_types.specs.reading.CodeReading.{bare_code}
use Rattle.imap_types.specs.reading.CodeReading.{validity_of, next_of, modseq_of, appended, append_in, copied, sets_in, copy_in, code_with, known_by, known_in, code_by, code_in}
use Rattle.imap_types.proofs.CutLemmas.{by_test, by_some, other, free_of, cut_some, cut_at, cut_free, cut_none}
use Rattle.imap_types.proofs.EachLemmas.{each_to, each_append, each_all, all_each}

-- ---- numbers

record Decimal (digits most : ℕ) (t : List ℕ) : Type 0 where
  each : Each is_digit t
  some : 0 < length t
  few : length t ≤ digits
  within : value_from 0 t ≤ most

decimal : (digits most : ℕ) (t : List ℕ) → is_decimal digits most t ≡ true → Decimal digits most t
decimal digits most t e =
    let a = and_parts (list_all is_digit t && nat_lt 0 (length t) && nat_le (length t) digits) (nat_le (value_from 0 t) most) e in
    let b = and_parts (list_all is_digit t && nat_lt 0 (length t)) (nat_le (length t) digits) a.0 in
    let c = and_parts (list_all is_digit t) (nat_lt 0 (length t)) b.0 in
    record { each = each_all is_digit t c.0; some = ltb-true 0 (length t) c.1; few = leb-true (length t) digits b.1; within = leb-true (value_from 0 t) most a.1 }

is_decimal_of : (digits most : ℕ) (t : List ℕ) → Each is_digit t → 0 < length t → length t ≤ digits → value_from 0 t ≤ most → is_decimal digits most t ≡ true
is_decimal_of digits most t each some few within =
    and_from _ _ (and_from _ _ (and_from _ _ (all_each is_digit t each) (lt-ltb 0 (length t) some)) (le-leb (length t) digits few)) (le-leb (value_from 0 t) most within)

-- a text that is read as a nonzero number spells that number
pub nonzero_sound : (t : List ℕ) (n : ℕ) → nonzero_in t ≡ Some n → IsNonZero n t
unfolding nonzero_in
nonzero_sound t n e = by_test (is_decimal 10 4294967295 t && nat_lt 0 (value_from 0 t)) (Some (value_from 0 t)) None (Some n) (IsNonZero n t) e
    (λ b f.
    let a = and_parts (is_decimal 10 4294967295 t) (nat_lt 0 (value_from 0 t)) b in
    let d = decimal 10 4294967295 t a.0 in
    let same : value_from 0 t ≡ n = same_Some (value_from 0 t) n f in
    (record { digits = d.each; some = d.some; few = d.few; value = sym same; most = omega (arith, d.within, same) }, omega (arith, same, ltb-true 0 (value_from 0 t) a.1)))
    (λ b f. absurd cc)

-- a text that spells a nonzero number is read as that number
pub nonzero_complete : (n : ℕ) (t : List ℕ) → IsNonZero n t → nonzero_in t ≡ Some n
unfolding nonzero_in
nonzero_complete n t h =
    let d = h.0 in
    cond-true (is_decimal 10 4294967295 t && nat_lt 0 (value_from 0 t)) (Some (value_from 0 t)) None
    (and_from _ _ (is_decimal_of 10 4294967295 t d.digits d.some d.few (omega (arith, d.value, d.most))) (lt-ltb 0 (value_from 0 t) (omega (arith, d.value, h.1))))
    ∙ ap (λ (m : ℕ). Some m) (sym d.value)

-- a text that is read as a 63-bit number spells that number
pub long_sound : (t : List ℕ) (n : ℕ) → long_in t ≡ Some n → IsLong n t
unfolding long_in
long_sound t n e = by_test (is_decimal 19 9223372036854775807 t) (Some (value_from 0 t)) None (Some n) (IsLong n t) e
    (λ b f.
    let d = decimal 19 9223372036854775807 t b in
    let same : value_from 0 t ≡ n = same_Some (value_from 0 t) n f in
    record { digits = d.each; some = d.some; few = d.few; value = sym same; most = omega (arith, d.within, same) })
    (λ b f. absurd cc)

-- a text that spells a 63-bit number is read as that number
pub long_complete : (n : ℕ) (t : List ℕ) → IsLong n t → long_in t ≡ Some n
unfolding long_in
long_complete n t h =
    cond-true (is_decimal 19 9223372036854775807 t) (Some (value_from 0 t)) None (is_decimal_of 19 9223372036854775807 t h.digits h.some h.few (omega (arith, h.value, h.most)))
    ∙ ap (λ (m : ℕ). Some m) (sym h.value)

-- ---- sets of UIDs

digit_not_colon : (c : ℕ) → is_digit c ≡ true → other 58 c ≡ true
digit_not_colon c e = grind arith

digit_not_comma : (c : ℕ) → is_digit c ≡ true → other 44 c ≡ true
digit_not_comma c e = grind arith

digit_not_space : (c : ℕ) → is_digit c ≡ true → other 32 c ≡ true
digit_not_space c e = grind arith

nonzero_free : (c n : ℕ) (t : List ℕ) → ((d : ℕ) → is_digit d ≡ true → other c d ≡ true) → IsNonZero n t → Each (other c) t
nonzero_free c n t f h = each_to is_digit (other c) t f h.0.digits

range_sound : (t : List ℕ) (r : UidRange) → range_in t ≡ Some r → IsRange r t
unfolding range_in
range_sound t r e = by (cut 58 t) refl e
  where
    by : (o : Option (List ℕ × List ℕ)) → cut 58 t ≡ o → range_by t o ≡ Some r → IsRange r t
    by None f g = by_some (nonzero_in t) one_range r (IsRange r t) refl g (λ n k l. inl (n, nonzero_sound t n k, sym (same_Some (range_of n n) r l)))
    by (Some q) f g =
        by_some (nonzero_in q.0) (λ (m : Option ℕ). two_range m (nonzero_in q.1)) r (IsRange r t) refl g (λ m k l.
        by_some (nonzero_in q.1) (two_range (Some m)) r (IsRange r t) refl l (λ n i j.
        inr (m, n, q.0, q.1, (cut_some 58 t q f).0, nonzero_sound q.0 m k, nonzero_sound q.1 n i, sym (same_Some (range_of m n) r j))))

range_complete : (r : UidRange) (t : List ℕ) → IsRange r t → range_in t ≡ Some r
unfolding range_in
range_complete r t (inl h) =
    ap (range_by t) (cut_free 58 t (nonzero_free 58 h.0 t digit_not_colon h.1)) ∙ ap one_range (nonzero_complete h.0 t h.1) ∙ ap (λ (q : UidRange). Some q) (sym h.2)
range_complete r t (inr h) =
    ap (range_by t) (ap (cut 58) h.4 ∙ cut_at 58 h.2 h.3 (nonzero_free 58 h.0 h.2 digit_not_colon h.5))
    ∙ ap (λ (m : Option ℕ). two_range m (nonzero_in h.3)) (nonzero_complete h.0 h.2 h.5)
    ∙ ap (two_range (Some h.0)) (nonzero_complete h.1 h.3 h.6) ∙ ap (λ (q : UidRange). Some q) (sym h.7)

range_free : (c : ℕ) (r : UidRange) (t : List ℕ) → ((d : ℕ) → is_digit d ≡ true → other c d ≡ true) → other c 58 ≡ true → IsRange r t → Each (other c) t
range_free c r t f e (inl h) = nonzero_free c h.0 t f h.1
range_free c r t f e (inr h) =
    subst (Each (other c)) (sym h.4) (each_append (other c) h.2 (58 ∷ h.3) (nonzero_free c h.0 h.2 f h.5) (e, nonzero_free c h.1 h.3 f h.6))

ranges_sound : (most : ℕ) (t : List ℕ) (rs : List UidRange) → ranges_in most t ≡ Some rs → IsSet rs t
unfolding ranges_in
ranges_sound zero t rs e = absurd cc
ranges_sound (suc most) t rs e = by (ranges_sound most) (cut 44 t) refl e
  where
    joined : (r : UidRange) (rs : List UidRange) (front back : List ℕ) → t ≡ front ++ 44 ∷ back → IsRange r front → IsSet rs back → IsSet (r ∷ rs) t
    joined r [] front back e h k = absurd k
    joined r (s ∷ rs) front back e h k = (front, back, e, h, k)

    by : ((u : List ℕ) (more : List UidRange) → ranges_in most u ≡ Some more → IsSet more u) → (o : Option (List ℕ × List ℕ)) → cut 44 t ≡ o
        → elim o [ None ↦ one_in_set (range_in t) | Some r ↦ more_in_set (range_in r.0) (ranges_in most r.1) ] ≡ Some rs → IsSet rs t
    by ih None f g = by_some (range_in t) one_in_set rs (IsSet rs t) refl g (λ r k l. subst (λ (q : List UidRange). IsSet q t) (same_Some (r ∷ []) rs l) (range_sound t r k))
    by ih (Some q) f g =
        by_some (range_in q.0) (λ (m : Option UidRange). more_in_set m (ranges_in most q.1)) rs (IsSet rs t) refl g (λ r k l.
        by_some (ranges_in most q.1) (more_in_set (Some r)) rs (IsSet rs t) refl l (λ more i j.
        subst (λ (q : List UidRange). IsSet q t) (same_Some (r ∷ more) rs j) (joined r more q.0 q.1 (cut_some 44 t q f).0 (range_sound q.0 r k) (ih q.1 more i))))

ranges_complete : (most : ℕ) (rs : List UidRange) (t : List ℕ) → length rs ≤ most → IsSet rs t → ranges_in most t ≡ Some rs
unfolding ranges_in
ranges_complete most [] t le h = absurd h
ranges_complete zero (r ∷ rs) t le h = absurd (omega arith)
ranges_complete (suc most) (r ∷ []) t le h =
    ap (λ (o : Option (List ℕ × List ℕ)). elim o [ None ↦ one_in_set (range_in t) | Some r ↦ more_in_set (range_in r.0) (ranges_in most r.1) ])
    (cut_free 44 t (range_free 44 r t digit_not_comma refl h))
    ∙ ap one_in_set (range_complete r t h)
ranges_complete (suc most) (r ∷ s ∷ rs) t le h =
    ap (λ (o : Option (List ℕ × List ℕ)). elim o [ None ↦ one_in_set (range_in t) | Some r ↦ more_in_set (range_in r.0) (ranges_in most r.1) ])
    (ap (cut 44) h.2 ∙ cut_at 44 h.0 h.1 (range_free 44 r h.0 digit_not_comma refl h.3))
    ∙ ap (λ (m : Option UidRange). more_in_set m (ranges_in most h.1)) (range_complete r h.0 h.3)
    ∙ ap (more_in_set (Some r)) (ranges_complete most (s ∷ rs) h.1 (omega arith) h.4)

range_long : (r : UidRange) (t : List ℕ) → IsRange r t → 0 < length t
range_long r t (inl h) = h.1.0.some
range_long r t (inr h) = omega (arith, ap length h.4, length-append h.2 (58 ∷ h.3), h.5.0.some)

set_long : (rs : List UidRange) (t : List ℕ) → IsSet rs t → length rs ≤ length t
set_long [] t h = absurd h
set_long (r ∷ []) t h = let l = range_long r t h in omega (arith, l)
set_long (r ∷ s ∷ rs) t h = omega (arith, ap length h.2, length-append h.0 (44 ∷ h.1), set_long (s ∷ rs) h.1 h.4)

-- a text that is read as a set of UIDs spells that set
pub set_sound : (t : List ℕ) (rs : List UidRange) → set_in t ≡ Some rs → IsSet rs t
unfolding set_in
set_sound t rs e = ranges_sound (length t) t rs e

-- a text that spells a set of UIDs is read as that set
pub set_complete : (rs : List UidRange) (t : List ℕ) → IsSet rs t → set_in t ≡ Some rs
unfolding set_in
set_complete rs t h = ranges_complete (length t) rs t (set_long rs t h) h

set_free : (rs : List UidRange) (t : List ℕ) → IsSet rs t → Each (other 32) t
set_free [] t h = absurd h
set_free (r ∷ []) t h = range_free 32 r t digit_not_space refl h
set_free (r ∷ s ∷ rs) t h =
    subst (Each (other 32)) (sym h.2) (each_append (other 32) h.0 (44 ∷ h.1) (range_free 32 r h.0 digit_not_space refl h.3) (refl, set_free (s ∷ rs) h.1 h.4))

-- ---- known codes

same_word : (t k : List ℕ) → bytes_eq (map lower t) k ≡ true → IsWord k t
same_word t k e = (bytes_eq-Decides (map lower t) k).0 e

bare_sound : (t : List ℕ) (c : Code) → bare_code (map lower t) ≡ Some c → IsKnown c t
unfolding bare_code
bare_sound t c e = by_test (bytes_eq (map lower t) (codes "nomodseq")) (Some code.NoModSeq) _ (Some c) (IsKnown c t) e
    (λ b f. subst (λ (k : Code). IsKnown k t) (same_Some code.NoModSeq c f) (same_word t (codes "nomodseq") b))
    (λ b f. by_test (bytes_eq (map lower t) (codes "closed")) (Some code.Closed) _ (Some c) (IsKnown c t) f
    (λ b f. subst (λ (k : Code). IsKnown k t) (same_Some code.Closed c f) (same_word t (codes "closed") b))
    (λ b f. by_test (bytes_eq (map lower t) (codes "overquota")) (Some code.OverQuota) None (Some c) (IsKnown c t) f
    (λ b f. subst (λ (k : Code). IsKnown k t) (same_Some code.OverQuota c f) (same_word t (codes "overquota") b))
    (λ b f. absurd cc)))

parted : (A B : List ℕ → Type 0) (t : List ℕ) (r : List ℕ × List ℕ) → t ≡ r.0 ++ 32 ∷ r.1 → A r.0 → B r.1 → Parted A B t
parted A B t r e a b = record { front = r.0; back = r.1; whole = e; first = a; second = b }

pair_of : (A B : List ℕ → Type 0) (t : List ℕ) (r : List ℕ × List ℕ) → cut 32 t ≡ Some r → A r.0 → B r.1 → Parted A B t
pair_of A B t r e a b = parted A B t r (cut_some 32 t r e).0 a b

append_sound : (t : List ℕ) (c : Code) (P : Type 0) → append_in (cut 32 t) ≡ Some c
    → ((validity uid : ℕ) → Parted (IsNonZero validity) (IsNonZero uid) t → code.AppendUid validity uid ≡ c → P) → P
append_sound t c P e g =
    by_some (cut 32 t) append_in c P refl e (λ r cut_is f.
    by_some (nonzero_in r.0) (λ (v : Option ℕ). appended v (nonzero_in r.1)) c P refl f (λ v is_v f.
    by_some (nonzero_in r.1) (appended (Some v)) c P refl f (λ u is_u f.
    g v u (pair_of (IsNonZero v) (IsNonZero u) t r cut_is (nonzero_sound r.0 v is_v) (nonzero_sound r.1 u is_u)) (same_Some (code.AppendUid v u) c f))))

abbrev copy_of : ℕ → List UidRange → List UidRange → Code
copy_of validity from to = code.CopyUid validity (record { ranges = from }) (record { ranges = to })

copy_sound : (t : List ℕ) (c : Code) (P : Type 0) → copy_in (cut 32 t) ≡ Some c
    → ((validity : ℕ) (from to : List UidRange) → Parted (IsNonZero validity) (Parted (IsSet from) (IsSet to)) t → copy_of validity from to ≡ c → P) → P
copy_sound t c P e g =
    by_some (cut 32 t) copy_in c P refl e (λ r cut_is f.
    by_some (cut 32 r.1) (sets_in (nonzero_in r.0)) c P refl f (λ q inner_is f.
    by_some (nonzero_in r.0) (λ (v : Option ℕ). copied v (set_in q.0) (set_in q.1)) c P refl f (λ v is_v f.
    by_some (set_in q.0) (λ (s : Option (List UidRange)). copied (Some v) s (set_in q.1)) c P refl f (λ from is_from f.
    by_some (set_in q.1) (copied (Some v) (Some from)) c P refl f (λ to is_to f.
    g v from to (pair_of (IsNonZero v) (Parted (IsSet from) (IsSet to)) t r cut_is (nonzero_sound r.0 v is_v)
    (pair_of (IsSet from) (IsSet to) r.1 q inner_is (set_sound q.0 from is_from) (set_sound q.1 to is_to))) (same_Some (copy_of v from to) c f))))))

with_sound : (t : List ℕ) (r : List ℕ × List ℕ) (c : Code) → t ≡ r.0 ++ 32 ∷ r.1 → code_with (map lower r.0) r.1 ≡ Some c → IsKnown c t
unfolding code_with
with_sound t r c e f = by_test (bytes_eq (map lower r.0) (codes "uidvalidity")) (validity_of (nonzero_in r.1)) _ (Some c) (IsKnown c t) f
    (λ b f. by_some (nonzero_in r.1) validity_of c (IsKnown c t) refl f (λ n is_n f.
    subst (λ (k : Code). IsKnown k t) (same_Some (code.UidValidity n) c f)
    (parted (IsWord (codes "uidvalidity")) (IsNonZero n) t r e (same_word r.0 (codes "uidvalidity") b) (nonzero_sound r.1 n is_n))))
    (λ b f. by_test (bytes_eq (map lower r.0) (codes "uidnext")) (next_of (nonzero_in r.1)) _ (Some c) (IsKnown c t) f
    (λ b f. by_some (nonzero_in r.1) next_of c (IsKnown c t) refl f (λ n is_n f.
    subst (λ (k : Code). IsKnown k t) (same_Some (code.UidNext n) c f)
    (parted (IsWord (codes "uidnext")) (IsNonZero n) t r e (same_word r.0 (codes "uidnext") b) (nonzero_sound r.1 n is_n))))
    (λ b f. by_test (bytes_eq (map lower r.0) (codes "highestmodseq")) (modseq_of (long_in r.1)) _ (Some c) (IsKnown c t) f
    (λ b f. by_some (long_in r.1) modseq_of c (IsKnown c t) refl f (λ n is_n f.
    subst (λ (k : Code). IsKnown k t) (same_Some (code.HighestModSeq n) c f)
    (parted (IsWord (codes "highestmodseq")) (IsLong n) t r e (same_word r.0 (codes "highestmodseq") b) (long_sound r.1 n is_n))))
    (λ b f. by_test (bytes_eq (map lower r.0) (codes "appenduid")) (append_in (cut 32 r.1)) _ (Some c) (IsKnown c t) f
    (λ b f. append_sound r.1 c (IsKnown c t) f (λ v u h is.
    subst (λ (k : Code). IsKnown k t) is (parted (IsWord (codes "appenduid")) (Parted (IsNonZero v) (IsNonZero u)) t r e (same_word r.0 (codes "appenduid") b) h)))
    (λ b f. by_test (bytes_eq (map lower r.0) (codes "copyuid")) (copy_in (cut 32 r.1)) None (Some c) (IsKnown c t) f
    (λ b f. copy_sound r.1 c (IsKnown c t) f (λ v from to h is.
    subst (λ (k : Code). IsKnown k t) is (parted (IsWord (codes "copyuid")) (Parted (IsNonZero v) (Parted (IsSet from) (IsSet to))) t r e (same_word r.0 (codes "copyuid") b) h)))
    (λ b f. absurd cc)))))

-- a text that is read as a known code spells that code
pub known_sound : (t : List ℕ) (c : Code) → known_in t ≡ Some c → IsKnown c t
unfolding known_in
known_sound t c e = by (cut 32 t) refl e
  where
    by : (o : Option (List ℕ × List ℕ)) → cut 32 t ≡ o → known_by t o ≡ Some c → IsKnown c t
    by None f g = bare_sound t c g
    by (Some r) f g = with_sound t r c (cut_some 32 t r f).0 g

bare_complete : (t w : List ℕ) (c : Code) → list_all (other 32) w ≡ true → bare_code w ≡ Some c → IsWord w t → known_in t ≡ Some c
unfolding known_in
bare_complete t w c free is h = ap (known_by t) (cut_free 32 t (free_of t w h free)) ∙ ap bare_code h ∙ is

-- a word that is cut off
word_cut : (B : List ℕ → Type 0) (w t : List ℕ) → list_all (other 32) w ≡ true → (h : Parted (IsWord w) B t) → known_in t ≡ code_with w h.back
unfolding known_in
word_cut B w t free h =
    ap (known_by t) (ap (cut 32) h.whole ∙ cut_at 32 h.front h.back (free_of h.front w h.first free)) ∙ ap (λ (u : List ℕ). code_with u h.back) h.first

parted_cut : (A B : List ℕ → Type 0) (t : List ℕ) → ((u : List ℕ) → A u → Each (other 32) u) → (h : Parted A B t) → cut 32 t ≡ Some (h.front, h.back)
parted_cut A B t free h = ap (cut 32) h.whole ∙ cut_at 32 h.front h.back (free h.front h.first)

-- a text that spells a known code is read as that code
pub known_complete : (c : Code) (t : List ℕ) → IsKnown c t → known_in t ≡ Some c
unfolding bare_code code_with
known_complete (code.UidValidity n) t h = word_cut (IsNonZero n) (codes "uidvalidity") t refl h ∙ ap validity_of (nonzero_complete n h.back h.second)
known_complete (code.UidNext n) t h = word_cut (IsNonZero n) (codes "uidnext") t refl h ∙ ap next_of (nonzero_complete n h.back h.second)
known_complete (code.HighestModSeq n) t h = word_cut (IsLong n) (codes "highestmodseq") t refl h ∙ ap modseq_of (long_complete n h.back h.second)
known_complete code.NoModSeq t h = bare_complete t (codes "nomodseq") code.NoModSeq refl refl h
known_complete code.Closed t h = bare_complete t (codes "closed") code.Closed refl refl h
known_complete code.OverQuota t h = bare_complete t (codes "overquota") code.OverQuota refl refl h
known_complete (code.AppendUid v u) t h =
    let k = h.second in
    word_cut (Parted (IsNonZero v) (IsNonZero u)) (codes "appenduid") t refl h
    ∙ ap append_in (parted_cut (IsNonZero v) (IsNonZero u) h.back (λ x n. nonzero_free 32 v x digit_not_space n) k)
    ∙ ap (λ (o : Option ℕ). appended o (nonzero_in k.back)) (nonzero_complete v k.front k.first)
    ∙ ap (appended (Some v)) (nonzero_complete u k.back k.second)
known_complete (code.CopyUid v from to) t h =
    let k = h.second in
    let l = k.second in
    word_cut (Parted (IsNonZero v) (Parted (IsSet from.ranges) (IsSet to.ranges))) (codes "copyuid") t refl h
    ∙ ap copy_in (parted_cut (IsNonZero v) (Parted (IsSet from.ranges) (IsSet to.ranges)) h.back (λ x n. nonzero_free 32 v x digit_not_space n) k)
    ∙ ap (sets_in (nonzero_in k.front)) (parted_cut (IsSet from.ranges) (IsSet to.ranges) k.back (λ x n. set_free from.ranges x n) l)
    ∙ ap (λ (o : Option ℕ). copied o (set_in l.front) (set_in l.back)) (nonzero_complete v k.front k.first)
    ∙ ap (λ (o : Option (List UidRange)). copied (Some v) o (set_in l.back)) (set_complete from.ranges l.front l.first)
    ∙ ap (copied (Some v) (Some from.ranges)) (set_complete to.ranges l.back l.second)
known_complete code.Absent t h = absurd h
known_complete code.Other t h = absurd h

-- ---- the code of a line

bracketed_known : (c : Code) (t : List ℕ) → Bracketed (IsKnown c) t → HasCode c t
bracketed_known code.Absent t h = absurd h.says
bracketed_known code.Other t h = absurd h.says
bracketed_known (code.UidValidity n) t h = h
bracketed_known (code.UidNext n) t h = h
bracketed_known (code.HighestModSeq n) t h = h
bracketed_known code.NoModSeq t h = h
bracketed_known code.Closed t h = h
bracketed_known (code.AppendUid v u) t h = h
bracketed_known (code.CopyUid v from to) t h = h
bracketed_known code.OverQuota t h = h

code_inside : (t inner behind : List ℕ) → t ≡ 32 ∷ 91 ∷ inner ++ 93 ∷ behind → Each (other 93) inner → HasCode (unwrap_or (known_in inner) code.Other) t
code_inside t inner behind e each = by (known_in inner) refl
  where
    by : (o : Option Code) → known_in inner ≡ o → HasCode (unwrap_or o code.Other) t
    by None f = record { inner = inner; behind = behind; whole = e; each = each; says = λ c h. let is : None ≡ Some c = sym f ∙ known_complete c inner h in absurd cc }
    by (Some c) f = bracketed_known c t (record { inner = inner; behind = behind; whole = e; each = each; says = known_sound inner c f })

abbrev opens : List ℕ → Bool
opens t = get_or t 0 0 == 32 && get_or t 1 0 == 91

opened : (t : List ℕ) → opens t ≡ true → t ≡ 32 ∷ 91 ∷ drop 2 t
opened [] e = absurd cc
opened (a ∷ []) e = let p = and_parts (a == 32) (0 == 91) e in absurd cc
opened (a ∷ b ∷ t) e = let p = and_parts (a == 32) (b == 91) e in let f = eqb-true a 32 p.0 in let g = eqb-true b 91 p.1 in cc

-- what follows a status has the code that is read of it
pub code_has : (t : List ℕ) → HasCode (code_in t) t
unfolding code_in
code_has t = by (opens t) refl
  where
    cut_by : (o : Option (List ℕ × List ℕ)) → opens t ≡ true → cut 93 (drop 2 t) ≡ o → HasCode (code_by o) t
    cut_by None e f = λ inner behind g. cut_none 93 inner behind (ap (λ (u : List ℕ). cut 93 (drop 2 u)) (sym g) ∙ f)
    cut_by (Some r) e f = let k = cut_some 93 (drop 2 t) r f in code_inside t r.0 r.1 (opened t e ∙ ap (λ (u : List ℕ). 32 ∷ 91 ∷ u) k.0) k.1

    by : (b : Bool) → opens t ≡ b → HasCode (cond b (code_by (cut 93 (drop 2 t))) code.Absent) t
    by true e = cut_by (cut 93 (drop 2 t)) e refl
    by false e = λ inner behind g. let is : false ≡ true = sym e ∙ ap opens g in absurd cc

code_read : (A : List ℕ → Type 0) (t : List ℕ) → (h : Bracketed A t) → code_in t ≡ unwrap_or (known_in h.inner) code.Other
unfolding code_in
code_read A t h = ap code_in h.whole ∙ ap code_by (cut_at 93 h.inner h.behind h.each)

known_read : (c : Code) (t : List ℕ) → Bracketed (IsKnown c) t → code_in t ≡ c
known_read c t h = code_read (IsKnown c) t h ∙ ap (λ (o : Option Code). unwrap_or o code.Other) (known_complete c h.inner h.says)

-- a line that has no code is read so
absent_read : (c : Code) (t : List ℕ) → HasCode c t → HasCode code.Absent t → c ≡ code.Absent
absent_read code.Absent t h k = refl
absent_read code.Other t h k = absurd (k h.inner h.behind h.whole)
absent_read (code.UidValidity n) t h k = absurd (k h.inner h.behind h.whole)
absent_read (code.UidNext n) t h k = absurd (k h.inner h.behind h.whole)
absent_read (code.HighestModSeq n) t h k = absurd (k h.inner h.behind h.whole)
absent_read code.NoModSeq t h k = absurd (k h.inner h.behind h.whole)
absent_read code.Closed t h k = absurd (k h.inner h.behind h.whole)
absent_read (code.AppendUid v u) t h k = absurd (k h.inner h.behind h.whole)
absent_read (code.CopyUid v from to) t h k = absurd (k h.inner h.behind h.whole)
absent_read code.OverQuota t h k = absurd (k h.inner h.behind h.whole)

other_read : (t : List ℕ) → (h : Bracketed (λ (inner : List ℕ). (c : Code) → IsKnown c inner → ⊥) t) → unwrap_or (known_in h.inner) code.Other ≡ code.Other
other_read t h = by (known_in h.inner) refl
  where
    by : (o : Option Code) → known_in h.inner ≡ o → unwrap_or o code.Other ≡ code.Other
    by None e = refl
    by (Some c) e = absurd (h.says c (known_sound h.inner c e))

-- what follows a status has no code but the one that is read of it
pub has_code : (c : Code) (t : List ℕ) → HasCode c t → code_in t ≡ c
has_code code.Absent t h = absent_read (code_in t) t (code_has t) h
has_code code.Other t h = code_read (λ (inner : List ℕ). (c : Code) → IsKnown c inner → ⊥) t h ∙ other_read t h
has_code (code.UidValidity n) t h = known_read (code.UidValidity n) t h
has_code (code.UidNext n) t h = known_read (code.UidNext n) t h
has_code (code.HighestModSeq n) t h = known_read (code.HighestModSeq n) t h
has_code code.NoModSeq t h = known_read code.NoModSeq t h
has_code code.Closed t h = known_read code.Closed t h
has_code (code.AppendUid v u) t h = known_read (code.AppendUid v u) t h
has_code (code.CopyUid v from to) t h = known_read (code.CopyUid v from to) t h
has_code code.OverQuota t h = known_read code.OverQuota t h
