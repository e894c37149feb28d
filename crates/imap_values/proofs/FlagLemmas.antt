-- Sets of owned names, and lists of names.
use Rattle.std.proofs.Common.{◌≡◌, ℕ, zero, suc, ◌+◌, ◌-◌, ◌<◌, true, false, List, [], ◌∷◌, length, map, take, drop, get_or, Vec, Global, refl, ap, ◌∙◌, arith, nat_cmp, Ordering}
use Rattle.std.proofs.Common.{Less, Equal, Greater}
use Rattle.std.specs.Cmp.Lexicographic.{slice_cmp}
use Rattle.std.specs.Ordering.{match_ordering}
use Rattle.std.specs.BTreeSet.{insert_key}
use Rattle.std.specs.Prelude.{◌==◌}
use Rattle.std.proofs.lemmas.Bool.{cond-true, cond-false}
use Rattle.imap_values.proofs.Lengths.{less_one}
use Rattle.imap_values.specs.Spans.{span, in_name, names_in, flags_in}
use Rattle.imap_types.specs.Octets.{lower}
use Rattle.imap_types.specs.Items.{add_name}

-- putting an owned name in a set puts its octets in the set of the names' octets
pub insert_items : (keys : List (Vec ℕ Global)) (k : Vec ℕ Global)
    → map (λ (v : Vec ℕ Global). v.items) (insert_key (λ (x y : Vec ℕ Global). slice_cmp nat_cmp x.items y.items) keys k)
    ≡ insert_key (slice_cmp nat_cmp) (map (λ (v : Vec ℕ Global). v.items) keys) k.items
insert_items [] k = refl
insert_items (x ∷ keys) k = by (slice_cmp nat_cmp k.items x.items) (insert_items keys k)
  where
    by : (o : Ordering) → map (λ (v : Vec ℕ Global). v.items) (insert_key (λ (x y : Vec ℕ Global). slice_cmp nat_cmp x.items y.items) keys k)
        ≡ insert_key (slice_cmp nat_cmp) (map (λ (v : Vec ℕ Global). v.items) keys) k.items
        → map (λ (v : Vec ℕ Global). v.items) (match_ordering o (k ∷ x ∷ keys) (x ∷ keys) (x ∷ insert_key (λ (x y : Vec ℕ Global). slice_cmp nat_cmp x.items y.items) keys k))
        ≡ match_ordering o (k.items ∷ x.items ∷ map (λ (v : Vec ℕ Global). v.items) keys) (x.items ∷ map (λ (v : Vec ℕ Global). v.items) keys)
        (x.items ∷ insert_key (slice_cmp nat_cmp) (map (λ (v : Vec ℕ Global). v.items) keys) k.items)
    by Less h = refl
    by Equal h = refl
    by Greater h = ap (λ (u : List (List ℕ)). x.items ∷ u) h

-- ---- one name more

-- a name with a space after it is added, and the others are read after the space, with one fewer allowed
pub names_next : (left : ℕ) (so_far : List (List ℕ)) (b : List ℕ) → 0 < left → (get_or b (span in_name b) 0 == 32) ≡ true
    → names_in left so_far b ≡ names_in (left - 1) (add_name so_far (map lower (take (span in_name b) b))) (drop (span in_name b + 1) b)
unfolding names_in
names_next zero so_far b lt e = absurd (omega (arith, lt))
names_next (suc left) so_far b lt e =
    cond-true (get_or b (span in_name b) 0 == 32) (names_in left (add_name so_far (map lower (take (span in_name b) b))) (drop (span in_name b + 1) b))
    (add_name so_far (map lower (take (span in_name b) b)), drop (span in_name b + 1) b) e
    ∙ ap (λ (n : ℕ). names_in n (add_name so_far (map lower (take (span in_name b) b))) (drop (span in_name b + 1) b)) (less_one left)

-- a name with no space after it is added as the last, and what follows the octet after it is left
pub names_last : (left : ℕ) (so_far : List (List ℕ)) (b : List ℕ) → 0 < left → (get_or b (span in_name b) 0 == 32) ≡ false
    → names_in left so_far b ≡ (add_name so_far (map lower (take (span in_name b) b)), drop (span in_name b + 1) b)
unfolding names_in
names_last zero so_far b lt e = absurd (omega (arith, lt))
names_last (suc left) so_far b lt e =
    cond-false (get_or b (span in_name b) 0 == 32) (names_in left (add_name so_far (map lower (take (span in_name b) b))) (drop (span in_name b + 1) b))
    (add_name so_far (map lower (take (span in_name b) b)), drop (span in_name b + 1) b) e

-- one name alone
pub flags_one : (b : List ℕ) → (get_or b 0 0 == 41) ≡ false → 0 < length b → (get_or b (span in_name b) 0 == 32) ≡ false
    → flags_in b ≡ (add_name [] (map lower (take (span in_name b) b)), drop (span in_name b + 1) b)
unfolding flags_in
flags_one b begun some alone = cond-false (get_or b 0 0 == 41) ([], drop 1 b) (names_in (length b) [] b) begun ∙ names_last (length b) [] b some alone
