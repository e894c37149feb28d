-- What the walk has seen says which ids were touched.
use Rattle.std.proofs.Common.{◌≡◌, ℕ, suc, ◌+◌, ◌≤◌, List, [], ◌∷◌, Bool, true, false, map, drop, length, Option, Some, None, refl, sym, ap, subst, ◌∙◌, arith, is_some, BTreeMap}
use Rattle.std.proofs.Common.{nat_cmp, slice_get, nat_lt, All}
use Rattle.std.specs.BTreeMap.{get, IsOrdered}
use Rattle.std.proofs.lemmas.List.{length-drop}
use Rattle.std.proofs.lemmas.List.Elements.{All-nil, All-cons}
use Rattle.std.proofs.lemmas.Bool.{ltb-true, ltb-false}
use Rattle.std.proofs.lemmas.Map.Entries.{btree_map_get_place}
use Rattle.std.proofs.lemmas.Cmp.{nat_cmp_total}
use Rattle.change_list.specs.Touches.{there_at, between, touches, AreTouches}
use Rattle.change_list.specs.Changes.{Lists}
use Rattle.change_list.specs.reading.Seen.{Gathered}
use Rattle.change_list.specs.TouchedIds.{AreTouched}
use Rattle.change_list.specs.declared.entries.Entry.{Entry}
use Rattle.change_list.specs.declared.walk.Seen.{Seen}
use Rattle.change_list.proofs.Picked.{picked, lists_picked}
use Rattle.change_list.proofs.FromSeen.{Lists_for, was_at_start, touched_is, was_before}

-- each id with whether it was there before
abbrev pub with_presence : List (ℕ × Seen) → List (ℕ × Bool)
with_presence es = map (λ e. (e.0, e.1.was_there)) es

-- it has all ids that were seen
keys_with_presence : (es : List (ℕ × Seen)) → picked (λ _. true) es ≡ map (λ x. x.0) (with_presence es)
keys_with_presence [] = refl
keys_with_presence (e ∷ es) = ap (λ ks. e.0 ∷ ks) (keys_with_presence es)

-- what holds of each entry at its place holds of all
all_shown : (P : ℕ × Bool → Type 0) (es : List (ℕ × Seen)) → ((i : ℕ) (e : ℕ × Seen) → slice_get es i ≡ Some e → P (e.0, e.1.was_there)) → All P (with_presence es)
all_shown P [] f = All-nil P
all_shown P (e ∷ es) f = All-cons P (e.0, e.1.was_there) (with_presence es) (f 0 e refl) (all_shown P es (λ i e' h. f (suc i) e' h))

-- an id is touched exactly where something was seen of it
found_is : (o : Option Seen) (t : Bool) → t ≡ is_some o → (x : Seen) × (o ≡ Some x) × (true ≡ true) → t ≡ true
found_is o t e h = e ∙ ap is_some h.1

is_found : (o : Option Seen) (t : Bool) → t ≡ is_some o → t ≡ true → (x : Seen) × (o ≡ Some x) × (true ≡ true)
is_found None t e h = absurd (let f : true ≡ false = sym h ∙ e in cc)
is_found (Some x) t e h = (x, refl, refl)

-- a walk over all touches after s tells what was touched after s
pub touched_from : (h : List Entry) (s t : ℕ) (m : BTreeMap ℕ Seen) → AreTouches h → s ≤ length h → IsOrdered nat_cmp m → Gathered (drop s h) None m t
    → AreTouched h s (with_presence m.entries)
touched_from h s t m fits sn ordered g =
    let all : length (drop s h) ≤ t = elim (nat_lt t (length (drop s h))) as (λ b. nat_lt t (length (drop s h)) ≡ b → length (drop s h) ≤ t) [
      | true ↦ λ e. absurd (let f = g.full (ltb-true t (length (drop s h)) e) in let n : None ≡ Some f.0 = f.1 in cc)
      | false ↦ λ e. ltb-false t (length (drop s h)) e
    ] refl in
    let end : s + t ≡ length h = omega (arith, g.within, all, length-drop s h) in
    let tn : s + t ≤ length h = omega arith in
    let T : ℕ → Type 0 = λ n. Lists (map (λ x. x.0) (with_presence m.entries)) (λ q. touches (between h s n) q ≡ true) in
    let L : List ℕ → Type 0 = λ ks. Lists ks (λ q. (x : Seen) × (get nat_cmp m q ≡ Some x) × (true ≡ true)) in
    let there = λ (q : ℕ). touched_is h s t fits tn q ∙ ap is_some (sym (g.known q)) in
    record {
      ids = subst T end (Lists_for _ _ _ (λ q. (found_is (get nat_cmp m q) _ (there q), is_found (get nat_cmp m q) _ (there q)))
          (subst L (keys_with_presence m.entries) (lists_picked (λ _. true) m ordered)));
      presence = all_shown (λ x. x.1 ≡ there_at h s x.0) m.entries (λ i e here.
          let v : get nat_cmp m e.0 ≡ Some e.1 = btree_map_get_place nat_cmp_total m i e.0 e.1 ordered here in
          sym (was_at_start h s t fits tn e.0 ∙ ap (λ (o : Option Seen). was_before o (there_at h s e.0)) (sym (g.known e.0) ∙ v)));
    }
