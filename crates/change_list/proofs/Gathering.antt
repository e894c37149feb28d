-- What the walk over the touches keeps.
use Rattle.std.proofs.Common.{◌≡◌, ℕ, zero, suc, ◌+◌, ◌<◌, ◌≤◌, List, [], ◌∷◌, ◌++◌, Bool, true, false, cond, nat_eq, take, drop, length, Option, Some, None, refl, sym, ap, ◌∙◌}
use Rattle.std.proofs.Common.{arith, rules, ◌||◌, is_some, slice_get, zero-add, add-one, BTreeMap, nat_cmp}
use Rattle.std.proofs.lemmas.Bool.{eqb-true}
use Rattle.std.specs.Option.{ForSome}
use Rattle.std.specs.BTreeMap.{get, btree_map_len, is_at}
use Rattle.change_list.specs.Touches.{touches}
use Rattle.change_list.specs.reading.Seen.{seen_after, seen_after_one, fresh_count, touched_count, Gathered}
use Rattle.change_list.specs.declared.entries.Entry.{Entry}
use Rattle.change_list.specs.declared.walk.Seen.{Seen}

pub record SoFar (rest : List Entry) (max : Option ℕ) (m : BTreeMap ℕ Seen) (taken : ℕ) : Type 0 where
  pub within : taken ≤ length rest
  pub known : (q : ℕ) → get nat_cmp m q ≡ seen_after None (take taken rest) q
  pub count : btree_map_len m ≡ touched_count (take taken rest)
  pub few : ForSome max (λ most. btree_map_len m ≤ most)

-- one more touch
pub seen_after-snoc : (known : Option Seen) (es : List Entry) (e : Entry) (q : ℕ)
    → seen_after known (es ++ e ∷ []) q ≡ cond (nat_eq e.id q) (Some (seen_after_one (seen_after known es q) e)) (seen_after known es q)
seen_after-snoc known [] e q = refl
seen_after-snoc known (f ∷ es) e q = seen_after-snoc (cond (nat_eq f.id q) (Some (seen_after_one known f)) known) es e q

-- something is seen of the ids that are touched
pub is_some-seen_after : (known : Option Seen) (es : List Entry) (q : ℕ) → is_some (seen_after known es q) ≡ is_some known || touches es q
is_some-seen_after known [] q = elim known as (λ k. is_some k ≡ is_some k || false) [ None ↦ refl | Some x ↦ refl ]
is_some-seen_after known (f ∷ es) q =
    is_some-seen_after (cond (nat_eq f.id q) (Some (seen_after_one known f)) known) es q
    ∙ elim (nat_eq f.id q) as (λ b. is_some (cond b (Some (seen_after_one known f)) known) || touches es q ≡ is_some known || cond b true (touches es q)) [
      | true ↦ elim known as (λ k. true || touches es q ≡ is_some k || true) [ None ↦ refl | Some x ↦ refl ]
      | false ↦ refl
    ]

same_touched : (b : List Entry) (p q : ℕ) → nat_eq p q ≡ true → touches b p ≡ touches b q
same_touched b p q e = ap (touches b) (eqb-true p q e)

-- at no touch, and at one more: whether its id was touched before decides whether it counts
fresh_end : (b : Bool) (n : ℕ) → cond b n (suc n) ≡ cond (b || false) n (suc n)
fresh_end true n = refl
fresh_end false n = refl

fresh_step : (bf same be later : Bool) (x y a b : ℕ) → (same ≡ true → bf ≡ be)
    → x ≡ cond (be || later) a (suc a) → y ≡ cond (cond same true be || later) b (suc b)
    → cond bf x (suc y) ≡ cond (be || cond same true later) (cond bf a (suc b)) (suc (cond bf a (suc b)))
fresh_step true true true later x y a b s e f = e
fresh_step true true false later x y a b s e f = absurd (let g : true ≡ false = s refl in cc)
fresh_step true false be later x y a b s e f = e
fresh_step false true true later x y a b s e f = absurd (let g : false ≡ true = s refl in cc)
fresh_step false true false later x y a b s e f = ap suc f
fresh_step false false true later x y a b s e f = ap suc f
fresh_step false false false true x y a b s e f = ap suc f
fresh_step false false false false x y a b s e f = ap suc f

-- one touch more at the end counts where its id wasn't touched before it
pub fresh_count-snoc : (before es : List Entry) (e : Entry) → fresh_count before (es ++ e ∷ [])
    ≡ cond (touches before e.id || touches es e.id) (fresh_count before es) (suc (fresh_count before es))
fresh_count-snoc before [] e = fresh_end (touches before e.id) 0
fresh_count-snoc before (f ∷ es) e =
    fresh_step (touches before f.id) (nat_eq f.id e.id) (touches before e.id) (touches es e.id) _ _ _ _
    (λ h. ap (touches before) (eqb-true f.id e.id h)) (fresh_count-snoc before es e) (fresh_count-snoc (f ∷ before) es e)

-- the first touches and the next one
take-next_suc : (rest : List Entry) (taken : ℕ) (e : Entry) → slice_get rest taken ≡ Some e → take (suc taken) rest ≡ take taken rest ++ e ∷ []
take-next_suc [] zero e h = absurd (cc)
take-next_suc [] (suc taken) e h = absurd (cc)
take-next_suc (x ∷ rest) zero e h = cc
take-next_suc (x ∷ rest) (suc taken) e h = ap (λ xs. x ∷ xs) (take-next_suc rest taken e h)

take-next : (rest : List Entry) (taken : ℕ) (e : Entry) → slice_get rest taken ≡ Some e → take (taken + 1) rest ≡ take taken rest ++ e ∷ []
take-next rest taken e h = rw add-one (take-next_suc rest taken e h)

-- the next one is there
below-next : (rest : List Entry) (taken : ℕ) (e : Entry) → slice_get rest taken ≡ Some e → taken + 1 ≤ length rest
below-next [] zero e h = absurd (cc)
below-next [] (suc taken) e h = absurd (cc)
below-next (x ∷ rest) zero e h = omega arith
below-next (x ∷ rest) (suc taken) e h = omega (arith, below-next rest taken e h)

-- what the map knows, the limit, and the count, after one more touch
known_next : (es : List Entry) (e : Entry) (known : Option Seen) (g : Option Seen) (q : ℕ) (b : Bool) → nat_eq e.id q ≡ b → known ≡ seen_after None es e.id
    → g ≡ seen_after None es q
    → cond b (Some (seen_after_one known e)) g ≡ cond b (Some (seen_after_one (seen_after None es q) e)) (seen_after None es q)
known_next es e known g q true same k r = ap (λ o. Some (seen_after_one o e)) (k ∙ ap (seen_after None es) (eqb-true e.id q same))
known_next es e known g q false same k r = r

few_next : (known : Option Seen) (max : Option ℕ) (m n : ℕ) → n ≡ m + cond (is_some known) 0 1 → (known ≡ None → ForSome max (λ most. m < most)) → ForSome max (λ most. m ≤ most)
    → ForSome max (λ most. n ≤ most)
few_next None max m n e room old most is = omega (arith, room refl most is)
few_next (Some x) max m n e room old most is = omega (arith, old most is)

count_next : (known : Option Seen) (a m n : ℕ) → n ≡ m + cond (is_some known) 0 1 → m ≡ a → n ≡ cond (is_some known) a (suc a)
count_next None a m n e f = omega arith
count_next (Some x) a m n e f = omega arith

-- the order finds equal numbers
pub is_eq-nat_cmp : (a b : ℕ) → is_at (nat_cmp a) b ≡ nat_eq a b
is_eq-nat_cmp a b = search rules

-- the walk goes on by one touch
pub so_far_next : (rest : List Entry) (max : Option ℕ) (m n : BTreeMap ℕ Seen) (taken : ℕ) (e : Entry) (known : Option Seen)
    → slice_get rest taken ≡ Some e → known ≡ get nat_cmp m e.id
    → ((q : ℕ) → get nat_cmp n q ≡ cond (is_at (nat_cmp e.id) q) (Some (seen_after_one known e)) (get nat_cmp m q))
    → btree_map_len n ≡ btree_map_len m + cond (is_some known) 0 1
    → (known ≡ None → ForSome max (λ most. btree_map_len m < most))
    → SoFar rest max m taken → SoFar rest max n (taken + 1)
so_far_next rest max m n taken e known here is updates len room old =
    let es = take taken rest in
    let next : take (taken + 1) rest ≡ es ++ e ∷ [] = take-next rest taken e here in
    let was : known ≡ seen_after None es e.id = is ∙ old.known e.id in
    record {
      within = below-next rest taken e here;
      known = λ q. updates q ∙ ap (λ b. cond b (Some (seen_after_one known e)) (get nat_cmp m q)) (is_eq-nat_cmp e.id q)
          ∙ known_next es e known (get nat_cmp m q) q (nat_eq e.id q) refl was (old.known q)
          ∙ sym (ap (λ xs. seen_after None xs q) next ∙ seen_after-snoc None es e q);
      count = count_next known (touched_count es) (btree_map_len m) (btree_map_len n) len old.count
          ∙ ap (λ b. cond b (touched_count es) (suc (touched_count es))) (ap is_some was ∙ is_some-seen_after None es e.id)
          ∙ sym (ap touched_count next ∙ fresh_count-snoc [] es e);
      few = few_next known max (btree_map_len m) (btree_map_len n) len room old.few;
    }

-- the walk stops where one id more would pass the most
pub stopped : (rest : List Entry) (max : Option ℕ) (m : BTreeMap ℕ Seen) (taken : ℕ) (e : Entry) (most : ℕ)
    → slice_get rest taken ≡ Some e → get nat_cmp m e.id ≡ None → max ≡ Some most → most ≤ btree_map_len m
    → SoFar rest max m taken → Gathered rest max m taken
stopped rest max m taken e most here absent is full old =
    let es = take taken rest in
    let fresh : touches es e.id ≡ false = sym (is_some-seen_after None es e.id) ∙ ap is_some (sym (old.known e.id) ∙ absent) in
    let next : touched_count (take (taken + 1) rest) ≡ suc (touched_count es) = ap touched_count (take-next rest taken e here) ∙ fresh_count-snoc [] es e
    ∙ ap (λ b. cond b (touched_count es) (suc (touched_count es))) fresh in
    record {
      within = old.within;
      known = old.known;
      few = λ x e. omega (arith, old.few x e, old.count);
      full = λ below. (most, is, omega (arith, next, old.count));
    }

-- a touch after the first s is one of all
slice_get-drop : (xs : List Entry) (s t : ℕ) → slice_get (drop s xs) t ≡ slice_get xs (s + t)
slice_get-drop xs zero t = rw zero-add refl
slice_get-drop [] (suc s) t = refl
slice_get-drop (x ∷ xs) (suc s) t = slice_get-drop xs s t ∙ (let e : suc s + t ≡ suc (s + t) = omega arith in rw e refl)

-- where the test of the next id failed, there is room for it
pub room_for : (known : Option Seen) (max : Option ℕ) (count : ℕ) (r : Bool) → ((most : ℕ) × (known ≡ None) × (max ≡ Some most) × (most ≤ count) → r ≡ true) → r ≡ false
    → known ≡ None → ForSome max (λ most. count < most)
room_for known max count r f past k most e =
    let never : most ≤ count → ⊥ = λ h. let t : r ≡ true = f (most, k, e, h) in absurd (cc) in
    omega (arith, never)

-- the touch that the walk reads
pub entry_here : (xs : List Entry) (s i t : ℕ) (e : Entry) → i ≡ s + t → Some e ≡ slice_get xs i → slice_get (drop s xs) t ≡ Some e
entry_here xs s i t e is h = slice_get-drop xs s t ∙ ap (slice_get xs) (sym is) ∙ sym h

-- more touches touch no fewer ids
pub fresh_count_up : (before a b : List Entry) → fresh_count before a ≤ fresh_count before (a ++ b)
fresh_count_up before [] b = omega arith
fresh_count_up before (e ∷ a) b = elim (touches before e.id) as
    (λ y. cond y (fresh_count before a) (suc (fresh_count (e ∷ before) a)) ≤ cond y (fresh_count before (a ++ b)) (suc (fresh_count (e ∷ before) (a ++ b)))) [
      | true ↦ fresh_count_up before a b
      | false ↦ omega (arith, fresh_count_up (e ∷ before) a b)
    ]
