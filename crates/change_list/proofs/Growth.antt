-- How a history grows, and that a history and its maps are one.
use Rattle.std.proofs.Common.{◌≡◌, ◌≢◌, ℕ, zero, suc, ◌+◌, ◌<◌, ◌≤◌, List, [], ◌∷◌, ◌++◌, Bool, true, false, cond, nat_eq, nat_lt, take, length, Option, Some, None, refl, sym, ap}
use Rattle.std.proofs.Common.{subst, ◌∙◌, arith, length-append, append_assoc, append-nil}
use Rattle.std.proofs.lemmas.Bool.{eqb-true, eq-eqb, ltb-true, ltb-false}
use Rattle.std.proofs.lemmas.List.{take-append-le, take_all}
use Rattle.std.proofs.Math.Seq.{take-length}
use Rattle.change_list.specs.History.{Touch, IsHistory, DifferAtOne, AreMaps, HasMaps, DifferFrom, map_then, map_at, value_after}
use Rattle.change_list.proofs.HistoryLaws.{value_after-append}

module _ {V : Type 0} where
  -- touches that differ from what was there, and one more
  differ_snoc : (w : ℕ → Option V) (h : List (Touch V)) (t : Touch V) → DifferFrom w h → value_after (w t.id) h t.id ≢ t.value → DifferFrom w (h ++ t ∷ [])
  differ_snoc w [] t d last = (last, tt)
  differ_snoc w (u ∷ h) t d last = (d.0, differ_snoc (map_then w u) h t d.1 last)

  -- maps at places of the old history stay
  pub map_at-early : (h more : List (Touch V)) (k q : ℕ) → k ≤ length h → map_at (h ++ more) k q ≡ map_at h k q
  map_at-early h more k q kn = ap (λ ts. value_after None ts q) (take-append-le k h more kn)

  -- and beyond them the new touch counts
  map_at-late : (h : List (Touch V)) (t : Touch V) (k q : ℕ) → length h < k → map_at (h ++ t ∷ []) k q ≡ cond (nat_eq t.id q) t.value (map_at h (length h) q)
  map_at-late h t k q beyond =
      ap (λ ts. value_after None ts q) (take_all k (h ++ t ∷ []) (omega (arith, length-append h (t ∷ []))))
      ∙ value_after-append None h (t ∷ []) q
      ∙ ap (λ ts. cond (nat_eq t.id q) t.value (value_after None ts q)) (sym (take-length h))

  -- an id that is lost isn't given a value
  no_value : (h : List (Touch V)) (t : Touch V) (i q : ℕ) → (t.value ≢ None → map_at h (length h) t.id ≡ None → (j : ℕ) → map_at h j t.id ≡ None)
      → t.id ≡ q → map_at h i q ≢ None → map_at h (length h) q ≡ None → t.value ≡ None
  no_value h t i q fresh same had last = elim t.value as (λ v. t.value ≡ v → v ≡ None) [
    | None ↦ λ e. refl
    | Some v ↦ λ e. absurd (had (ap (map_at h i) (sym same) ∙ fresh (λ f. let g : Some v ≡ None = sym e ∙ f in cc) (ap (map_at h (length h)) same ∙ last) i))
  ] refl

  -- a history goes on by a touch that gives its id another value, and no value to an id that was lost
  pub history_grows : (h : List (Touch V)) (t : Touch V) → IsHistory h → map_at h (length h) t.id ≢ t.value
      → (t.value ≢ None → map_at h (length h) t.id ≡ None → (i : ℕ) → map_at h i t.id ≡ None) → IsHistory (h ++ t ∷ [])
  history_grows h t is other fresh =
      let n = length h in
      let H = h ++ t ∷ [] in
      let P : List (Touch V) → Type 0 = λ ts. value_after None ts t.id ≢ t.value in
      record {
        differ = differ_snoc (λ _. None) h t is.differ (subst P (take-length h) other);
        lost_for_good = λ i j k q ij jk was gone. elim (nat_lt n k) as (λ b. nat_lt n k ≡ b → map_at H k q ≡ None) [
          | false ↦ λ e.
              let kn : k ≤ n = ltb-false n k e in
              map_at-early h (t ∷ []) k q kn ∙ is.lost_for_good i j k q ij jk (λ f. was (map_at-early h (t ∷ []) i q (omega arith) ∙ f))
              (sym (map_at-early h (t ∷ []) j q (omega arith)) ∙ gone)
          | true ↦ λ e. map_at-late h t k q (ltb-true n k e) ∙ elim (nat_lt n j) as (λ b. nat_lt n j ≡ b → cond (nat_eq t.id q) t.value (map_at h n q) ≡ None) [
            | true ↦ λ f. sym (map_at-late h t j q (ltb-true n j f)) ∙ gone
            | false ↦ λ f.
                let jn : j ≤ n = ltb-false n j f in
                let had : map_at h i q ≢ None = λ g. was (map_at-early h (t ∷ []) i q (omega arith) ∙ g) in
                let last : map_at h n q ≡ None = is.lost_for_good i j n q ij jn had (sym (map_at-early h (t ∷ []) j q jn) ∙ gone) in
                elim (nat_eq t.id q) as (λ b. nat_eq t.id q ≡ b → cond b t.value (map_at h n q) ≡ None) [
                  | true ↦ λ same. no_value h t i q fresh (eqb-true t.id q same) had last
                  | false ↦ λ g. last
                ] refl
          ] refl
        ] refl;
      }

  -- where the touches differ from w, the maps before and after one differ at its id alone
  neighbours_differ : (w : ℕ → Option V) (h : List (Touch V)) (i : ℕ) → DifferFrom w h → i < length h
      → DifferAtOne (λ q. value_after (w q) (take i h) q) (λ q. value_after (w q) (take (suc i) h) q)
  neighbours_differ w [] i d inside = absurd (omega arith)
  neighbours_differ w (t ∷ h) zero d inside = record {
    id = t.id;
    differ = λ e. d.0 (e ∙ ap (λ b. cond b t.value (w t.id)) (eq-eqb t.id t.id refl));
    others = λ q other. elim (nat_eq t.id q) as (λ b. nat_eq t.id q ≡ b → w q ≡ cond b t.value (w q)) [
      | true ↦ λ same. absurd (other (sym (eqb-true t.id q same)))
      | false ↦ λ e. refl
    ] refl;
  }
  neighbours_differ w (t ∷ h) (suc i) d inside = neighbours_differ (map_then w t) h i d.1 (omega arith)

  -- a history's maps
  pub history_has_maps : (h : List (Touch V)) → IsHistory h → AreMaps (map_at h) (length h)
  history_has_maps h is = record {
    first_empty = λ q. refl;
    neighbours = λ i inside.
        let P : ℕ → Type 0 = λ n. DifferAtOne (map_at h i) (map_at h n) in
        let one : suc i ≡ i + 1 = omega arith in
        subst P one (neighbours_differ (λ _. None) h i is.differ inside);
    lost_for_good = λ i j k q ij jk kn was gone. is.lost_for_good i j k q ij jk was gone;
  }

  -- the last map stays beyond the last place
  map_at-beyond : (h : List (Touch V)) (k q : ℕ) → length h ≤ k → map_at h k q ≡ map_at h (length h) q
  map_at-beyond h k q beyond = ap (λ ts. value_after None ts q) (take_all k h beyond ∙ sym (take-length h))

  -- one map more
  one_more : (M : ℕ → ℕ → Option V) (n : ℕ) (h : List (Touch V)) → AreMaps M (suc n) → HasMaps h M n → (g : List (Touch V)) × HasMaps g M (suc n)
  one_more M n h are has =
      let P : ℕ → Type 0 = λ k. DifferAtOne (M n) (M k) in
      let one : n + 1 ≡ suc n = omega arith in
      let d = subst P one (are.neighbours n (omega arith)) in
      let t : Touch V = record { id = d.id; value = M (suc n) d.id; counts_only = false } in
      let last : (q : ℕ) → map_at h (length h) q ≡ M n q = λ q. ap (λ k. map_at h k q) has.places ∙ has.maps n q (omega arith) in
      let never : M (suc n) d.id ≢ None → map_at h (length h) d.id ≡ None → (i : ℕ) → map_at h i d.id ≡ None =
      λ now before i. elim (nat_lt n i) as (λ b. nat_lt n i ≡ b → map_at h i d.id ≡ None) [
        | true ↦ λ e. map_at-beyond h i d.id (omega (arith, ltb-true n i e, has.places)) ∙ before
        | false ↦ λ e.
            let below : i ≤ n = ltb-false n i e in
            let at_i : map_at h i d.id ≡ M i d.id = has.maps i d.id below in
            at_i ∙ (elim (M i d.id) as (λ o. M i d.id ≡ o → o ≡ None) [
              | None ↦ λ f. refl
              | Some v ↦ λ f. absurd (now (are.lost_for_good i n (suc n) d.id below (omega arith) (omega arith) (λ g. let c : Some v ≡ None = sym f ∙ g in cc)
                  (sym (last d.id) ∙ before)))
            ] refl)
      ] refl in (
        h ++ t ∷ [],
        record {
          history = history_grows h t has.history (λ e. d.differ (sym (last d.id) ∙ e)) never;
          places = omega (arith, length-append h (t ∷ []), has.places);
          maps = λ i q within. elim (nat_lt n i) as (λ b. nat_lt n i ≡ b → map_at (h ++ t ∷ []) i q ≡ M i q) [
            | false ↦ λ e. map_at-early h (t ∷ []) i q (omega (arith, ltb-false n i e, has.places)) ∙ has.maps i q (ltb-false n i e)
            | true ↦ λ e.
                let is : suc n ≡ i = omega (arith, ltb-true n i e) in
                map_at-late h t i q (omega (arith, ltb-true n i e, has.places))
                ∙ (elim (nat_eq d.id q) as (λ b. nat_eq d.id q ≡ b → cond b (M (suc n) d.id) (map_at h (length h) q) ≡ M (suc n) q) [
                  | true ↦ λ same. ap (M (suc n)) (eqb-true d.id q same)
                  | false ↦ λ other. last q ∙ d.others q (λ f. let g : true ≡ false = sym (eq-eqb d.id q (sym f)) ∙ other in cc)
                ] refl)
                ∙ ap (λ k. M k q) is
          ] refl;
        },
      )

  -- the maps without the last one
  fewer : (M : ℕ → ℕ → Option V) (n : ℕ) → AreMaps M (suc n) → AreMaps M n
  fewer M n are = record {
    first_empty = are.first_empty;
    neighbours = λ i inside. are.neighbours i (omega arith);
    lost_for_good = λ i j k q ij jk kn was gone. are.lost_for_good i j k q ij jk (omega arith) was gone;
  }

  -- and the history of maps
  pub maps_have_history : (M : ℕ → ℕ → Option V) (n : ℕ) → AreMaps M n → (h : List (Touch V)) × HasMaps h M n
  maps_have_history M zero are = (
    [],
    record {
      history = record { differ = tt; lost_for_good = λ i j k q ij jk was gone. map_at-beyond [] k q (omega arith) };
      places = refl;
      maps = λ i q within. map_at-beyond [] i q (omega arith) ∙ sym (are.first_empty q) ∙ ap (λ k. M k q) (omega arith);
    },
  )
  maps_have_history M (suc n) are = let before = maps_have_history M n (fewer M n are) in one_more M n before.0 are before.1

  -- ---- touches of which no two are of one id

  -- whether an id is touched; each at most once
  abbrev pub is_touched : List (Touch V) → ℕ → Bool
  is_touched [] q = false
  is_touched (t ∷ ts) q = cond (nat_eq t.id q) true (is_touched ts q)

  abbrev pub AreOnce : List (Touch V) → Type 0
  AreOnce [] = Unit {0}
  AreOnce (t ∷ ts) = (is_touched ts t.id ≡ false) × AreOnce ts

  -- an untouched id keeps its value
  untouched_value : (was : Option V) (ts : List (Touch V)) (q : ℕ) → is_touched ts q ≡ false → value_after was ts q ≡ was
  untouched_value was [] q e = refl
  untouched_value was (t ∷ ts) q e = elim (nat_eq t.id q) as (λ b. cond b true (is_touched ts q) ≡ false → value_after (cond b t.value was) ts q ≡ was) [
    | true ↦ λ f. absurd (let g : true ≡ false = f in cc)
    | false ↦ λ f. untouched_value was ts q f
  ] e

  -- only what was there counts, however it is written
  differ_same : (was then : ℕ → Option V) (ts : List (Touch V)) → ((q : ℕ) → was q ≡ then q) → DifferFrom was ts → DifferFrom then ts
  differ_same was then [] same d = tt
  differ_same was then (t ∷ ts) same d = (
    (λ e. d.0 (same t.id ∙ e)),
    differ_same (map_then was t) (map_then then t) ts (λ q. ap (λ o. cond (nat_eq t.id q) t.value o) (same q)) d.1,
  )

  -- a history goes on by such touches, where none gives a value to an id that was lost
  pub grows_by : (h more : List (Touch V)) → IsHistory h → DifferFrom (map_at h (length h)) more → AreOnce more
      → ((q : ℕ) → map_at h (length h) q ≡ None → value_after None more q ≢ None → (i : ℕ) → map_at h i q ≡ None) → IsHistory (h ++ more)
  grows_by h [] is d once fresh = let P : List (Touch V) → Type 0 = λ ts. IsHistory ts in subst P (sym (append-nil h)) is
  grows_by h (t ∷ more) is d once fresh =
      let n = length h in
      let g = h ++ t ∷ [] in
      let head : value_after None (t ∷ more) t.id ≡ t.value = ap (λ b. value_after (cond b t.value None) more t.id) (eq-eqb t.id t.id refl)
      ∙ untouched_value t.value more t.id once.0 in
      let first : IsHistory g = history_grows h t is d.0 (λ now before. fresh t.id before (λ e. now (sym head ∙ e))) in
      let late : (k q : ℕ) → n < k → map_at g k q ≡ cond (nat_eq t.id q) t.value (map_at h n q) = λ k q. map_at-late h t k q in
      let long : n < length g = omega (arith, length-append h (t ∷ [])) in
      let rest : DifferFrom (map_at g (length g)) more = differ_same (map_then (map_at h n) t) (map_at g (length g)) more (λ q. sym (late (length g) q long)) d.1 in
      let fresh_rest : (q : ℕ) → map_at g (length g) q ≡ None → value_after None more q ≢ None → (i : ℕ) → map_at g i q ≡ None =
      λ q gone now i. elim (nat_eq t.id q) as (λ b. nat_eq t.id q ≡ b → map_at g i q ≡ None) [
        | true ↦ λ same. absurd (now (untouched_value None more q (ap (is_touched more) (sym (eqb-true t.id q same)) ∙ once.0)))
        | false ↦ λ other.
            let keeps : (k : ℕ) → n < k → map_at g k q ≡ map_at h n q = λ k beyond. late k q beyond ∙ ap (λ b. cond b t.value (map_at h n q)) other in
            let base : map_at h n q ≡ None = sym (keeps (length g) long) ∙ gone in
            let step : value_after None (t ∷ more) q ≡ value_after None more q = ap (λ b. value_after (cond b t.value None) more q) other in
            elim (nat_lt n i) as (λ b. nat_lt n i ≡ b → map_at g i q ≡ None) [
              | true ↦ λ e. keeps i (ltb-true n i e) ∙ base
              | false ↦ λ e. map_at-early h (t ∷ []) i q (ltb-false n i e) ∙ fresh q base (λ f. now (sym step ∙ f)) i
            ] refl
      ] refl in
      let P : List (Touch V) → Type 0 = λ ts. IsHistory ts in
      subst P (append_assoc h (t ∷ []) more) (grows_by g more first rest once.1 fresh_rest)
