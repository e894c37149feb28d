-- Which ids are there, by touches with kinds and by maps, and copies of a history.
use Rattle.std.proofs.Common.{◌≡◌, ◌≢◌, ℕ, zero, suc, ◌+◌, ◌≤◌, List, [], ◌∷◌, ◌++◌, Bool, true, false, cond, nat_eq, nat_lt, subst, take, drop, length, Option, Some, None, refl}
use Rattle.std.proofs.Common.{sym, ap, ◌∙◌, arith, ◌||◌, is_some}
use Rattle.std.proofs.lemmas.List.{take-append-drop, take-take}
use Rattle.std.proofs.lemmas.Bool.{eqb-true, ltb-true, ltb-false}
use Rattle.std.proofs.Math.Bool.{or-true}
use Rattle.change_list.specs.Touches.{there_after, there_at, between, touches, leaves, finds, FitsFrom, AreTouches}
use Rattle.change_list.specs.History.{Touch, IsHistory, IsTouched, DifferFrom, map_then, map_at, value_after, entries_of, entries_from, entry_of, kind_of}
use Rattle.change_list.specs.declared.entries.Entry.{Entry}

-- ---- touches of appended lists

-- an id is touched in two lists in turn where it is in one of them
pub touches-append : (a b : List Entry) (q : ℕ) → touches (a ++ b) q ≡ touches a q || touches b q
touches-append [] b q = refl
touches-append (e ∷ a) b q =
    elim (nat_eq e.id q) as (λ x. cond x true (touches (a ++ b) q) ≡ cond x true (touches a q) || touches b q) [
      | true ↦ refl
      | false ↦ touches-append a b q
    ]

-- the touches of s + 1 to n are those up to k and those after it
pub take-parts : {X : Type 0} (h : List X) (k n : ℕ) → k ≤ n → take n h ≡ take k h ++ drop k (take n h)
take-parts h k n kn = sym (take-append-drop k (take n h)) ∙ ap (λ x. x ++ drop k (take n h)) (take-take k n h kn)

-- the touches of the places s + 1 to n are those of s + 1 to k and then those of k + 1 to n
pub between-append : (h : List Entry) (s k n : ℕ) → s ≤ k → k ≤ n → between h s n ≡ between h s k ++ between h k n
between-append h zero k n sk kn = take-parts h k n kn
between-append h (suc s) zero n sk kn = absurd (omega arith)
between-append h (suc s) (suc k) zero sk kn = absurd (omega arith)
between-append [] (suc s) (suc k) (suc n) sk kn = refl
between-append (e ∷ h) (suc s) (suc k) (suc n) sk kn = between-append h s k n (omega arith) (omega arith)

-- nothing is touched between a place and an earlier one
pub between_none : (h : List Entry) (s k : ℕ) → k ≤ s → between h s k ≡ []
between_none h zero zero ks = refl
between_none h (suc s) zero ks = refl
between_none h zero (suc k) ks = absurd (omega arith)
between_none [] (suc s) (suc k) ks = refl
between_none (e ∷ h) (suc s) (suc k) ks = between_none h s k (omega arith)

module _ {V : Type 0} where
  -- a touch leaves its id exactly where it gives a value
  leaves-kind_of : (was v : Option V) → leaves (kind_of was v) ≡ is_some v
  leaves-kind_of None None = refl
  leaves-kind_of (Some u) None = refl
  leaves-kind_of None (Some v) = refl
  leaves-kind_of (Some u) (Some v) = refl

  there_after-entries_from : (was : ℕ → Option V) (ts : List (Touch V)) (q : ℕ) (b : Bool) → b ≡ is_some (was q)
      → there_after b (entries_from was ts) q ≡ is_some (value_after (was q) ts q)
  there_after-entries_from was [] q b e = e
  there_after-entries_from was (t ∷ ts) q b e =
      there_after-entries_from (λ p. cond (nat_eq t.id p) t.value (was p)) ts q _ (
      elim (nat_eq t.id q) as (λ x. cond x (leaves (kind_of (was t.id) t.value)) b ≡ is_some (cond x t.value (was q))) [
        | true ↦ leaves-kind_of (was t.id) t.value
        | false ↦ e
      ])

  pub value_after-append : (was : Option V) (a b : List (Touch V)) (q : ℕ) → value_after was (a ++ b) q ≡ value_after (value_after was a q) b q
  value_after-append was [] b q = refl
  value_after-append was (t ∷ a) b q = value_after-append (cond (nat_eq t.id q) t.value was) a b q

  -- an untouched id keeps its value
  value_after_untouched : (w : ℕ → Option V) (was : Option V) (ts : List (Touch V)) (q : ℕ) → touches (entries_from w ts) q ≡ false → value_after was ts q ≡ was
  value_after_untouched w was [] q = λ e. refl
  value_after_untouched w was (t ∷ ts) q =
      elim (nat_eq t.id q) as (λ x. cond x true (touches (entries_from (λ p. cond (nat_eq t.id p) t.value (w p)) ts) q) ≡ false → value_after (cond x t.value was) ts q ≡ was) [
        | true ↦ λ e. cc
        | false ↦ λ e. value_after_untouched (λ p. cond (nat_eq t.id p) t.value (w p)) was ts q e
      ]

  -- the first touches, and those after them, as entries
  take-entries_from : (w : ℕ → Option V) (k : ℕ) (ts : List (Touch V)) → take k (entries_from w ts) ≡ entries_from w (take k ts)
  take-entries_from w zero ts = refl
  take-entries_from w (suc k) [] = refl
  take-entries_from w (suc k) (t ∷ ts) = ap (λ es. entry_of (w t.id) t ∷ es) (take-entries_from (λ p. cond (nat_eq t.id p) t.value (w p)) k ts)

  drop-entries_from : (w : ℕ → Option V) (s : ℕ) (ts : List (Touch V)) → drop s (entries_from w ts) ≡ entries_from (λ q. value_after (w q) (take s ts) q) (drop s ts)
  drop-entries_from w zero ts = refl
  drop-entries_from w (suc s) [] = refl
  drop-entries_from w (suc s) (t ∷ ts) = drop-entries_from (λ p. cond (nat_eq t.id p) t.value (w p)) s ts

  pub length-entries_from : (w : ℕ → Option V) (ts : List (Touch V)) → length (entries_from w ts) ≡ length ts
  length-entries_from w [] = refl
  length-entries_from w (t ∷ ts) = ap suc (length-entries_from (λ p. cond (nat_eq t.id p) t.value (w p)) ts)

  -- presence by kinds is presence in the maps
  pub there_at-entries_of : (h : List (Touch V)) (k q : ℕ) → there_at (entries_of h) k q ≡ is_some (map_at h k q)
  there_at-entries_of h k q = ap (λ es. there_after false es q) (take-entries_from (λ _. None) k h) ∙ there_after-entries_from (λ _. None) (take k h) q false refl

  -- an untouched id keeps its value
  pub map_at_untouched : (h : List (Touch V)) (k n q : ℕ) → k ≤ n → touches (between (entries_of h) k n) q ≡ false → map_at h k q ≡ map_at h n q
  map_at_untouched h k n q kn e =
      let w : ℕ → Option V = λ p. value_after None (take k (take n h)) p in
      let same : between (entries_of h) k n ≡ entries_from w (drop k (take n h)) = ap (drop k) (take-entries_from (λ _. None) n h) ∙ drop-entries_from (λ _. None) k (take n h) in
      let untouched : touches (entries_from w (drop k (take n h))) q ≡ false = sym (ap (λ es. touches es q) same) ∙ e in
      sym (ap (λ ts. value_after None ts q) (take-parts h k n kn) ∙ value_after-append None (take k h) (drop k (take n h)) q
      ∙ value_after_untouched w (value_after None (take k h) q) (drop k (take n h)) q untouched)

  -- an earlier history agrees with the whole one up to its last place
  pub there_at-take : (h : List (Touch V)) (m k q : ℕ) → k ≤ m → there_at (entries_of (take m h)) k q ≡ is_some (map_at h k q)
  there_at-take h m k q km = there_at-entries_of (take m h) k q ∙ ap (λ ts. is_some (value_after None ts q)) (take-take k m h km)

  pub between-take : (h : List (Touch V)) (m s k : ℕ) → k ≤ m → between (entries_of (take m h)) s k ≡ between (entries_of h) s k
  between-take h m s k km =
      ap (drop s) (take-entries_from (λ _. None) k (take m h) ∙ ap (entries_from (λ _. None)) (take-take k m h km) ∙ sym (take-entries_from (λ _. None) k h))

module _ {V : Type 0} where
  -- a touch that changes something finds what was there
  finds-kind_of : (was v : Option V) → was ≢ v → is_some was ≡ finds (kind_of was v)
  finds-kind_of None None d = absurd (d refl)
  finds-kind_of (Some u) None d = refl
  finds-kind_of None (Some v) d = refl
  finds-kind_of (Some u) (Some v) d = refl

  -- so touches that differ from what was there fit it
  fits_from : (was : ℕ → Option V) (there : ℕ → Bool) (ts : List (Touch V)) → ((q : ℕ) → there q ≡ is_some (was q)) → DifferFrom was ts → FitsFrom there (entries_from was ts)
  fits_from was there [] same d = tt
  fits_from was there (t ∷ ts) same d = (
    same t.id ∙ finds-kind_of (was t.id) t.value d.0,
    fits_from (λ p. cond (nat_eq t.id p) t.value (was p)) (λ p. cond (nat_eq t.id p) (leaves (kind_of (was t.id) t.value)) (there p)) ts
        (λ q. elim (nat_eq t.id q) as (λ x. cond x (leaves (kind_of (was t.id) t.value)) (there q) ≡ is_some (cond x t.value (was q))) [
          | true ↦ leaves-kind_of (was t.id) t.value
          | false ↦ same q
        ]) d.1,
  )

  -- there is a value exactly where it is not none
  pub some_is_not_none : (o : Option V) → is_some o ≡ true → o ≢ None
  some_is_not_none o h e = let f : true ≡ false = sym h ∙ ap is_some e in cc

  pub not_none_is_some : (o : Option V) → o ≢ None → is_some o ≡ true
  not_none_is_some None h = absurd (h refl)
  not_none_is_some (Some v) h = refl

  pub none_from : (o : Option V) → is_some o ≡ false → o ≡ None
  none_from None h = refl
  none_from (Some v) h = absurd (let f : true ≡ false = h in cc)

  -- the entries of a history are touches
  pub history_fits : (h : List (Touch V)) → IsHistory h → AreTouches (entries_of h)
  history_fits h d = record {
    fit = fits_from (λ _. None) (λ _. false) h (λ q. refl) d.differ;
    lost_for_good = λ i j k q ij jk was gone. there_at-entries_of h k q ∙ ap is_some (d.lost_for_good i j k q ij jk
        (some_is_not_none _ (sym (there_at-entries_of h i q) ∙ was)) (none_from _ (sym (there_at-entries_of h j q) ∙ gone)));
  }

  -- where the touch of a place is of q, the maps before and after it differ at q
  step_differs : (w : ℕ → Option V) (h : List (Touch V)) (k q : ℕ) → DifferFrom w h → touches (between (entries_from w h) k (suc k)) q ≡ true
      → value_after (w q) (take k h) q ≢ value_after (w q) (take (suc k) h) q
  step_differs w [] zero q d here = absurd (let f : false ≡ true = here in cc)
  step_differs w [] (suc k) q d here = absurd (let f : false ≡ true = here in cc)
  step_differs w (t ∷ h) zero q d here = elim (nat_eq t.id q) as (λ b. nat_eq t.id q ≡ b → cond b true false ≡ true → w q ≢ cond b t.value (w q)) [
    | true ↦ λ same touched e. d.0 (ap w (eqb-true t.id q same) ∙ e)
    | false ↦ λ other touched. absurd (let f : false ≡ true = touched in cc)
  ] refl here
  step_differs w (t ∷ h) (suc k) q d here = step_differs (map_then w t) h k q d.1 here

  -- a touched id has another value at one of the places than at the one before
  pub touched_differs : (h : List (Touch V)) → IsHistory h → (s k q : ℕ) → touches (between (entries_of h) s k) q ≡ true → IsTouched h s k q
  touched_differs h is s zero q here = absurd (let f : false ≡ true = sym (ap (λ es. touches es q) (between_none (entries_of h) s zero (omega arith))) ∙ here in cc)
  touched_differs h is s (suc k) q here =
      let es = entries_of h in
      elim (nat_lt k s) as (λ b. nat_lt k s ≡ b → IsTouched h s (suc k) q) [
        | true ↦ λ below. absurd (let f : false ≡ true = sym (ap (λ xs. touches xs q) (between_none es s (suc k) (omega (arith, ltb-true k s below)))) ∙ here in cc)
        | false ↦ λ reached.
            let sk : s ≤ k = ltb-false k s reached in
            let parts : touches (between es s k) q || touches (between es k (suc k)) q ≡ true =
            sym (touches-append (between es s k) (between es k (suc k)) q) ∙ sym (ap (λ xs. touches xs q) (between-append es s k (suc k) sk (omega arith))) ∙ here in
            elim (touches (between es s k) q) as (λ b. touches (between es s k) q ≡ b → b || touches (between es k (suc k)) q ≡ true → IsTouched h s (suc k) q) [
              | true ↦ λ before all. let found = touched_differs h is s k q before in (found.0, found.1, omega (arith, found.2), found.3)
              | false ↦ λ before last.
                  let d : map_at h k q ≢ map_at h (suc k) q = step_differs (λ _. None) h k q is.differ last in
                  let P : ℕ → Type 0 = λ n. map_at h k q ≢ map_at h n q in
                  let one : suc k ≡ k + 1 = omega arith in
                  (k, sk, omega arith, subst P one d)
            ] refl parts
      ] refl

  -- where neighbours differ at an id, it is touched
  pub differs_touched : (h : List (Touch V)) (s k q : ℕ) → IsTouched h s k q → touches (between (entries_of h) s k) q ≡ true
  differs_touched h s k q d =
      let es = entries_of h in
      let i = d.0 in
      let here : touches (between es i (i + 1)) q ≡ true = elim (touches (between es i (i + 1)) q) as (λ b. touches (between es i (i + 1)) q ≡ b → b ≡ true) [
        | true ↦ λ e. refl
        | false ↦ λ e. absurd (d.3 (map_at_untouched h i (i + 1) q (omega arith) e))
      ] refl in
      let upto : touches (between es s (i + 1)) q ≡ true =
      ap (λ xs. touches xs q) (between-append es s i (i + 1) d.1 (omega arith)) ∙ touches-append (between es s i) (between es i (i + 1)) q
      ∙ ap (λ b. touches (between es s i) q || b) here ∙ or-true (touches (between es s i) q) in
      ap (λ xs. touches xs q) (between-append es s (i + 1) k (omega (arith, d.1)) (omega (arith, d.2))) ∙ touches-append (between es s (i + 1)) (between es (i + 1) k) q
      ∙ ap (λ b. b || touches (between es (i + 1) k) q) upto
