-- Rows and a list that stand for a past stand for what it becomes, once the steps are noted.
use Rattle.std.proofs.Common.{◌≡◌, ◌+◌, ◌≤◌, ℕ, List, [], ◌∷◌, ◌++◌, Bool, true, false, not, cond, map, filter, Option, Some, None, refl, sym, ap, ◌∙◌, is_some, subst, length}
use Rattle.std.proofs.Common.{length-append}
use Rattle.std.specs.Option.{option_map}
use Rattle.std.specs.BTreeMap.{is_at}
use Rattle.std.specs.Ordering.{nat_cmp}
use Rattle.std.proofs.lemmas.List.{length-map, take-append-le}
use Rattle.change_list.specs.History.{entries_of, value_after}
use Rattle.change_list.specs.Advance.{Tests, IsExact, row_at, AreRows, differs, counts_if, is_gone, is_changed, removal, addition, change, advance, advance_entries, GoesOn}
use Rattle.change_list.specs.Kept.{Kept, IsOf}
use Rattle.change_list.specs.declared.entries.Entry.{Entry}
use Rattle.change_list.proofs.AdvanceLaws.{advance_goes_on}
use Rattle.served_maps.specs.reading.Steps.{removed, changed, added}
use Rattle.served_maps.specs.Past.{Past, IsPast, AreFresh, gone_on, place_now, had_at, served, tests_of, StandsFor}

-- a filter and a map of mapped items
mapped : {X Y Z : Type 0} (f : X → Y) (p : Y → Bool) (r : X → Bool) (g : Y → Z) (h : X → Z) → ((x : X) → p (f x) ≡ r x) → ((x : X) → g (f x) ≡ h x)
    → (xs : List X) → map g (filter p (map f xs)) ≡ map h (filter r xs)
mapped f p r g h pr gh [] = refl
mapped {X} {Y} {Z} f p r g h pr gh (x ∷ xs) =
    ap (λ (b : Bool). map g (cond b (f x ∷ filter p (map f xs)) (filter p (map f xs)))) (pr x)
    ∙ elim (r x) as (λ b. map g (cond b (f x ∷ filter p (map f xs)) (filter p (map f xs))) ≡ map h (cond b (x ∷ filter r xs) (filter r xs))) [
      | true ↦ ap (λ (z : Z). z ∷ map g (filter p (map f xs))) (gh x) ∙ ap (λ (zs : List Z). h x ∷ zs) (mapped f p r g h pr gh xs)
      | false ↦ mapped f p r g h pr gh xs
    ]

module _ {R V : Type 0} (serve : R → V) where
  -- what a served map has is what is served of the row
  pub row_at-served : (rows : List (ℕ × R)) (q : ℕ) → row_at (served serve rows) q ≡ option_map serve (row_at rows q)
  row_at-served [] q = refl
  row_at-served (e ∷ es) q =
      ap (cond (is_at (nat_cmp q) e.0) (Some (serve e.1))) (row_at-served es q)
      ∙ elim (is_at (nat_cmp q) e.0) as (λ b. cond b (Some (serve e.1)) (option_map serve (row_at es q)) ≡ option_map serve (cond b (Some e.1) (row_at es q)))
      [ true ↦ refl | false ↦ refl ]

  some_served : (o : Option R) → is_some (option_map serve o) ≡ is_some o
  some_served None = refl
  some_served (Some u) = refl

  differs_served : (same : V → V → Bool) (o : Option R) (v : R) → differs same (option_map serve o) (serve v) ≡ differs (λ x y. same (serve x) (serve y)) o v
  differs_served same None v = refl
  differs_served same (Some u) v = refl

  counts_served : (test : V → V → Bool) (o : Option R) (v : R) → counts_if test (option_map serve o) (serve v) ≡ counts_if (λ x y. test (serve x) (serve y)) o v
  counts_served test None v = refl
  counts_served test (Some u) v = refl

  gone_served : (new : List (ℕ × R)) (e : ℕ × R) → is_gone (served serve new) (e.0, serve e.1) ≡ is_gone new e
  gone_served new e = ap (λ o. not (is_some o)) (row_at-served new e.0) ∙ ap not (some_served (row_at new e.0))

  -- the steps between rows are those between what is served
  pub entries_served : (tests : Tests V) (old new : List (ℕ × R))
      → advance_entries tests (served serve old) (served serve new) ≡ advance_entries (tests_of serve tests) old new
  entries_served tests old new =
      let S : ℕ × R → ℕ × V = λ e. (e.0, serve e.1) in
      let one = mapped S (is_gone (served serve new)) (is_gone new) removed removed (gone_served new) (λ e. refl) old in
      let two = mapped S (is_changed tests.same (served serve old)) (is_changed (tests_of serve tests).same old)
      (changed tests.counts (served serve old)) (changed (tests_of serve tests).counts old)
      (λ e. ap (λ o. differs tests.same o (serve e.1)) (row_at-served old e.0) ∙ differs_served tests.same (row_at old e.0) e.1)
      (λ e. ap (λ (b : Bool). record (changed tests.counts (served serve old) (S e)) { counts_only = b })
      (ap (λ o. counts_if tests.counts o (serve e.1)) (row_at-served old e.0) ∙ counts_served tests.counts (row_at old e.0) e.1)) new in
      let three = mapped S (is_gone (served serve old)) (is_gone old) added added (gone_served old) (λ e. refl) new in
      let joined : (a a' b b' d d' : List Entry) → a ≡ a' → b ≡ b' → d ≡ d' → a ++ (b ++ d) ≡ a' ++ (b' ++ d') =
      λ a a' b b' d d' p q r. ap (λ xs. xs ++ (b ++ d)) p ∙ ap (λ xs. a' ++ (xs ++ d)) q ∙ ap (λ xs. a' ++ (b' ++ xs)) r in
      joined _ _ _ _ _ _ one two three

  pub stands_on : (tests : Tests V) (rows new : List (ℕ × R)) (before now : Kept) (p : Past V)
      → IsExact tests → AreRows (served serve new) → AreFresh p (served serve new) → StandsFor serve rows before p
      → ((h : List Entry) → IsOf before h → IsOf now (h ++ advance_entries (tests_of serve tests) rows new))
      → StandsFor serve new now (gone_on tests p (served serve new))
  stands_on tests rows new before now p exact news fresh stands noted =
      let to = served serve new in
      let on : GoesOn p.touches tests p.now to = advance_goes_on p.touches tests p.now to stands.past.history stands.past.rows news exact stands.past.last fresh in
      let steps_are : advance_entries tests p.now to ≡ advance_entries (tests_of serve tests) rows new =
      ap (λ old. advance_entries tests old to) (sym stands.now) ∙ entries_served tests rows new in
      let P : List Entry → Type 0 = λ h. IsOf now h in
      record {
        now = refl;
        kept = subst P (sym (on.entries ∙ ap (λ es. entries_of p.touches ++ es) steps_are)) (noted (entries_of p.touches) stands.kept);
        past = record { rows = news; last = λ q. sym (on.last q); history = on.history };
      }

module _ {V : Type 0} where
  -- a past goes on
  pub past_on : (tests : Tests V) (p : Past V) (new : List (ℕ × V)) → IsExact tests → IsPast p → AreRows new → AreFresh p new → IsPast (gone_on tests p new)
  past_on tests p new exact past news fresh =
      let on : GoesOn p.touches tests p.now new = advance_goes_on p.touches tests p.now new past.history past.rows news exact past.last fresh in
      record { rows = news; last = λ q. sym (on.last q); history = on.history }

  length_advance : (tests : Tests V) (old new : List (ℕ × V)) → length (advance tests old new) ≡ length (advance_entries tests old new)
  length_advance tests old new =
      let gone = filter (is_gone new) old in
      let differ = filter (is_changed tests.same old) new in
      let news = filter (is_gone old) new in
      length-append (map removal gone) (map (change tests.counts old) differ ++ map addition news)
      ∙ (let e = length-map gone removal in let f = length-map gone removed in
      let g = length-append (map (change tests.counts old) differ) (map addition news) in let h = length-append (map (changed tests.counts old) differ) (map added news) in
      let i = length-map differ (change tests.counts old) in let j = length-map differ (changed tests.counts old) in
      let k = length-map news addition in let l = length-map news added in cc)
      ∙ sym (length-append (map removed gone) (map (changed tests.counts old) differ ++ map added news))

  -- the place rises by the number of touches
  pub rises : (tests : Tests V) (p : Past V) (new : List (ℕ × V)) → place_now (gone_on tests p new) ≡ place_now p + length (advance_entries tests p.now new)
  rises tests p new = length-append p.touches (advance tests p.now new) ∙ ap (λ n. length p.touches + n) (length_advance tests p.now new)

  -- earlier places stay
  pub stays : (tests : Tests V) (p : Past V) (new : List (ℕ × V)) (place q : ℕ) → place ≤ place_now p → had_at (gone_on tests p new) place q ≡ had_at p place q
  stays tests p new place q within = ap (λ ts. value_after None ts q) (take-append-le place p.touches (advance tests p.now new) within)
