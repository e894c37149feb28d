-- What the walk has seen says what changed.
use Rattle.std.proofs.Common.{◌≡◌, ◌≢◌, ℕ, ◌+◌, ◌-◌, ◌<◌, ◌≤◌, List, [], ◌∷◌, ◌++◌, Bool, true, false, not, ◌&&◌, cond, nat_eq, take, drop, length, Option, Some, None, refl, sym}
use Rattle.std.proofs.Common.{ap, subst, ◌∙◌, arith, is_some, BTreeMap, nat_cmp, Contains, ◌↔◌, IsTrue}
use Rattle.std.proofs.lemmas.Bool.{eqb-true}
use Rattle.std.proofs.Math.Bool.{and-true}
use Rattle.std.proofs.lemmas.List.{drop-take, drop-drop, take-append-drop, length-drop}
use Rattle.std.specs.Option.{ForSome}
use Rattle.std.specs.BTreeMap.{get}
use Rattle.change_list.specs.Touches.{there_after, there_at, between, touches, leaves, FitsFrom, AreTouches, counts_alone}
use Rattle.change_list.specs.Changes.{IsChanges, Lists, IsWithin, Reaches, IsCreated, IsUpdated, IsDestroyed}
use Rattle.change_list.specs.reading.Seen.{seen_after, seen_after_one, touched_count, Gathered}
use Rattle.change_list.specs.reading.Parts.{has_of, IsIn}
use Rattle.change_list.specs.Kept.{Kept, IsOf, front_of}
use Rattle.change_list.specs.reading.Answer.{Answers}
use Rattle.change_list.specs.declared.entries.Entry.{Entry}
use Rattle.change_list.specs.declared.answer.Changes.{Changes}
use Rattle.change_list.specs.declared.walk.Seen.{Seen}
use Rattle.change_list.specs.declared.parts.Part.{Part}
use Rattle.change_list.specs.declared.parts.Part.TheVariants.{Created, Updated, Destroyed, Mixed}
use Rattle.change_list.proofs.HistoryLaws.{take-parts}
use Rattle.change_list.proofs.Gathering.{is_some-seen_after, fresh_count_up}
use Rattle.change_list.proofs.Counting.{ids_listed, count_listed}

-- whether an id is there, was there, and changed counts alone, by what was seen of it, or else as said
abbrev is_after : Option Seen → Bool → Bool
is_after None b = b
is_after (Some x) b = x.is_there

abbrev pub was_before : Option Seen → Bool → Bool
was_before None b = b
was_before (Some x) b = x.was_there

abbrev alone_so_far : Option Seen → Bool
alone_so_far None = true
alone_so_far (Some x) = x.counts_alone

-- what was seen agrees with the definitions, touch by touch
is_after_one : (known : Option Seen) (e : Entry) (b : Bool) → is_after (Some (seen_after_one known e)) b ≡ leaves e.kind
is_after_one None e b = refl
is_after_one (Some x) e b = refl

there_after-seen_after : (known : Option Seen) (es : List Entry) (q : ℕ) (b : Bool) → there_after (is_after known b) es q ≡ is_after (seen_after known es q) b
there_after-seen_after known [] q b = refl
there_after-seen_after known (e ∷ es) q b =
    ap (λ w. there_after w es q) (
    elim (nat_eq e.id q) as (λ x. cond x (leaves e.kind) (is_after known b) ≡ is_after (cond x (Some (seen_after_one known e)) known) b) [
      | true ↦ sym (is_after_one known e b)
      | false ↦ refl
    ])
    ∙ there_after-seen_after (cond (nat_eq e.id q) (Some (seen_after_one known e)) known) es q b

was_kept : (x : Seen) (es : List Entry) (q : ℕ) (b : Bool) → was_before (seen_after (Some x) es q) b ≡ x.was_there
was_kept x [] q b = refl
was_kept x (e ∷ es) q b =
    elim (nat_eq e.id q) as (λ y. was_before (seen_after (cond y (Some (seen_after_one (Some x) e)) (Some x)) es q) b ≡ x.was_there) [
      | true ↦ was_kept (seen_after_one (Some x) e) es q b
      | false ↦ was_kept x es q b
    ]

was_before-seen_after : (w : ℕ → Bool) (es : List Entry) (q : ℕ) → FitsFrom w es → w q ≡ was_before (seen_after None es q) (w q)
was_before-seen_after w [] q fits = refl
was_before-seen_after w (e ∷ es) q fits =
    elim (nat_eq e.id q) as (λ y. nat_eq e.id q ≡ y → w q ≡ was_before (seen_after (cond y (Some (seen_after_one None e)) None) es q) (w q)) [
      | true ↦ λ same. ap w (sym (eqb-true e.id q same)) ∙ fits.0 ∙ sym (was_kept (seen_after_one None e) es q (w q))
      | false ↦ λ other.
          let w' : ℕ → Bool = λ p. cond (nat_eq e.id p) (leaves e.kind) (w p) in
          let kept : w' q ≡ w q = ap (λ y. cond y (leaves e.kind) (w q)) other in
          sym kept ∙ was_before-seen_after w' es q fits.1 ∙ ap (was_before (seen_after None es q)) kept
    ] refl

alone_step : (a c later : Bool) → cond a c false && later ≡ a && cond c later false
alone_step true true later = refl
alone_step true false later = refl
alone_step false c later = refl

one_alone : (known : Option Seen) (e : Entry) (later : Bool) → alone_so_far (Some (seen_after_one known e)) && later ≡ alone_so_far known && cond e.counts_only later false
one_alone None e later = elim e.counts_only as (λ c. c && later ≡ true && cond c later false) [ true ↦ refl | false ↦ refl ]
one_alone (Some x) e later = alone_step x.counts_alone e.counts_only later

alone-seen_after : (known : Option Seen) (es : List Entry) (q : ℕ) → alone_so_far (seen_after known es q) ≡ alone_so_far known && counts_alone es q
alone-seen_after known [] q = sym (and-true (alone_so_far known))
alone-seen_after known (e ∷ es) q =
    alone-seen_after (cond (nat_eq e.id q) (Some (seen_after_one known e)) known) es q
    ∙ elim (nat_eq e.id q) as (λ y. alone_so_far (cond y (Some (seen_after_one known e)) known) && counts_alone es q ≡ alone_so_far known
    && cond y (cond e.counts_only (counts_alone es q) false) (counts_alone es q)) [
      | true ↦ one_alone known e (counts_alone es q)
      | false ↦ refl
    ]

-- touches that fit, after the first of them
fits_after : (w : ℕ → Bool) (a b : List Entry) → FitsFrom w (a ++ b) → FitsFrom (λ q. there_after (w q) a q) b
fits_after w [] b fits = fits
fits_after w (e ∷ a) b fits = fits_after (λ q. cond (nat_eq e.id q) (leaves e.kind) (w q)) a b fits.1

-- and without the last of them
fits_before : (w : ℕ → Bool) (a b : List Entry) → FitsFrom w (a ++ b) → FitsFrom w a
fits_before w [] b fits = tt
fits_before w (e ∷ a) b fits = (fits.0, fits_before (λ q. cond (nat_eq e.id q) (leaves e.kind) (w q)) a b fits.1)

there_after-append : (was : Bool) (a b : List Entry) (q : ℕ) → there_after was (a ++ b) q ≡ there_after (there_after was a q) b q
there_after-append was [] b q = refl
there_after-append was (e ∷ a) b q = there_after-append (cond (nat_eq e.id q) (leaves e.kind) was) a b q

-- ---- at one id: o is what was seen of it, s and k whether it is there at the two places

-- of two tests that pass, each does
parts_of_and : (a b : Bool) → a && b ≡ true → (a ≡ true) × (b ≡ true)
parts_of_and true b = λ h. (refl, h)
parts_of_and false b = λ h. absurd (let f : false ≡ true = h in cc)

both : (a b : Bool) → a ≡ true → b ≡ true → a && b ≡ true
both a b e f = ap (λ x. x && b) e ∙ f

not_true : (a : Bool) → not a ≡ true → a ≡ false
not_true true = λ h. absurd (let f : false ≡ true = h in cc)
not_true false = λ h. refl

-- something was seen of the id, and it passes the test
abbrev Picks : (Seen → Bool) → Option Seen → Type 0
Picks p o = (x : Seen) × (o ≡ Some x) × (p x ≡ true)

-- the four parts: what was seen picks an id exactly where the definition lists it
created_at : (o : Option Seen) (s k : Bool) → k ≡ is_after o s → s ≡ was_before o s → Picks (has_of Created) o ↔ (s ≡ false) × (k ≡ true)
created_at None s k e f = ((λ h. absurd (let g : None ≡ Some h.0 = h.1 in cc)), (λ h. absurd (let g : s ≡ true = sym e ∙ h.1 in let i : s ≡ false = h.0 in cc)))
created_at (Some x) s k e f = (
  (λ h. let same : x ≡ h.0 = (let g : Some x ≡ Some h.0 = h.1 in cc) in
      let ps = parts_of_and _ _ (ap (has_of Created) same ∙ h.2) in (f ∙ not_true _ ps.0, e ∙ ps.1)),
  (λ h. (x, refl, both _ _ (ap not (sym f ∙ h.0)) (sym e ∙ h.1))),
)

destroyed_at : (o : Option Seen) (s k : Bool) → k ≡ is_after o s → s ≡ was_before o s → Picks (has_of Destroyed) o ↔ (s ≡ true) × (k ≡ false)
destroyed_at None s k e f = ((λ h. absurd (let g : None ≡ Some h.0 = h.1 in cc)), (λ h. absurd (let g : s ≡ false = sym e ∙ h.1 in let i : s ≡ true = h.0 in cc)))
destroyed_at (Some x) s k e f = (
  (λ h. let same : x ≡ h.0 = (let g : Some x ≡ Some h.0 = h.1 in cc) in
      let ps = parts_of_and _ _ (ap (has_of Destroyed) same ∙ h.2) in (f ∙ ps.0, e ∙ not_true _ ps.1)),
  (λ h. (x, refl, both _ _ (sym f ∙ h.0) (ap not (sym e ∙ h.1)))),
)

updated_at : (o : Option Seen) (t s k : Bool) → t ≡ is_some o → k ≡ is_after o s → s ≡ was_before o s → Picks (has_of Updated) o ↔ (t ≡ true) × (s ≡ true) × (k ≡ true)
updated_at None t s k d e f = ((λ h. absurd (let g : None ≡ Some h.0 = h.1 in cc)), (λ h. absurd (let g : t ≡ true = h.0 in let i : t ≡ false = d in cc)))
updated_at (Some x) t s k d e f = (
  (λ h. let same : x ≡ h.0 = (let g : Some x ≡ Some h.0 = h.1 in cc) in
      let ps = parts_of_and _ _ (ap (has_of Updated) same ∙ h.2) in (d, f ∙ ps.0, e ∙ ps.1)),
  (λ h. (x, refl, both _ _ (sym f ∙ h.1) (sym e ∙ h.2))),
)

mixed_at : (o : Option Seen) (t s k a : Bool) → t ≡ is_some o → k ≡ is_after o s → s ≡ was_before o s → a ≡ alone_so_far o
    → Picks (has_of Mixed) o ↔ ((t ≡ true) × (s ≡ true) × (k ≡ true)) × (a ≡ false)
mixed_at None t s k a d e f g = ((λ h. absurd (let g : None ≡ Some h.0 = h.1 in cc)), (λ h. absurd (let g : t ≡ true = h.0.0 in let i : t ≡ false = d in cc)))
mixed_at (Some x) t s k a d e f g = (
  (λ h. let same : x ≡ h.0 = (let g : Some x ≡ Some h.0 = h.1 in cc) in
      let ps = parts_of_and _ _ (ap (has_of Mixed) same ∙ h.2) in
      let qs = parts_of_and _ _ ps.0 in ((d, f ∙ qs.0, e ∙ qs.1), g ∙ not_true _ ps.1)),
  (λ h. (x, refl, both _ _ (both _ _ (sym f ∙ h.0.1) (sym e ∙ h.0.2)) (ap not (sym g ∙ h.1)))),
)

-- ---- at every id

module _ (h : List Entry) (s t : ℕ) (fits : AreTouches h) (sn : s + t ≤ length h) where
  between-es : between h s (s + t) ≡ take t (drop s h)
  between-es = drop-take s t h

  -- what was seen of an id after place s tells of its presence at s and s + t, its touches, and their marks
  is_at_end : (q : ℕ) → there_at h (s + t) q ≡ is_after (seen_after None (take t (drop s h)) q) (there_at h s q)
  is_at_end q =
      ap (λ xs. there_after false xs q) (take-parts h s (s + t) (omega arith) ∙ ap (λ xs. take s h ++ xs) between-es)
      ∙ there_after-append false (take s h) (take t (drop s h)) q
      ∙ there_after-seen_after None (take t (drop s h)) q (there_at h s q)

  pub was_at_start : (q : ℕ) → there_at h s q ≡ was_before (seen_after None (take t (drop s h)) q) (there_at h s q)
  was_at_start q =
      let F : List Entry → Type 0 = λ xs. FitsFrom (λ _. false) xs in
      let w : ℕ → Bool = λ q. there_after false (take s h) q in
      let G : List Entry → Type 0 = λ xs. FitsFrom w xs in
      let rest : FitsFrom w (drop s h) = fits_after (λ _. false) (take s h) (drop s h) (subst F (sym (take-append-drop s h)) fits.fit) in
      was_before-seen_after w (take t (drop s h)) q (fits_before w (take t (drop s h)) (drop t (drop s h)) (subst G (sym (take-append-drop t (drop s h))) rest))

  pub touched_is : (q : ℕ) → touches (between h s (s + t)) q ≡ is_some (seen_after None (take t (drop s h)) q)
  touched_is q = ap (λ xs. touches xs q) between-es ∙ sym (is_some-seen_after None (take t (drop s h)) q)

  alone_is : (q : ℕ) → counts_alone (between h s (s + t)) q ≡ alone_so_far (seen_after None (take t (drop s h)) q)
  alone_is q = ap (λ xs. counts_alone xs q) between-es ∙ sym (alone-seen_after None (take t (drop s h)) q)

-- a list of what is one fact lists the other
pub Lists_for : (xs : List ℕ) (P Q : ℕ → Type 0) → ((q : ℕ) → P q ↔ Q q) → Lists xs P → Lists xs Q
Lists_for xs P Q same l = record { ascending = l.ascending; members = λ q. ((λ h. (same q).0 ((l.members q).0 h)), (λ h. (l.members q).1 ((same q).1 h))) }

-- an empty list holds nothing
nothing_in : (q : ℕ) → Contains [] q → ⊥
nothing_in q h = omega (arith, h.1)

-- a list holds its first number
first_in : (x : ℕ) (xs : List ℕ) → Contains (x ∷ xs) x
first_in x xs = (0, omega arith, refl)

-- no id stands in an empty list, and in any other one does
none_listed : (xs : List ℕ) (P : ℕ → Type 0) → Lists xs P → (xs ≡ []) ↔ ((q : ℕ) → P q → ⊥)
none_listed [] P l = ((λ e q p. nothing_in q ((l.members q).1 p)), (λ f. refl))
none_listed (x ∷ xs) P l = ((λ e. absurd (cc)), (λ f. absurd (f x ((l.members x).0 (first_in x xs)))))

-- what a map says of an id, by its entry there
seen_as : (m : BTreeMap ℕ Seen) (part : Part) (q : ℕ) (o : Option Seen) → get nat_cmp m q ≡ o → IsIn m part q ↔ Picks (has_of part) o
seen_as m part q o e = ((λ h. (h.0, sym e ∙ h.1, h.2)), (λ h. (h.0, e ∙ h.1, h.2)))

then_same : {A B C : Type 0} → A ↔ B → B ↔ C → A ↔ C
then_same f g = ((λ x. g.0 (f.0 x)), (λ z. f.1 (g.1 z)))

true_unless : (a : Bool) → (a ≡ false → ⊥) → a ≡ true
true_unless true f = refl
true_unless false f = absurd (f refl)

not_both : (a : Bool) → a ≡ true → a ≡ false → ⊥
not_both a e f = absurd (let g : true ≡ false = sym e ∙ f in cc)

-- a limit that a walk of more touches would pass
past_the_limit : (h : List Entry) (s t j most : ℕ) → s + t < j → j ≤ length h → most < touched_count (take (t + 1) (drop s h)) → most < touched_count (between h s j)
past_the_limit h s t j most beyond jn more =
    let n = j - s in
    let upto : s + n ≡ j = omega arith in
    let whole : between h s j ≡ take n (drop s h) = ap (λ i. between h s i) (sym upto) ∙ drop-take s n h in
    let parts : take n (drop s h) ≡ take (t + 1) (drop s h) ++ drop (t + 1) (take n (drop s h)) = take-parts (drop s h) (t + 1) n (omega arith) in
    omega (arith, more, ap touched_count (whole ∙ parts), fresh_count_up [] (take (t + 1) (drop s h)) (drop (t + 1) (take n (drop s h))))

-- as many touches as were taken are within the limit
within_to : (h : List Entry) (s t : ℕ) (max : Option ℕ) → ForSome max (λ most. touched_count (take t (drop s h)) ≤ most) → IsWithin max h s (s + t)
within_to h s t None few = tt
within_to h s t (Some most) few =
    let ids = ids_listed (between h s (s + t)) in
    (ids.0, ids.1, omega (arith, few most refl, ap touched_count (drop-take s t h), count_listed (between h s (s + t)) ids.0 ids.1))

-- and no more are
no_further : (h : List Entry) (s t j : ℕ) (max : Option ℕ) → j ≤ length h
    → (t < length (drop s h) → (most : ℕ) × (max ≡ Some most) × (most < touched_count (take (t + 1) (drop s h)))) → IsWithin max h s j → j ≤ s + t
no_further h s t j None jn full here =
    let stops : s + t < j → ⊥ = λ beyond. (let f = full (omega (arith, length-drop s h)) in let g : None ≡ Some f.0 = f.1 in cc) in omega (arith, stops)
no_further h s t j (Some most) jn full here =
    let stops : s + t < j → ⊥ = λ beyond. (let f = full (omega (arith, length-drop s h)) in let g : Some most ≡ Some f.0 = f.1 in let same : most ≡ f.0 = cc in
    omega (arith, here.2, count_listed (between h s j) here.0 here.1, past_the_limit h s t j most beyond jn (omega (arith, f.2, same)))) in
    omega (arith, stops)

-- the walk comes to the greatest place
reaches_to : (h : List Entry) (s t : ℕ) (max : Option ℕ) (m : BTreeMap ℕ Seen) → s + t ≤ length h → Gathered (drop s h) max m t → Reaches h s max (s + t)
reaches_to h s t max m tn g = record {
  after = omega arith;
  to_last = tn;
  within = within_to h s t max g.few;
  greatest = λ j jn here. no_further h s t j max jn g.full here;
}

-- the answer of a walk over the touches after s is what changed after s
pub changes_from : (h : List Entry) (s : ℕ) (max : Option ℕ) (c : Changes) → Answers (drop s h) s max c → AreTouches h → s ≤ length h → IsChanges h s max c
changes_from h s max c a fits sn =
    let t = a.taken in
    let tn : s + t ≤ length h = omega (arith, a.gathered.within, length-drop s h) in
    let known = a.gathered.known in
    let end = is_at_end h s t fits tn in
    let start = was_at_start h s t fits tn in
    let touched = touched_is h s t fits tn in
    let alone = alone_is h s t fits tn in
    let IsMixed : ℕ → Type 0 = λ q. IsUpdated h s (s + t) q × (counts_alone (between h s (s + t)) q ≡ false) in
    let those_mixed : Lists a.mixed IsMixed = Lists_for _ _ _
    (λ q. then_same (seen_as a.seen Mixed q _ (known q)) (mixed_at _ _ _ _ _ (touched q) (end q) (start q) (alone q))) a.those_mixed in
    let none_mixed = none_listed a.mixed IsMixed those_mixed in
    let C : ℕ → Type 0 = λ k. Lists c.created (IsCreated h s k) in
    let U : ℕ → Type 0 = λ k. Lists c.updated (IsUpdated h s k) in
    let D : ℕ → Type 0 = λ k. Lists c.destroyed (IsDestroyed h s k) in
    let R : ℕ → Type 0 = λ k. Reaches h s max k in
    let O : ℕ → Type 0 = λ k. IsTrue c.counts_only ↔ ((c.updated ≢ []) × ((q : ℕ) → IsUpdated h s k q → counts_alone (between h s k) q ≡ true)) in
    let alone_all : O (s + t) = (
      (λ e. ((a.counts_only.0 e).0, (λ q u. true_unless _ (λ f. none_mixed.0 ((a.counts_only.0 e).1) q (u, f))))),
      (λ p. a.counts_only.1 (p.0, none_mixed.1 (λ q u. not_both _ (p.1 q u.0) u.1))),
    ) in
    record {
      reaches = subst R (sym a.to) (reaches_to h s t max a.seen tn a.gathered);
      created = subst C (sym a.to) (Lists_for _ _ _ (λ q. then_same (seen_as a.seen Created q _ (known q)) (created_at _ _ _ (end q) (start q))) a.created);
      updated = subst U (sym a.to) (Lists_for _ _ _ (λ q. then_same (seen_as a.seen Updated q _ (known q)) (updated_at _ _ _ _ (touched q) (end q) (start q))) a.updated);
      destroyed = subst D (sym a.to) (Lists_for _ _ _ (λ q. then_same (seen_as a.seen Destroyed q _ (known q)) (destroyed_at _ _ _ (end q) (start q))) a.destroyed);
      counts_only = subst O (sym a.to) alone_all;
    }

-- so it is over the touches that a list keeps after s
pub changes_of_kept : (k : Kept) (h : List Entry) (s start : ℕ) (max : Option ℕ) (c : Changes) → IsOf k h → AreTouches h → front_of k.place + start ≡ s → s ≤ k.place
    → Answers (drop start k.entries) s max c → IsChanges h s max c
changes_of_kept k h s start max c of fits is high a =
    let P : List Entry → Type 0 = λ rest. Answers rest s max c in
    let front = front_of (length h) in
    let sum : front + start ≡ s = omega (arith, of.place) in
    changes_from h s max c (subst P (ap (drop start) of.entries ∙ drop-drop start front h ∙ ap (λ n. drop n h) sum) a) fits (omega (arith, of.place))
