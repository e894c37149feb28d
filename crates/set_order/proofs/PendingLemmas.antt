-- Mailboxes that are to be made, put in order: the first that waits for none of those that are left, and those that are left after it.
use Rattle.std.proofs.Common.{◌≡◌, ℕ, List, [], ◌∷◌, Bool, true, false, not, ◌&&◌, ◌||◌, cond, Option, Some, None, nat_cmp, inl, inr, refl, sym, ap, ◌∙◌}
use Rattle.std.specs.Bool.{one_answer}
use Rattle.std.specs.Cmp.Lexicographic.{slice_cmp}
use Rattle.std.specs.List.{find, list_any}
use Rattle.std.specs.Ordering.{is_lt}
use Rattle.std.specs.Str.{bytes_eq}
use Rattle.std.proofs.lemmas.Bool.{and_from, and_parts, or_cases, or_left, or_right}
use Rattle.std.proofs.lemmas.Cmp.{nat_list_cmp_total, tied_itself}
use Rattle.std.proofs.lemmas.Slice.Eq.{bytes_eq-Decides}
use Rattle.jmap_arguments.specs.Arguments.{is_among}
use Rattle.set_arguments.specs.Arguments.{Keyed}
use Rattle.set_order.specs.Ordered.{Creation, is_key, making, next_of, parent_in, waits, without_key}
use Rattle.set_arguments.specs.reading.Keys.{ascends, is_below_all}
use Rattle.set_order.specs.reading.Ordering.{ArePending, is_one_key, is_ready, waits_for}

-- ---- truth

pub is_same : (a b : List ℕ) → bytes_eq a b ≡ true → a ≡ b
is_same a b is = (bytes_eq-Decides a b).0 is

pub same_bytes : (a : List ℕ) → bytes_eq a a ≡ true
same_bytes a = (bytes_eq-Decides a a).1 refl

-- of two of which one isn't so, the other is
second : (a b : Bool) → a ≡ false → (a || b) ≡ true → b ≡ true
second a b unlike either = sym (ap (λ (x : Bool). x || b) unlike) ∙ either

and_false : (a : Bool) → (a && false) ≡ false
and_false true = refl
and_false false = refl

pub not_both : (b : Bool) → b ≡ true → b ≡ false → true ≡ false
not_both b is unlike = sym is ∙ unlike

shuffled : (x o l m : Bool) → ((x || o) || (l || m)) ≡ ((x || l) || (o || m))
shuffled true o l m = refl
shuffled false true true m = refl
shuffled false true false m = refl
shuffled false false true m = refl
shuffled false false false m = refl

or_turned : (a b : Bool) → (a || b) ≡ (b || a)
or_turned true true = refl
or_turned true false = refl
or_turned false true = refl
or_turned false false = refl

pub turned : (a b : List ℕ) → bytes_eq a b ≡ bytes_eq b a
turned a b =
    one_answer {P = a ≡ b} (bytes_eq a b) (bytes_eq b a) (bytes_eq-Decides a b)
    (λ same. sym ((bytes_eq-Decides b a).0 same), λ is. (bytes_eq-Decides b a).1 (sym is))

-- ---- keys that ascend

abbrev pub has_key : List ℕ → Creation → Bool
has_key key c = bytes_eq c.0 key

-- one that has the key and passes
abbrev passes_at : (Creation → Bool) → List ℕ → Creation → Bool
passes_at test key c = bytes_eq c.0 key && test c

not_less : (a b : List ℕ) → a ≡ b → is_lt (slice_cmp nat_cmp a b) ≡ false
not_less a b same = ap (λ (t : List ℕ). is_lt (slice_cmp nat_cmp a t)) (sym same) ∙ ap is_lt (tied_itself nat_list_cmp_total a)

-- no key after a lower one is that one
pub not_later : (key : List ℕ) (cs : Keyed) → is_below_all key cs ≡ true → list_any (has_key key) cs ≡ false
not_later key [] below = refl
not_later key (c ∷ cs) below =
    let parts = and_parts (is_lt (slice_cmp nat_cmp key c.0)) (is_below_all key cs) below in
    elim (bytes_eq c.0 key) as (λ b. bytes_eq c.0 key ≡ b → (b || list_any (has_key key) cs) ≡ false) [
      | true ↦ λ same. absurd (let both = not_both _ parts.0 (not_less key c.0 (sym (is_same c.0 key same))) in cc)
      | false ↦ λ other. not_later key cs parts.1
    ] refl

-- a key that is below all is below one of theirs
below_key : (first key : List ℕ) (cs : Keyed) → is_below_all first cs ≡ true → list_any (has_key key) cs ≡ true → is_lt (slice_cmp nat_cmp first key) ≡ true
below_key first key [] below there = absurd (let unlike : false ≡ true = there in cc)
below_key first key (c ∷ cs) below there =
    let parts = and_parts (is_lt (slice_cmp nat_cmp first c.0)) (is_below_all first cs) below in
    elim (or_cases (bytes_eq c.0 key) (list_any (has_key key) cs) there) [
      | inl is ↦ ap (λ (t : List ℕ). is_lt (slice_cmp nat_cmp first t)) (sym (is_same c.0 key is)) ∙ parts.0
      | inr later ↦ below_key first key cs parts.1 later
    ]

has_its_key : (test : Creation → Bool) (key : List ℕ) (cs : Keyed) → list_any (passes_at test key) cs ≡ true → list_any (has_key key) cs ≡ true
has_its_key test key [] there = there
has_its_key test key (c ∷ cs) there =
    elim (or_cases (passes_at test key c) (list_any (passes_at test key) cs) there) [
      | inl is ↦ or_left _ _ (and_parts (bytes_eq c.0 key) (test c) is).0
      | inr later ↦ or_right _ _ (has_its_key test key cs later)
    ]

-- The first that passes is the one of the key, where that passes and no lower key does.
find_least : (test : Creation → Bool) (key : List ℕ) (cs : Keyed) → ascends cs ≡ true → list_any (passes_at test key) cs ≡ true
    → ((other : List ℕ) → list_any (passes_at test other) cs ≡ true → is_lt (slice_cmp nat_cmp other key) ≡ false) → find test cs ≡ find (has_key key) cs
find_least test key [] ascend there least = absurd (let unlike : false ≡ true = there in cc)
find_least test key (c ∷ cs) ascend there least =
    let parts = and_parts (is_below_all c.0 cs) (ascends cs) ascend in
    elim (test c) as (λ b. test c ≡ b → cond b (Some c) (find test cs) ≡ cond (bytes_eq c.0 key) (Some c) (find (has_key key) cs)) [
      | true ↦ λ passes.
          elim (bytes_eq c.0 key) as (λ b. bytes_eq c.0 key ≡ b → Some c ≡ cond b (Some c) (find (has_key key) cs)) [
            | true ↦ λ is. refl
            | false ↦ λ other.
                let here : list_any (passes_at test c.0) (c ∷ cs) ≡ true = or_left _ _ (and_from _ _ (same_bytes c.0) passes) in
                let later : list_any (passes_at test key) cs ≡ true =
                second (passes_at test key c) (list_any (passes_at test key) cs) (ap (λ (b : Bool). b && test c) other) there in
                let less : is_lt (slice_cmp nat_cmp c.0 key) ≡ true = below_key c.0 key cs parts.0 (has_its_key test key cs later) in
                absurd (let both : true ≡ false = not_both _ less (least c.0 here) in cc)
          ] refl
      | false ↦ λ fails.
          let later : list_any (passes_at test key) cs ≡ true =
          second (passes_at test key c) (list_any (passes_at test key) cs) (ap (λ (b : Bool). bytes_eq c.0 key && b) fails ∙ and_false (bytes_eq c.0 key)) there in
          elim (bytes_eq c.0 key) as (λ b. bytes_eq c.0 key ≡ b → find test cs ≡ cond b (Some c) (find (has_key key) cs)) [
            | true ↦ λ is.
                let twice : list_any (has_key c.0) cs ≡ true = ap (λ (t : List ℕ). list_any (has_key t) cs) (is_same c.0 key is) ∙ has_its_key test key cs later in
                absurd (let both : true ≡ false = not_both _ twice (not_later c.0 cs parts.0) in cc)
            | false ↦ λ other. find_least test key cs parts.1 later (λ o passes. least o (or_right _ _ passes))
          ] refl
    ] refl

-- of one key there is one
once : (test : Creation → Bool) (key : List ℕ) (cs : Keyed) → ascends cs ≡ true → list_any (passes_at test key) cs ≡ true
    → list_any (passes_at (λ c. not (test c)) key) cs ≡ false
once test key [] ascend there = absurd (let unlike : false ≡ true = there in cc)
once test key (c ∷ cs) ascend there =
    let parts = and_parts (is_below_all c.0 cs) (ascends cs) ascend in
    elim (bytes_eq c.0 key) as (λ b. bytes_eq c.0 key ≡ b → ((b && not (test c)) || list_any (passes_at (λ c. not (test c)) key) cs) ≡ false) [
      | true ↦ λ is.
          let alone : list_any (has_key key) cs ≡ false = ap (λ (t : List ℕ). list_any (has_key t) cs) (sym (is_same c.0 key is)) ∙ not_later c.0 cs parts.0 in
          let none : (t : Creation → Bool) → list_any (passes_at t key) cs ≡ false = λ t. none_passes t key cs alone in
          let passes : test c ≡ true = this_one (bytes_eq c.0 key) (test c) (list_any (passes_at test key) cs) (none test) there in
          ap (λ (b : Bool). not b || list_any (passes_at (λ c. not (test c)) key) cs) passes ∙ none (λ c. not (test c))
      | false ↦ λ other.
          once test key cs parts.1 (second (passes_at test key c) (list_any (passes_at test key) cs) (ap (λ (b : Bool). b && test c) other) there)
    ] refl
  where
    none_passes : (t : Creation → Bool) (key : List ℕ) (cs : Keyed) → list_any (has_key key) cs ≡ false → list_any (passes_at t key) cs ≡ false
    none_passes t key cs alone = elim (list_any (passes_at t key) cs) as (λ b. list_any (passes_at t key) cs ≡ b → b ≡ false) [
      | true ↦ λ is. not_both _ (has_its_key t key cs is) alone
      | false ↦ λ is. refl
    ] refl

    this_one : (e t l : Bool) → l ≡ false → ((e && t) || l) ≡ true → t ≡ true
    this_one e true l none is = refl
    this_one true false l none is = absurd (let both : true ≡ false = sym is ∙ none in cc)
    this_one false false l none is = absurd (let both : true ≡ false = sym is ∙ none in cc)

-- ---- parents

pub none_is : (cs : Keyed) → list_any (is_key None) cs ≡ false
none_is [] = refl
none_is (c ∷ cs) = none_is cs

-- it waits where its parent is among these
pub waits_by : (parent : Option (List ℕ)) (key : List ℕ) (cs : Keyed) → is_one_key parent key ≡ true → is_among key (making cs) ≡ true → list_any (is_key parent) cs ≡ true
waits_by None key cs is there = absurd (let unlike : false ≡ true = is in cc)
waits_by (Some p) key [] is there = there
waits_by (Some p) key (c ∷ cs) is there =
    elim (or_cases (bytes_eq c.0 key) (is_among key (making cs)) there) [
      | inl here ↦ or_left _ _ (ap (bytes_eq c.0) (sym (is_same key p is)) ∙ here)
      | inr later ↦ or_right _ _ (waits_by (Some p) key cs is later)
    ]

left_waits : (a l b : Bool) → (a ≡ true → b ≡ false) → (a || (l && not b)) ≡ ((a || l) && not b)
left_waits true l true apart = absurd (let both : true ≡ false = apart refl in cc)
left_waits true l false apart = refl
left_waits false l b apart = refl

gone_waits : (b l : Bool) → (l && not b) ≡ ((b || l) && not b)
gone_waits true true = refl
gone_waits true false = refl
gone_waits false l = refl

-- without one, those wait that waited for others
waits_without_some : (key p : List ℕ) (cs : Keyed) → list_any (is_key (Some p)) (without_key key cs) ≡ (list_any (is_key (Some p)) cs && not (bytes_eq key p))
waits_without_some key p [] = refl
waits_without_some key p (c ∷ cs) =
    elim (bytes_eq c.0 key) as (λ b. bytes_eq c.0 key ≡ b
    → list_any (is_key (Some p)) (cond (not b) (c ∷ without_key key cs) (without_key key cs)) ≡ ((bytes_eq c.0 p || list_any (is_key (Some p)) cs) && not (bytes_eq key p))) [
      | true ↦ λ is.
          waits_without_some key p cs ∙ gone_waits (bytes_eq key p) (list_any (is_key (Some p)) cs)
          ∙ ap (λ (t : List ℕ). (bytes_eq t p || list_any (is_key (Some p)) cs) && not (bytes_eq key p)) (sym (is_same c.0 key is))
      | false ↦ λ other.
          ap (λ (b : Bool). bytes_eq c.0 p || b) (waits_without_some key p cs)
          ∙ left_waits (bytes_eq c.0 p) (list_any (is_key (Some p)) cs) (bytes_eq key p) (λ here. not_too c.0 key p here other)
    ] refl
  where
    not_too : (a key p : List ℕ) → bytes_eq a p ≡ true → bytes_eq a key ≡ false → bytes_eq key p ≡ false
    not_too a key p here other = elim (bytes_eq key p) as (λ b. bytes_eq key p ≡ b → b ≡ false) [
      | true ↦ λ is. absurd (let both : true ≡ false = not_both _ (ap (bytes_eq a) (is_same key p is) ∙ here) other in cc)
      | false ↦ λ is. refl
    ] refl

waits_without : (key : List ℕ) (parent : Option (List ℕ)) (cs : Keyed) → list_any (is_key parent) (without_key key cs) ≡ (list_any (is_key parent) cs && not (is_one_key parent key))
waits_without key None cs = none_is (without_key key cs) ∙ sym (ap (λ (b : Bool). b && true) (none_is cs))
waits_without key (Some p) cs = waits_without_some key p cs

-- ---- one goes

not_and_not : (w o : Bool) → not (w && not o) ≡ (not w || o)
not_and_not true true = refl
not_and_not true false = refl
not_and_not false o = refl

gone_ready : (b x y l m : Bool) → (not b && (l || m)) ≡ (not b && (((b && x) || l) || ((b && y) || m)))
gone_ready true x y l m = refl
gone_ready false x y l m = refl

left_ready : (e b x o l m : Bool) → (e ≡ true → b ≡ false) → ((e && (x || o)) || (not b && (l || m))) ≡ (not b && (((e && x) || l) || ((e && o) || m)))
left_ready true true x o l m apart = absurd (let both : true ≡ false = apart refl in cc)
left_ready true false x o l m apart = shuffled x o l m
left_ready false b x o l m apart = refl

module _ (pending : Keyed) (key : List ℕ) where
  abbrev left : Keyed
  left = without_key key pending

  -- ready then are those that were, and those that waited for it
  ready_then : (other : List ℕ) (cs : Keyed) → list_any (is_ready left other) (without_key key cs)
      ≡ (not (bytes_eq key other) && (list_any (is_ready pending other) cs || list_any (waits_for key other) cs))
  ready_then other [] = sym (and_false (not (bytes_eq key other)))
  ready_then other (c ∷ cs) =
      elim (bytes_eq c.0 key) as (λ b. bytes_eq c.0 key ≡ b → list_any (is_ready left other) (cond (not b) (c ∷ without_key key cs) (without_key key cs))
      ≡ (not (bytes_eq key other) && (list_any (is_ready pending other) (c ∷ cs) || list_any (waits_for key other) (c ∷ cs)))) [
        | true ↦ λ is.
            ready_then other cs
            ∙ gone_ready (bytes_eq key other) (not (waits pending c)) (is_one_key (parent_in c.1) key) (list_any (is_ready pending other) cs) (list_any (waits_for key other) cs)
            ∙ ap (λ (t : List ℕ). not (bytes_eq key other) && (((bytes_eq t other && not (waits pending c)) || list_any (is_ready pending other) cs)
            || ((bytes_eq t other && is_one_key (parent_in c.1) key) || list_any (waits_for key other) cs))) (sym (is_same c.0 key is))
        | false ↦ λ apart.
            ap (λ (w : Bool). (bytes_eq c.0 other && not w) || list_any (is_ready left other) (without_key key cs)) (waits_without key (parent_in c.1) pending)
            ∙ ap (λ (x : Bool). (bytes_eq c.0 other && x) || list_any (is_ready left other) (without_key key cs)) (not_and_not (waits pending c) (is_one_key (parent_in c.1) key))
            ∙ ap (λ (r : Bool). (bytes_eq c.0 other && (not (waits pending c) || is_one_key (parent_in c.1) key)) || r) (ready_then other cs)
            ∙ left_ready (bytes_eq c.0 other) (bytes_eq key other) (not (waits pending c)) (is_one_key (parent_in c.1) key)
            (list_any (is_ready pending other) cs) (list_any (waits_for key other) cs) (λ here. not_other c.0 here apart)
      ] refl
    where
      not_other : (a : List ℕ) → bytes_eq a other ≡ true → bytes_eq a key ≡ false → bytes_eq key other ≡ false
      not_other a here apart = elim (bytes_eq key other) as (λ b. bytes_eq key other ≡ b → b ≡ false) [
        | true ↦ λ is. absurd (let both : true ≡ false = not_both _ (ap (bytes_eq a) (is_same key other is) ∙ here) apart in cc)
        | false ↦ λ is. refl
      ] refl

  -- what is so of none of its key is so of those that are left where it is so of all
  same_left : (test : Creation → Bool) (cs : Keyed) → list_any (passes_at test key) cs ≡ false → list_any test (without_key key cs) ≡ list_any test cs
  same_left test [] none = refl
  same_left test (c ∷ cs) none =
      elim (bytes_eq c.0 key) as (λ b. bytes_eq c.0 key ≡ b → list_any test (cond (not b) (c ∷ without_key key cs) (without_key key cs)) ≡ (test c || list_any test cs)) [
        | true ↦ λ is.
            let parts = neither (passes_at test key c) (list_any (passes_at test key) cs) none in
            let fails : test c ≡ false = sym (ap (λ (b : Bool). b && test c) is) ∙ parts.0 in
            same_left test cs parts.1 ∙ sym (ap (λ (b : Bool). b || list_any test cs) fails)
        | false ↦ λ other. ap (λ (b : Bool). test c || b) (same_left test cs (neither (passes_at test key c) (list_any (passes_at test key) cs) none).1)
      ] refl
    where
      neither : (a b : Bool) → (a || b) ≡ false → (a ≡ false) × (b ≡ false)
      neither true b none = absurd (let both : true ≡ false = none in cc)
      neither false b none = (refl, none)

  -- what implies what holds of none holds of none
  none_so : (p q : Creation → Bool) (cs : Keyed) → ((c : Creation) → p c ≡ true → q c ≡ true) → list_any q cs ≡ false → list_any p cs ≡ false
  none_so p q [] so none = refl
  none_so p q (c ∷ cs) so none = elim (p c) as (λ b. p c ≡ b → (b || list_any p cs) ≡ false) [
    | true ↦ λ is. absurd (let both : true ≡ false = not_both _ (or_left (q c) (list_any q cs) (so c is)) none in cc)
    | false ↦ λ is. none_so p q cs so (none_later (q c) (list_any q cs) none)
  ] refl
    where
      none_later : (a b : Bool) → (a || b) ≡ false → b ≡ false
      none_later true b none = absurd (let both : true ≡ false = none in cc)
      none_later false b none = none

  module _ (ascend : ascends pending ≡ true) (rest : List (List ℕ)) (waiting : List ℕ → List (List ℕ)) (are : ArePending pending (key ∷ rest) waiting)
      (last : is_among key rest ≡ false) where
    is_ready_here : list_any (is_ready pending key) pending ≡ true
    is_ready_here = sym (are.ready_are key) ∙ or_left (bytes_eq key key) (is_among key rest) (same_bytes key)

    is_there : is_among key (making pending) ≡ true
    is_there = in_making pending (has_its_key (λ c. not (waits pending c)) key pending is_ready_here)
      where
        in_making : (cs : Keyed) → list_any (has_key key) cs ≡ true → is_among key (making cs) ≡ true
        in_making [] there = there
        in_making (c ∷ cs) there = elim (or_cases (bytes_eq c.0 key) (list_any (has_key key) cs) there) [
          | inl is ↦ or_left _ _ is
          | inr later ↦ or_right _ _ (in_making cs later)
        ]

    -- it waits for none of them
    waits_for_none : (parent other : List ℕ) → is_among parent (making pending) ≡ true → list_any (passes_at (waits_for parent other) key) pending ≡ false
    waits_for_none parent other there =
        none_so (passes_at (waits_for parent other) key) (passes_at (λ c. not (not (waits pending c))) key) pending
        (λ c is.
        let parts = and_parts (bytes_eq c.0 key) (waits_for parent other c) is in
        let inner = and_parts (bytes_eq c.0 other) (is_one_key (parent_in c.1) parent) parts.1 in
        and_from _ _ parts.0 (ap (λ (b : Bool). not (not b)) (waits_by (parent_in c.1) parent pending inner.1 there)))
        (once (λ c. not (waits pending c)) key pending ascend is_ready_here)

    waits_not_for_itself : list_any (waits_for key key) pending ≡ false
    waits_not_for_itself =
        none_so (waits_for key key) (passes_at (waits_for key key) key) pending
        (λ c is. and_from _ _ (and_parts (bytes_eq c.0 key) (is_one_key (parent_in c.1) key) is).0 is) (waits_for_none key key is_there)

    -- once it went, those that waited for it are ready too
    pub are_then : (ready : List (List ℕ)) (waiting_then : List ℕ → List (List ℕ))
        → ((other : List ℕ) → is_among other ready ≡ (is_among other (waiting key) || is_among other rest))
        → ((parent : List ℕ) → (parent ≡ key → ⊥) → waiting_then parent ≡ waiting parent) → ArePending left ready waiting_then
    are_then ready waiting_then ready_is waiting_is = record {
      ready_are = λ other.
          ready_is other ∙ ap (λ (b : Bool). b || is_among other rest) (are.waiting_are key other is_there)
          ∙ elim (bytes_eq key other) as (λ b. bytes_eq key other ≡ b → (list_any (waits_for key other) pending || is_among other rest)
          ≡ (not b && (list_any (is_ready pending other) pending || list_any (waits_for key other) pending))) [
            | true ↦ λ is.
                let itself : List ℕ → Bool = λ t. list_any (waits_for key t) pending || is_among t rest in
                ap itself (sym (is_same key other is)) ∙ ap (λ (b : Bool). b || is_among key rest) waits_not_for_itself ∙ last
            | false ↦ λ apart.
                let one : is_among other rest ≡ list_any (is_ready pending other) pending =
                sym (ap (λ (b : Bool). b || is_among other rest) apart) ∙ are.ready_are other in
                ap (λ (b : Bool). list_any (waits_for key other) pending || b) one
                ∙ or_turned (list_any (waits_for key other) pending) (list_any (is_ready pending other) pending)
          ] refl ∙ sym (ready_then other pending);
      waiting_are = λ parent other there.
          let both = still_there pending parent there in
          ap (is_among other) (waiting_is parent both.1) ∙ are.waiting_are parent other both.0
          ∙ sym (same_left (waits_for parent other) pending (waits_for_none parent other both.0));
    }
      where
        still_there : (cs : Keyed) (parent : List ℕ) → is_among parent (making (without_key key cs)) ≡ true → (is_among parent (making cs) ≡ true) × (parent ≡ key → ⊥)
        still_there [] parent there = absurd (let unlike : false ≡ true = there in cc)
        still_there (c ∷ cs) parent there =
            elim (bytes_eq c.0 key) as (λ b. bytes_eq c.0 key ≡ b → is_among parent (making (cond (not b) (c ∷ without_key key cs) (without_key key cs))) ≡ true
            → ((bytes_eq c.0 parent || is_among parent (making cs)) ≡ true) × (parent ≡ key → ⊥)) [
              | true ↦ λ is later. let more = still_there cs parent later in (or_right _ _ more.0, more.1)
              | false ↦ λ other here. elim (or_cases (bytes_eq c.0 parent) (is_among parent (making (without_key key cs))) here) [
                | inl is ↦ (or_left _ _ is, λ same. let both : true ≡ false = not_both _ (ap (bytes_eq c.0) (sym same) ∙ is) other in absurd (cc))
                | inr later ↦ let more = still_there cs parent later in (or_right _ _ more.0, more.1)
              ]
            ] refl there

    -- it is the first that waits for none
    pub is_next : ((other : List ℕ) → is_among other rest ≡ true → is_lt (slice_cmp nat_cmp other key) ≡ false) → next_of pending ≡ find (has_key key) pending
    is_next least =
        find_least (λ c. not (waits pending c)) key pending ascend is_ready_here
        (λ other passes. elim (or_cases (bytes_eq key other) (is_among other rest) (are.ready_are other ∙ passes)) [
          | inl is ↦ not_less other key (sym (is_same key other is))
          | inr later ↦ least other later
        ])

-- where none is ready, all wait
pub all_wait : (pending : Keyed) (waiting : List ℕ → List (List ℕ)) → ArePending pending [] waiting → next_of pending ≡ None
all_wait pending waiting are = none_next pending (λ key. sym (are.ready_are key))
  where
    none_next : (cs : Keyed) → ((key : List ℕ) → list_any (is_ready pending key) cs ≡ false) → find (λ (c : Creation). not (waits pending c)) cs ≡ None
    none_next [] none = refl
    none_next (c ∷ cs) none =
        let here : not (waits pending c) ≡ false = this (bytes_eq c.0 c.0) (not (waits pending c)) (list_any (is_ready pending c.0) cs) (same_bytes c.0) (none c.0) in
        ap (λ (b : Bool). cond b (Some c) (find (λ (c : Creation). not (waits pending c)) cs)) here
        ∙ none_next cs (λ key. later (is_ready pending key c) (list_any (is_ready pending key) cs) (none key))
      where
        this : (e t l : Bool) → e ≡ true → ((e && t) || l) ≡ false → t ≡ false
        this e false l is none = refl
        this true true l is none = absurd (let both : true ≡ false = none in cc)
        this false true l is none = absurd (let both : false ≡ true = is in cc)

        later : (a b : Bool) → (a || b) ≡ false → b ≡ false
        later true b none = absurd (let both : true ≡ false = none in cc)
        later false b none = none
