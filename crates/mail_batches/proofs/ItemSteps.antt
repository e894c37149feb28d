-- One item is read, and makes what it makes of the tables.
use Rattle.std.proofs.Common.{◌≡◌, ◌⊎◌, ◌<◌, ◌&&◌, ◌||◌, ℕ, Bool, true, false, eqb, eqb-true, eq-eqb, List, Option, Some, None, refl, sym, ap, subst, ◌∙◌, inl, inr}
use Rattle.std.specs.Prelude.{nat_lt}
use Rattle.std.proofs.lemmas.Bool.{ltb-true, lt-ltb}
use Rattle.mail_batches.specs.Batches.{IsRight}
use Rattle.mail_batches.specs.Steps.{Makes, MayFollow, number_of, rank}
use Rattle.mail_batches.specs.Tables.{Tables}
use Rattle.mail_batches.specs.declared.item.Item.{Item}
use Rattle.mail_batches.specs.reading.Reading.{item_at}
use Rattle.mail_batches.specs.reading.Stepping.{IsLast, IsPlaceOf, Steps, TakesItem, may_follow}
use Rattle.mail_batches.proofs.Again.{item_again}
use Rattle.mail_batches.proofs.Found.{one_some, some_none}
use Rattle.mail_batches.proofs.Spelled.{AreOctets}
use Rattle.mail_batches.proofs.SpelledItems.{item_spelled}

-- ---- order

abbrev After : ℕ × ℕ → ℕ × ℕ → Type 0
After last p = (last.0 < p.0) ⊎ ((last.0 ≡ p.0) × (last.1 < p.1))

after_is : (last p : ℕ × ℕ) → may_follow (Some last) p ≡ true → After last p
after_is last p e = by (nat_lt last.0 p.0) refl e
  where
    second : (b : Bool) → eqb last.0 p.0 ≡ b → (b && nat_lt last.1 p.1) ≡ true → After last p
    second true same h = inr (eqb-true last.0 p.0 same, ltb-true last.1 p.1 h)
    second false same h = absurd (cc)

    by : (b : Bool) → nat_lt last.0 p.0 ≡ b → (b || (eqb last.0 p.0 && nat_lt last.1 p.1)) ≡ true → After last p
    by true lt h = inl (ltb-true last.0 p.0 lt)
    by false lt h = second (eqb last.0 p.0) refl h

after_to : (last p : ℕ × ℕ) → After last p → may_follow (Some last) p ≡ true
after_to last p (inl lt) = ap (λ (b : Bool). b || (eqb last.0 p.0 && nat_lt last.1 p.1)) (lt-ltb last.0 p.0 lt)
after_to last p (inr h) =
    or_second (nat_lt last.0 p.0) (eqb last.0 p.0 && nat_lt last.1 p.1)
    (ap (λ (b : Bool). b && nat_lt last.1 p.1) (eq-eqb last.0 p.0 h.0) ∙ lt-ltb last.1 p.1 h.1)
  where
    or_second : (a b : Bool) → b ≡ true → (a || b) ≡ true
    or_second true b e = refl
    or_second false b e = e

may_is : (last : Option (ℕ × ℕ)) (place : ℕ × ℕ) (o : Option Item) (i : Item) → IsLast last o → IsPlaceOf place i → may_follow last place ≡ true → MayFollow o i
may_is None place None i is at e = tt
may_is None place (Some l) i is at e = absurd is
may_is (Some p) place None i is at e = absurd is
may_is (Some p) place (Some l) i is at e =
    let last_is : ◌≡◌ {A = ℕ × ℕ} p (rank l, number_of l) = λ k. (is.0 k, is.1 k) in
    let place_is : ◌≡◌ {A = ℕ × ℕ} place (rank i, number_of i) = λ k. (at.0 k, at.1 k) in
    let first : After (rank l, number_of l) place = subst (λ (x : ℕ × ℕ). After x place) last_is (after_is p place e) in
    subst (λ (x : ℕ × ℕ). After (rank l, number_of l) x) place_is first

may_to : (last : Option (ℕ × ℕ)) (place : ℕ × ℕ) (o : Option Item) (i : Item) → IsLast last o → IsPlaceOf place i → MayFollow o i → may_follow last place ≡ true
may_to None place None i is at m = refl
may_to None place (Some l) i is at m = absurd is
may_to (Some p) place None i is at m = absurd is
may_to (Some p) place (Some l) i is at m =
    let last_is : ◌≡◌ {A = ℕ × ℕ} p (rank l, number_of l) = λ k. (is.0 k, is.1 k) in
    let place_is : ◌≡◌ {A = ℕ × ℕ} place (rank i, number_of i) = λ k. (at.0 k, at.1 k) in
    let first : After (rank l, number_of l) place = subst (λ (x : ℕ × ℕ). After (rank l, number_of l) x) (sym place_is) m in
    after_to p place (subst (λ (x : ℕ × ℕ). After x place) (sym last_is) first)

-- ---- one item

abbrev ItemAndRest : Type 0
ItemAndRest = Item × List ℕ

-- what stands right at the front is what is read there
right_read : (o : Option Item) (t : Tables) (octets : List ℕ) (r : IsRight o t octets) → item_at octets ≡ Some (r.item, r.more)
right_read o t octets r = ap item_at r.spelled ∙ item_again r.item r.more r.fits

right_is : (o : Option Item) (t : Tables) (octets : List ℕ) (r : IsRight o t octets) (i : Item) (rest : List ℕ) → item_at octets ≡ Some (i, rest) → r.item ≡ i
right_is o t octets r i rest e =
    let same : ◌≡◌ {A = ItemAndRest} (r.item, r.more) (i, rest) = one_some {A = ItemAndRest} _ _ (sym (right_read o t octets r) ∙ e) in
    ap (λ (p : ItemAndRest). p.0) same

pub item_not_read : (t : Tables) (last : Option (ℕ × ℕ)) (octets : List ℕ) → item_at octets ≡ None → (o : Option Item) → IsLast last o → IsRight o t octets → ⊥
item_not_read t last octets none o is r = some_none {A = ItemAndRest} (r.item, r.more) (sym (right_read o t octets r) ∙ none)

pub item_not_next : (t : Tables) (last : Option (ℕ × ℕ)) (octets : List ℕ) (i : Item) (more : List ℕ) (p : ℕ × ℕ) → item_at octets ≡ Some (i, more) → IsPlaceOf p i
    → may_follow last p ≡ false → (o : Option Item) → IsLast last o → IsRight o t octets → ⊥
item_not_next t last octets i more p e at not_next o is r =
    let may : may_follow last p ≡ true = may_to last p o i is at (subst (MayFollow o) (right_is o t octets r i more e) r.follows) in
    absurd (cc)

pub item_not_made : (t : Tables) (last : Option (ℕ × ℕ)) (octets : List ℕ) (i : Item) (more : List ℕ) (now : Tables) (b : Bool) → item_at octets ≡ Some (i, more) → Steps t i now b → b ≡ false
    → (o : Option Item) → IsLast last o → IsRight o t octets → ⊥
item_not_made t last octets i more now b at steps e o is r =
    let wrong : (any : Tables) → Makes t i any → ⊥ = subst (Steps t i now) e steps in
    wrong r.next (subst (λ (x : Item). Makes t x r.next) (right_is o t octets r i more at) r.makes)

pub item_taken : (t : Tables) (last : Option (ℕ × ℕ)) (octets : List ℕ) (i : Item) (more : List ℕ) (now : Tables) (p : ℕ × ℕ) (b : Bool) → AreOctets octets → item_at octets ≡ Some (i, more)
    → IsPlaceOf p i → may_follow last p ≡ true → Steps t i now b → b ≡ true → TakesItem t last octets now p more
item_taken t last octets i more now p b a e at may steps right =
    let s = item_spelled octets i more a e in
    let made : Makes t i now = subst (Steps t i now) right steps in
    record { item = i; is_place = at; fits = s.0; spelled = s.1.whole; follows = λ o is. may_is last p o i is at may; makes = made }
