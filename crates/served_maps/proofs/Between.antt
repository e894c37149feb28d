-- What an id has while a past goes on: what it had before, nothing, or what it has then.
use Rattle.std.proofs.Common.{◌≡◌, ◌≢◌, ℕ, ◌<◌, ◌≤◌, List, [], ◌∷◌, ◌++◌, Bool, true, false, cond, nat_eq, map, filter, take, length, refl, sym, ap, ◌∙◌, subst, arith, Option}
use Rattle.std.proofs.Common.{Some, None, zero, suc}
use Rattle.std.proofs.lemmas.Bool.{eqb-true, eq-eqb}
use Rattle.std.proofs.Math.Seq.{take-length}
use Rattle.std.specs.BTreeMap.{is_at}
use Rattle.std.specs.Ordering.{nat_cmp}
use Rattle.change_list.proofs.Phases.{key_is}
use Rattle.change_list.specs.History.{Touch, value_after}
use Rattle.change_list.specs.Advance.{Tests, row_at, AreRows, removal, addition, change, is_gone, is_changed, advance}
use Rattle.served_maps.specs.Past.{Past, IsPast, AreFresh, IsEverBelow, gone_on, had_at, has_now}

module _ {V : Type 0} where
  -- o is one of the three
  pub data Among (was now o : Option V) : Type 0 where
    Was : o ≡ was → Among was now o
    Gone : o ≡ None → Among was now o
    Is : o ≡ now → Among was now o

  -- a touch takes its id away, or gives what the rows have
  data Gives (new : List (ℕ × V)) (t : Touch V) : Type 0 where
    Takes : t.value ≡ None → Gives new t
    Puts : t.value ≡ row_at new t.id → Gives new t

  abbrev AllGive : List (ℕ × V) → List (Touch V) → Type 0
  AllGive new [] = Unit {0}
  AllGive new (t ∷ ts) = Gives new t × AllGive new ts

  abbrev AllFound : List (ℕ × V) → List (ℕ × V) → Type 0
  AllFound new [] = Unit {0}
  AllFound new (e ∷ es) = (row_at new e.0 ≡ Some e.1) × AllFound new es

  one_more : (e : ℕ × V) (es xs : List (ℕ × V)) → row_at es e.0 ≡ None → AllFound es xs → AllFound (e ∷ es) xs
  one_more e es [] none found = tt
  one_more e es (x ∷ xs) none found = (
    (elim (is_at (nat_cmp x.0) e.0) as (λ (b : Bool). is_at (nat_cmp x.0) e.0 ≡ b → cond b (Some e.1) (row_at es x.0) ≡ Some x.1) [
      | true ↦ λ same. absurd (let f : None ≡ Some x.1 = sym none ∙ ap (row_at es) (eqb-true e.0 x.0 (sym (key_is x.0 e.0) ∙ same)) ∙ found.0 in cc)
      | false ↦ λ other. found.0
    ] refl),
    one_more e es xs none found.1,
  )

  all_found : (es : List (ℕ × V)) → AreRows es → AllFound es es
  all_found [] rows = tt
  all_found (e ∷ es) rows = (ap (λ (b : Bool). cond b (Some e.1) (row_at es e.0)) (key_is e.0 e.0 ∙ eq-eqb e.0 e.0 refl), one_more e es es rows.0 (all_found es rows.1))

  filtered : (new : List (ℕ × V)) (p : ℕ × V → Bool) (xs : List (ℕ × V)) → AllFound new xs → AllFound new (filter p xs)
  filtered new p [] found = tt
  filtered new p (x ∷ xs) found = elim (p x) as (λ (b : Bool). AllFound new (cond b (x ∷ filter p xs) (filter p xs)))
      [ true ↦ (found.0, filtered new p xs found.1) | false ↦ filtered new p xs found.1 ]

  put : (new : List (ℕ × V)) (to : ℕ × V → Touch V) → ((e : ℕ × V) → (to e).id ≡ e.0) → ((e : ℕ × V) → (to e).value ≡ Some e.1) → (xs : List (ℕ × V)) → AllFound new xs
      → AllGive new (map to xs)
  put new to ids values [] found = tt
  put new to ids values (x ∷ xs) found = (Puts (values x ∙ sym found.0 ∙ ap (row_at new) (sym (ids x))), put new to ids values xs found.1)

  taken_away : (new xs : List (ℕ × V)) → AllGive new (map removal xs)
  taken_away new [] = tt
  taken_away new (x ∷ xs) = (Takes refl, taken_away new xs)

  joined : (new : List (ℕ × V)) (a b : List (Touch V)) → AllGive new a → AllGive new b → AllGive new (a ++ b)
  joined new [] b f g = g
  joined new (t ∷ a) b f g = (f.0, joined new a b f.1 g)

  advance_gives : (tests : Tests V) (old new : List (ℕ × V)) → AreRows new → AllGive new (advance tests old new)
  advance_gives tests old new rows =
      joined new (map removal (filter (is_gone new) old)) _ (taken_away new (filter (is_gone new) old))
      (joined new (map (change tests.counts old) (filter (is_changed tests.same old) new)) _
      (put new (change tests.counts old) (λ e. refl) (λ e. refl) (filter (is_changed tests.same old) new) (filtered new (is_changed tests.same old) new (all_found new rows)))
      (put new addition (λ e. refl) (λ e. refl) (filter (is_gone old) new) (filtered new (is_gone old) new (all_found new rows))))

  after_one : (new : List (ℕ × V)) (was : Option V) (t : Touch V) (q : ℕ) (o : Option V) → Gives new t → Among (cond (nat_eq t.id q) t.value was) (row_at new q) o → Among was
      (row_at new q) o
  after_one new was t q o g (Gone e) = Gone e
  after_one new was t q o g (Is e) = Is e
  after_one new was t q o (Takes n) (Was e) =
      elim (nat_eq t.id q) as (λ (b : Bool). o ≡ cond b t.value was → Among was (row_at new q) o) [ true ↦ λ f. Gone (f ∙ n) | false ↦ λ f. Was f ] e
  after_one new was t q o (Puts n) (Was e) =
      elim (nat_eq t.id q) as (λ (b : Bool). nat_eq t.id q ≡ b → o ≡ cond b t.value was → Among was (row_at new q) o) [
        | true ↦ λ same f. Is (f ∙ n ∙ ap (row_at new) (eqb-true t.id q same))
        | false ↦ λ other f. Was f
      ] refl e

  between : (new : List (ℕ × V)) (ts : List (Touch V)) → AllGive new ts → (was : Option V) (k q : ℕ) → Among was (row_at new q) (value_after was (take k ts) q)
  between new [] g was zero q = Was refl
  between new [] g was (suc k) q = Was refl
  between new (t ∷ ts) g was zero q = Was refl
  between new (t ∷ ts) g was (suc k) q = after_one new was t q _ g.0 (between new ts g.1 (cond (nat_eq t.id q) t.value was) k q)

  -- a place of the longer history is one of the shorter, or comes after it
  data Place (was : Option V) (h more : List (Touch V)) (i q : ℕ) : Type 0 where
    Before : value_after was (take i (h ++ more)) q ≡ value_after was (take i h) q → Place was h more i q
    After : (k : ℕ) → value_after was (take i (h ++ more)) q ≡ value_after (value_after was h q) (take k more) q → Place was h more i q

  shift : (was : Option V) (t : Touch V) (h more : List (Touch V)) (i q : ℕ) → Place (cond (nat_eq t.id q) t.value was) h more i q → Place was (t ∷ h) more (suc i) q
  shift was t h more i q (Before e) = Before e
  shift was t h more i q (After k e) = After k e

  place_of : (was : Option V) (h more : List (Touch V)) (i q : ℕ) → Place was h more i q
  place_of was [] more i q = After i refl
  place_of was (t ∷ h) more zero q = Before refl
  place_of was (t ∷ h) more (suc i) q = shift was t h more i q (place_of (cond (nat_eq t.id q) t.value was) h more i q)

  -- what an id had at a place of the past that went on
  pub data Had (p : Past V) (new : List (ℕ × V)) (place q : ℕ) (o : Option V) : Type 0 where
    Earlier : o ≡ had_at p place q → Had p new place q o
    Later : Among (has_now p q) (row_at new q) o → Had p new place q o

  pub had : (tests : Tests V) (p : Past V) (new : List (ℕ × V)) (place q : ℕ) → AreRows new → Had p new place q (had_at (gone_on tests p new) place q)
  had tests p new place q rows = by (place_of None p.touches (advance tests p.now new) place q)
    where
      by : Place None p.touches (advance tests p.now new) place q → Had p new place q (had_at (gone_on tests p new) place q)
      by (Before e) = Earlier e
      by (After k e) =
          let at : value_after None p.touches q ≡ has_now p q = ap (λ (ts : List (Touch V)). value_after None ts q) (sym (take-length p.touches)) in
          let P : Option V → Type 0 = λ o. Among (has_now p q) (row_at new q) o in
          let Q : Option V → Type 0 = λ w. Among w (row_at new q) (value_after (value_after None p.touches q) (take k (advance tests p.now new)) q) in
          Later (subst P (sym e) (subst Q at (between new (advance tests p.now new) (advance_gives tests p.now new rows) (value_after None p.touches q) k q)))

  -- so all ids stay below a number
  pub ever_below : (tests : Tests V) (p : Past V) (new : List (ℕ × V)) (next now : ℕ) → AreRows new → IsEverBelow p next → next ≤ now → ((q : ℕ) → row_at new q ≢ None → q < now)
      → IsEverBelow (gone_on tests p new) now
  ever_below tests p new next now rows below rise these place q some = by (had tests p new place q rows)
    where
      earlier : (i : ℕ) → had_at p i q ≢ None → q < now
      earlier i n = let k : q < next = below i q n in omega (arith, k, rise)

      by : Had p new place q (had_at (gone_on tests p new) place q) → q < now
      by (Earlier e) = earlier place (λ n. some (e ∙ n))
      by (Later (Was e)) = earlier (length p.touches) (λ n. some (e ∙ n))
      by (Later (Gone e)) = absurd (some e)
      by (Later (Is e)) = these q (λ n. some (e ∙ n))

  -- the id has the value at a place, or in the rows
  data Where (p : Past V) (new : List (ℕ × V)) (q : ℕ) (w : V) : Type 0 where
    In : (k : ℕ) → had_at p k q ≡ Some w → Where p new q w
    Now : row_at new q ≡ Some w → Where p new q w

  -- and a part that ids keep from the last map to the new one is theirs for good
  pub same_part : {B : Type 0} (part : V → B) (tests : Tests V) (p : Past V) (new : List (ℕ × V)) → AreRows new → IsPast p → AreFresh p new
      → ((q : ℕ) (u v : V) → row_at p.now q ≡ Some u → row_at new q ≡ Some v → part u ≡ part v)
      → ((i j q : ℕ) (u v : V) → had_at p i q ≡ Some u → had_at p j q ≡ Some v → part u ≡ part v)
      → (i j q : ℕ) (u v : V) → had_at (gone_on tests p new) i q ≡ Some u → had_at (gone_on tests p new) j q ≡ Some v → part u ≡ part v
  same_part part tests p new rows past fresh keeps known i j q u v is_u is_v = by (where_is i u is_u (had tests p new i q rows)) (where_is j v is_v (had tests p new j q rows))
    where
      where_is : (k : ℕ) (w : V) → had_at (gone_on tests p new) k q ≡ Some w → Had p new k q (had_at (gone_on tests p new) k q) → Where p new q w
      where_is k w e (Earlier f) = In k (sym f ∙ e)
      where_is k w e (Later (Was f)) = In (length p.touches) (sym f ∙ e)
      where_is k w e (Later (Gone f)) = absurd (let g : None ≡ Some w = sym f ∙ e in cc)
      where_is k w e (Later (Is f)) = Now (sym f ∙ e)

      across : (k : ℕ) (a b : V) (o : Option V) → row_at p.now q ≡ o → had_at p k q ≡ Some a → row_at new q ≡ Some b → part a ≡ part b
      across k a b None n e f = absurd (let g : None ≡ Some a = sym (fresh q k n (λ m. let z : None ≡ Some b = sym m ∙ f in cc)) ∙ e in cc)
      across k a b (Some w) n e f = known k (length p.touches) q a w e (sym (past.last q) ∙ n) ∙ keeps q w b n f

      by : Where p new q u → Where p new q v → part u ≡ part v
      by (In k e) (In l f) = known k l q u v e f
      by (In k e) (Now f) = across k u v (row_at p.now q) refl e f
      by (Now e) (In l f) = sym (across l v u (row_at p.now q) refl f e)
      by (Now e) (Now f) = let g : Some u ≡ Some v = sym e ∙ f in let h : u ≡ v = cc in ap part h
