-- What keeps a client's copy right, and where it ends.
use Rattle.std.proofs.Common.{◌≡◌, ◌≢◌, ℕ, ◌≤◌, List, [], ◌∷◌, ◌++◌, Bool, true, false, cond, nat_eq, take, drop, length, Option, Some, None, refl, sym, ap, subst, ◌∙◌, arith}
use Rattle.std.proofs.Common.{◌||◌, is_some, length-append}
use Rattle.std.proofs.lemmas.Bool.{eqb-true}
use Rattle.std.proofs.lemmas.List.{take-take, length-take-le, take-append-le}
use Rattle.std.proofs.Math.Seq.{take-append_seam, take-length}
use Rattle.change_list.specs.Touches.{between, touches}
use Rattle.change_list.specs.Changes.{IsChanges}
use Rattle.change_list.specs.History.{Touch, map_at, value_after, entries_of}
use Rattle.change_list.specs.Copy.{IsCopy, applied, with_value, holds_id, ClientStep, IsClientStep, AreClientSteps, copy_after, place_after}
use Rattle.change_list.specs.declared.answer.Changes.{Changes}
use Rattle.change_list.proofs.Ascending.{Contains-holds_id, holds_id-Contains}
use Rattle.change_list.proofs.HistoryLaws.{touches-append, take-parts, between-append, between_none, between-take, there_at-take, map_at_untouched, length-entries_from}

-- at one id: what it has at the changes' start (before), at their end (after), now and in the copy
no_other_at : {V : Type 0} (before after now copy : Option V) (cr up de : Bool)
    → (cr ≡ true → is_some after ≡ true) → (up ≡ true → is_some after ≡ true)
    → ((is_some before ≡ true) × (is_some after ≡ false) → de ≡ true)
    → (before ≡ None → copy ≡ None) → after ≡ None
    → cond cr now (cond up now (cond de None copy)) ≡ None
no_other_at before after now copy true up de c u d n e = absurd (let f : is_some after ≡ true = c refl in let g : is_some after ≡ false = ap is_some e in cc)
no_other_at before after now copy false true de c u d n e = absurd (let f : is_some after ≡ true = u refl in let g : is_some after ≡ false = ap is_some e in cc)
no_other_at before after now copy false false true c u d n e = refl
no_other_at None after now copy false false false c u d n e = n refl
no_other_at (Some v) after now copy false false false c u d n e = absurd (let gone : false ≡ true = d (refl, ap is_some e) in cc)

agrees_at : {V : Type 0} (before after now copy : Option V) (cr up de early late : Bool)
    → ((is_some before ≡ false) × (is_some after ≡ true) → cr ≡ true)
    → ((early ≡ true) × (is_some before ≡ true) × (is_some after ≡ true) → up ≡ true)
    → (de ≡ true → is_some after ≡ false) → ((is_some before ≡ true) × (is_some after ≡ false) → de ≡ true)
    → (before ≡ None → copy ≡ None) → (early || late ≡ false → copy ≡ now)
    → late ≡ false → after ≡ now
    → cond cr now (cond up now (cond de None copy)) ≡ now
agrees_at before after now copy true up de early late c u d d2 n a l e = refl
agrees_at before after now copy false true de early late c u d d2 n a l e = refl
agrees_at before None now copy false false true early late c u d d2 n a l e = e
agrees_at before (Some v) now copy false false true early late c u d d2 n a l e = absurd (let f : true ≡ false = d refl in cc)
agrees_at before after now copy false false false false late c u d d2 n a l e = a l
agrees_at None None now copy false false false true late c u d d2 n a l e = n refl ∙ e
agrees_at None (Some v) now copy false false false true late c u d d2 n a l e = absurd (let f : false ≡ true = c (refl, refl) in cc)
agrees_at (Some w) None now copy false false false true late c u d d2 n a l e = absurd (let f : false ≡ true = d2 (refl, refl) in cc)
agrees_at (Some w) (Some v) now copy false false false true late c u d d2 n a l e = absurd (let f : false ≡ true = u (refl, refl, refl) in cc)

neither : (a b : Bool) → a || b ≡ false → (a ≡ false) × (b ≡ false)
neither true b = λ e. absurd (let f : true ≡ false = e in cc)
neither false b = λ e. (refl, e)

module _ {V : Type 0} where
  -- an answer, and the values fetched then or later, take a copy to the place of the answer
  pub copies_follow : (h : List (Touch V)) (m s : ℕ) (max : Option ℕ) (c : Changes) (copy : ℕ → Option V)
      → m ≤ length h → IsChanges (entries_of (take m h)) s max c → IsCopy copy h s
      → IsCopy (applied c (map_at h (length h)) copy) h c.to
  copies_follow h m s max c copy mh is was =
      let km : c.to ≤ m = omega (arith, is.reaches.to_last, length-entries_from (λ _. None) (take m h), length-take-le m h mh) in
      let sk : s ≤ c.to = is.reaches.after in
      let sm : s ≤ m = omega arith in
      let at_s = λ (q : ℕ). there_at-take h m s q sm in
      let at_k = λ (q : ℕ). there_at-take h m c.to q km in
      let early = λ (q : ℕ). ap (λ es. touches es q) (between-take h m s c.to km) in
      let n = length h in
      let parts = λ (q : ℕ). ap (λ es. touches es q) (between-append (entries_of h) s c.to n sk (omega arith))
      ∙ touches-append (between (entries_of h) s c.to) (between (entries_of h) c.to n) q in
      let created = λ (q : ℕ) (e : holds_id c.created q ≡ true). (is.created.members q).0 (Contains-holds_id c.created q e) in
      let updated = λ (q : ℕ) (e : holds_id c.updated q ≡ true). (is.updated.members q).0 (Contains-holds_id c.updated q e) in
      let destroyed = λ (q : ℕ) (e : holds_id c.destroyed q ≡ true). (is.destroyed.members q).0 (Contains-holds_id c.destroyed q e) in
      record {
        no_other = λ q e. no_other_at (map_at h s q) (map_at h c.to q) (map_at h n q) (copy q) _ _ _
            (λ e. sym (at_k q) ∙ (created q e).1)
            (λ e. sym (at_k q) ∙ (updated q e).2)
            (λ p. holds_id-Contains _ q ((is.destroyed.members q).1 (at_s q ∙ p.0, at_k q ∙ p.1)))
            (was.no_other q) e;
        agrees = λ q e. agrees_at (map_at h s q) (map_at h c.to q) (map_at h n q) (copy q) _ _ _
            (touches (between (entries_of h) s c.to) q) (touches (between (entries_of h) c.to n) q)
            (λ p. holds_id-Contains _ q ((is.created.members q).1 (at_s q ∙ p.0, at_k q ∙ p.1)))
            (λ p. holds_id-Contains _ q ((is.updated.members q).1 (early q ∙ p.0, at_s q ∙ p.1, at_k q ∙ p.2)))
            (λ e. sym (at_k q) ∙ (destroyed q e).1)
            (λ p. holds_id-Contains _ q ((is.destroyed.members q).1 (at_s q ∙ p.0, at_k q ∙ p.1)))
            (was.no_other q) (λ f. was.agrees q (parts q ∙ f)) e (map_at_untouched h c.to n q (omega arith) e);
      }

  -- what a history gains keeps a copy
  pub copies_stay : (h more : List (Touch V)) (s : ℕ) (copy : ℕ → Option V) → s ≤ length h → IsCopy copy h s → IsCopy copy (h ++ more) s
  copies_stay h more s copy sn was =
      let n = length h in
      let longer : n ≤ length (h ++ more) = omega (arith, length-append h more) in
      let same = λ (k : ℕ) (kn : k ≤ n) (q : ℕ). ap (λ ts. value_after None ts q) (take-append-le k h more kn) in
      let early : between (entries_of h) s n ≡ between (entries_of (h ++ more)) s n =
      ap (λ ts. between (entries_of ts) s n) (sym (take-append_seam h more)) ∙ between-take (h ++ more) n s n (omega arith) in
      record {
        no_other = λ q e. was.no_other q (sym (same s sn q) ∙ e);
        agrees = λ q e.
            let parts = neither _ _ (sym (touches-append (between (entries_of (h ++ more)) s n) (between (entries_of (h ++ more)) n (length (h ++ more))) q)
            ∙ sym (ap (λ es. touches es q) (between-append (entries_of (h ++ more)) s n (length (h ++ more)) sn longer)) ∙ e) in
            was.agrees q (ap (λ es. touches es q) early ∙ parts.0) ∙ sym (same n (omega arith) q) ∙ map_at_untouched (h ++ more) n (length (h ++ more)) q longer parts.1;
      }

  -- a copy with the present value of an id that the copy's map has
  pub copies_take : (h : List (Touch V)) (s id : ℕ) (copy : ℕ → Option V) → map_at h s id ≢ None → IsCopy copy h s → IsCopy (with_value id (map_at h (length h) id) copy) h s
  copies_take h s id copy has was = record {
    no_other = λ q e. elim (nat_eq id q) as (λ b. nat_eq id q ≡ b → cond b (map_at h (length h) id) (copy q) ≡ None) [
      | true ↦ λ same. absurd (has (ap (map_at h s) (eqb-true id q same) ∙ e))
      | false ↦ λ other. was.no_other q e
    ] refl;
    agrees = λ q e. elim (nat_eq id q) as (λ b. nat_eq id q ≡ b → cond b (map_at h (length h) id) (copy q) ≡ map_at h (length h) q) [
      | true ↦ λ same. ap (map_at h (length h)) (eqb-true id q same)
      | false ↦ λ other. was.agrees q e
    ] refl;
  }

  -- a copy without an id that isn't there now
  pub copies_drop : (h : List (Touch V)) (s id : ℕ) (copy : ℕ → Option V) → map_at h (length h) id ≡ None → IsCopy copy h s → IsCopy (with_value id None copy) h s
  copies_drop h s id copy gone was = record {
    no_other = λ q e. elim (nat_eq id q) as (λ b. cond b None (copy q) ≡ None) [
      | true ↦ refl
      | false ↦ was.no_other q e
    ];
    agrees = λ q e. elim (nat_eq id q) as (λ b. nat_eq id q ≡ b → cond b None (copy q) ≡ map_at h (length h) q) [
      | true ↦ λ same. sym gone ∙ ap (map_at h (length h)) (eqb-true id q same)
      | false ↦ λ other. was.agrees q e
    ] refl;
  }

  -- a client that has nothing has a copy of the first map
  pub empty_copy : (h : List (Touch V)) → IsCopy (λ _. None) h 0
  empty_copy h = record {
    no_other = λ q e. refl;
    agrees = λ q e. map_at_untouched h 0 (length h) q (omega arith) e;
  }

  -- a copy at the last place is the last map
  pub last_copy_is_map : (h : List (Touch V)) (copy : ℕ → Option V) → IsCopy copy h (length h) → (q : ℕ) → copy q ≡ map_at h (length h) q
  last_copy_is_map h copy is q = is.agrees q (ap (λ es. touches es q) (between_none (entries_of h) (length h) (length h) (omega arith)))

  -- a copy of an earlier history is one of a later
  copies_go_on : (h : List (Touch V)) (s m n : ℕ) (copy : ℕ → Option V) → s ≤ m → m ≤ n → n ≤ length h → IsCopy copy (take m h) s → IsCopy copy (take n h) s
  copies_go_on h s m n copy sm mn nh is =
      let P : List (Touch V) → Type 0 = λ ts. IsCopy copy ts s in
      subst P (sym (take-parts h m n mn)) (copies_stay (take m h) (drop m (take n h)) s copy (omega (arith, length-take-le m h (omega arith))) is)

  -- a step comes no further than the history had when it ended
  step_comes_to : (h : List (Touch V)) (s now : ℕ) (r : ClientStep) → IsClientStep h s now r → r.changes.to ≤ r.fetched
  step_comes_to h s now r is = omega (
    arith,
    is.changes.reaches.to_last,
    length-entries_from (λ _. None) (take r.answered h),
    length-take-le r.answered h (omega (arith, is.answer_first, is.by_now)),
    is.answer_first,
  )

  -- one step keeps a copy
  step_keeps : (h : List (Touch V)) (s now : ℕ) (r : ClientStep) (copy : ℕ → Option V) → s ≤ now → IsCopy copy (take now h) s → IsClientStep h s now r
      → IsCopy (applied r.changes (map_at h r.fetched) copy) (take r.fetched h) r.changes.to
  step_keeps h s now r copy sn was is =
      let later = take r.fetched h in
      let long : length later ≡ r.fetched = length-take-le r.fetched h is.by_now in
      let early : take r.answered later ≡ take r.answered h = take-take r.answered r.fetched h is.answer_first in
      let A : List (Touch V) → Type 0 = λ ts. IsChanges (entries_of ts) s r.max r.changes in
      let then : IsCopy copy later s = copies_go_on h s now r.fetched copy sn is.in_order is.by_now was in
      let to = copies_follow later r.answered s r.max r.changes copy (omega (arith, long, is.answer_first)) (subst A (sym early) is.changes) then in
      let C : List (Touch V) → Type 0 = λ ts. IsCopy (applied r.changes (λ q. value_after None ts q) copy) later r.changes.to in
      subst C (take-length later) to

  -- steps one after the other keep a copy
  pub steps_keep : (h : List (Touch V)) (s now : ℕ) (rs : List ClientStep) (copy : ℕ → Option V) → s ≤ now → now ≤ length h → IsCopy copy (take now h) s → AreClientSteps h s now rs
      → IsCopy (copy_after h copy rs) h (place_after s rs)
  steps_keep h s now [] copy sn nh was are =
      let P : List (Touch V) → Type 0 = λ ts. IsCopy copy ts s in
      subst P (take-length h) (copies_go_on h s now (length h) copy sn nh (omega arith) was)
  steps_keep h s now (r ∷ rs) copy sn nh was are =
      steps_keep h r.changes.to r.fetched rs (applied r.changes (map_at h r.fetched) copy) (step_comes_to h s now r are.0) are.0.by_now
      (step_keeps h s now r copy sn was are.0) are.1

  -- where they come to the last place, the copy is the last map
  pub steps_end : (h : List (Touch V)) (s now : ℕ) (rs : List ClientStep) (copy : ℕ → Option V) → s ≤ now → now ≤ length h → IsCopy copy (take now h) s → AreClientSteps h s now rs
      → place_after s rs ≡ length h → (q : ℕ) → copy_after h copy rs q ≡ map_at h (length h) q
  steps_end h s now rs copy sn nh was are end =
      let P : ℕ → Type 0 = λ k. IsCopy (copy_after h copy rs) h k in
      last_copy_is_map h (copy_after h copy rs) (subst P end (steps_keep h s now rs copy sn nh was are))
