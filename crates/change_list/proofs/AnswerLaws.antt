-- A history, a place and a limit determine the answer, and answers come on.
use Rattle.std.proofs.Common.{◌≡◌, ◌≢◌, ◌↔◌, ℕ, suc, ◌+◌, ◌<◌, ◌≤◌, List, [], ◌∷◌, Bool, true, false, cond, IsTrue, take, length, Option, Some, None, refl, sym, ap, subst, ◌∙◌}
use Rattle.std.proofs.Common.{arith}
use Rattle.std.specs.Option.{ForSome}
use Rattle.std.proofs.lemmas.List.{length-drop, length-take-le}
use Rattle.change_list.specs.Touches.{between, touches, counts_alone}
use Rattle.change_list.specs.reading.Seen.{touched_count, fresh_count}
use Rattle.change_list.specs.Changes.{IsChanges, Lists, IsWithin, Reaches, IsCreated, IsUpdated, IsDestroyed}
use Rattle.change_list.specs.declared.entries.Entry.{Entry}
use Rattle.change_list.specs.declared.answer.Changes.{Changes}
use Rattle.change_list.proofs.Ascending.{same_listed, same_marks}
use Rattle.change_list.proofs.Counting.{ids_listed, count_listed}

-- two greatest places are one
same_reach : (h : List Entry) (s : ℕ) (max : Option ℕ) (k l : ℕ) → Reaches h s max k → Reaches h s max l → k ≡ l
same_reach h s max k l a b = omega (arith, a.greatest l b.to_last b.within, b.greatest k a.to_last a.within)

-- two answers are one
pub one_answer : (h : List Entry) (s : ℕ) (max : Option ℕ) (c d : Changes) → IsChanges h s max c → IsChanges h s max d → c ≡ d
one_answer h s max c d a b =
    let to : d.to ≡ c.to = same_reach h s max d.to c.to b.reaches a.reaches in
    let C : ℕ → Type 0 = λ k. Lists d.created (IsCreated h s k) in
    let U : ℕ → Type 0 = λ k. Lists d.updated (IsUpdated h s k) in
    let D : ℕ → Type 0 = λ k. Lists d.destroyed (IsDestroyed h s k) in
    let O : ℕ → Type 0 = λ k. IsTrue d.counts_only ↔ ((d.updated ≢ []) × ((q : ℕ) → IsUpdated h s k q → counts_alone (between h s k) q ≡ true)) in
    let created : c.created ≡ d.created = same_listed _ _ _ a.created (subst C to b.created) in
    let updated : c.updated ≡ d.updated = same_listed _ _ _ a.updated (subst U to b.updated) in
    let destroyed : c.destroyed ≡ d.destroyed = same_listed _ _ _ a.destroyed (subst D to b.destroyed) in
    let P : List ℕ → Type 0 = λ us. IsTrue d.counts_only ↔ ((us ≢ []) × ((q : ℕ) → IsUpdated h s c.to q → counts_alone (between h s c.to) q ≡ true)) in
    let counts_only : c.counts_only ≡ d.counts_only = same_marks c.counts_only d.counts_only _ a.counts_only (subst P (sym updated) (subst O to b.counts_only)) in
    let made : ℕ → List ℕ → List ℕ → List ℕ → Bool → Changes = λ k xs ys zs m. record { to = k; created = xs; updated = ys; destroyed = zs; counts_only = m } in
    ap (λ k. made k c.created c.updated c.destroyed c.counts_only) (sym to)
    ∙ ap (λ xs. made d.to xs c.updated c.destroyed c.counts_only) created
    ∙ ap (λ xs. made d.to d.created xs c.destroyed c.counts_only) updated
    ∙ ap (λ xs. made d.to d.created d.updated xs c.counts_only) destroyed
    ∙ ap (λ m. made d.to d.created d.updated d.destroyed m) counts_only

-- no more ids are touched than there are touches
fresh_at_most : (before es : List Entry) → fresh_count before es ≤ length es
fresh_at_most before [] = omega arith
fresh_at_most before (e ∷ es) = elim (touches before e.id) as (λ b. cond b (fresh_count before es) (suc (fresh_count (e ∷ before) es)) ≤ suc (length es)) [
  | true ↦ omega (arith, fresh_at_most before es)
  | false ↦ omega (arith, fresh_at_most (e ∷ before) es)
]

-- one touch touches one id
one_touched : (h : List Entry) (s : ℕ) → s < length h → touched_count (between h s (s + 1)) ≤ 1
one_touched h s inside = omega (arith, fresh_at_most [] (between h s (s + 1)), length-drop s (take (s + 1) h), length-take-le (s + 1) h (omega arith))

-- where an id may be touched, and the type has gone on, an answer goes on
pub answers_go_on : (h : List Entry) (s : ℕ) (max : Option ℕ) (c : Changes) → IsChanges h s max c → ForSome max (λ most. 0 < most) → s < length h → s < c.to
answers_go_on h s max c is some inside =
    let one : IsWithin max h s (s + 1) = elim max as (λ m. ForSome m (λ most. 0 < most) → IsWithin m h s (s + 1)) [
      | None ↦ λ f. tt
      | Some most ↦ λ f. (let ids = ids_listed (between h s (s + 1)) in
          (ids.0, ids.1, omega (arith, f most refl, one_touched h s inside, count_listed (between h s (s + 1)) ids.0 ids.1)))
    ] some in
    omega (arith, is.reaches.greatest (s + 1) (omega arith) one)
