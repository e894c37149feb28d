use Rattle.std.proofs.Common.{◌≡◌, ◌+◌, ℕ, ap, subst, arith, sym, ◌∙◌, None, List, drop, length, Bool}
use Rattle.std.proofs.lemmas.List.{drop-drop}
use Rattle.change_list.specs.reading.Seen.{Gathered}
use Rattle.change_list.specs.TouchedIds.{AreTouched}
use Rattle.change_list.specs.Kept.{front_of}
use Rattle.change_list.specs.declared.entries.Entry.{Entry}
use Rattle.change_list.proofs.FromTouched.{touched_from}
use Rattle.change_list.proofs.list.ChangeList.touched.Goals as goal

pub returns-clause-ids : goal.returns-clause-ids
returns-clause-ids c h of fits =
    let start = c.in_ok-start.start in
    let front = front_of (length h) in
    let sum : front + start ≡ c.args.place = omega (arith, of.place, c.in_ok-start.ensures.index) in
    let rest : drop start c.self.inside.ring.items ≡ drop c.args.place h =
    ap (drop start) (ap (λ k. k.entries) c.self.view_is ∙ of.entries) ∙ drop-drop start front h ∙ ap (λ (n : ℕ). drop n h) sum in
    let G : List Entry → Type 0 = λ es. Gathered es None c.in_ok-seen.seen c.in_ok-seen._taken in
    let A : List (ℕ × Bool) → Type 0 = AreTouched h c.args.place in
    subst A (sym (c.from_vec.ensures ∙ c.in_ok-ids.ensures.items))
    (touched_from h c.args.place c.in_ok-seen._taken c.in_ok-seen.seen fits (omega (arith, of.place, c.in_ok-start.ensures.refused.to_last)) c.in_ok-ids.ensures.ordered
    (subst G rest c.in_ok-seen.ensures))
