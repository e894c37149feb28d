use Rattle.std.proofs.Common.{◌≡◌, ℕ, List, ◌++◌, length, eqb, eqb-true, eq-eqb, true, false, sym, ap, ◌∙◌, subst}
use Rattle.std.proofs.lemmas.List.{nil_from_length}
use Rattle.text_words.specs.Cuts.{Each, front, back}
use Rattle.text_words.proofs.CutLemmas.{front_back, front_each, run_cut}
use Rattle.text_words.proofs.parts.run_before.Goals as goal

pub returns-then-is_empty : goal.returns-then-is_empty
returns-then-is_empty g c = λ x y r e.
    let p = g.C.Class.test in
    let k = run_cut p x y c.args.stop r.0 c.requires in
    let q : eqb (length c.cut.result.0.now) 0 ≡ true = cc in
    r.1 (k.front ∙ ap (front p) (sym e) ∙ sym c.cut.ensures.front ∙ nil_from_length c.cut.result.0.now (eqb-true _ 0 q))

pub returns-in-None : goal.returns-in-None
returns-in-None g c = λ x y r e.
    let p = g.C.Class.test in
    let k = run_cut p x y c.args.stop r.0 c.requires in
    c.in-None.ensures y (c.cut.ensures.back ∙ ap (back p) e ∙ sym k.back)

pub returns-in-Some : goal.returns-in-Some
returns-in-Some g c =
    let p = g.C.Class.test in
    let t = c.args.text.now in
    let P : List ℕ → Type 0 = λ u. Each p u in
    let q : eqb (length c.cut.result.0.now) 0 ≡ false = cc in
    let e = c.in-Some.ensures in (
      (subst P (sym c.cut.ensures.front) (front_each p t), λ n. let z = eq-eqb (length c.cut.result.0.now) 0 (ap length n) in absurd cc),
      front_back p t ∙ ap (λ (u : List ℕ). u ++ back p t) (sym c.cut.ensures.front) ∙ ap (λ (u : List ℕ). c.cut.result.0.now ++ u) (sym c.cut.ensures.back ∙ e),
    )
