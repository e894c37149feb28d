use Rattle.std.proofs.Common.{◌≡◌, ap, sym, ◌∙◌, length, true, eqb, eqb-true, eq-eqb}
use Rattle.std.proofs.lemmas.List.{nil_from_length}
use Rattle.text_words.proofs.CutLemmas.{nothing_behind, all_before, all_is}
use Rattle.text_words.proofs.class.are_all.Goals as goal

pub returns-clause-each : goal.returns-clause-each
returns-clause-each g c =
    let p = g.C.Class.test in
    let b = c.args.items.now in
    let rest = c.cut.result.1.now in (
      λ t. nothing_behind p b (sym c.cut.ensures.back ∙ nil_from_length rest (let e : eqb (length rest) 0 ≡ true = cc in eqb-true (length rest) 0 e)),
      λ e. let a = ap length (c.cut.ensures.back ∙ all_before p b e) in let n : eqb (length rest) 0 ≡ true = eq-eqb (length rest) 0 a in cc,
    )

pub returns-clause-test : goal.returns-clause-test
returns-clause-test g c =
    let p = g.C.Class.test in
    let b = c.args.items.now in
    let rest = c.cut.result.1.now in
    all_is p b c.is_empty.result
    (λ t. nothing_behind p b (sym c.cut.ensures.back ∙ nil_from_length rest (let e : eqb (length rest) 0 ≡ true = cc in eqb-true (length rest) 0 e)))
    (λ e. let a = ap length (c.cut.ensures.back ∙ all_before p b e) in let n : eqb (length rest) 0 ≡ true = eq-eqb (length rest) 0 a in cc)
