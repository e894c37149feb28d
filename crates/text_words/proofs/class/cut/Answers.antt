use Rattle.std.proofs.Common.{◌≡◌, List, true, false, ◌∙◌, subst, arith}
use Rattle.std.proofs.lemmas.List.{take_all, drop_all}
use Rattle.text_words.specs.Cuts.{Each}
use Rattle.text_words.proofs.CutLemmas.{each_more, cut_here, cut_at_end}
use Rattle.text_words.proofs.class.cut.Goals as goal

pub returns-then-not-has-clause-front : goal.returns-then-not-has-clause-front
returns-then-not-has-clause-front g c =
    let x = c.index-items-i.result in
    let f : g.C.Class.test x ≡ false = cc in
    let h = cut_here g.C.Class.test c.args.items.now c.loop-i.i x c.loop-i-test.true c.loop-i.invariant c.index-items-i.is f in
    c.split_at.ensures.front ∙ h.front

pub returns-then-not-has-clause-back : goal.returns-then-not-has-clause-back
returns-then-not-has-clause-back g c =
    let x = c.index-items-i.result in
    let f : g.C.Class.test x ≡ false = cc in
    let h = cut_here g.C.Class.test c.args.items.now c.loop-i.i x c.loop-i-test.true c.loop-i.invariant c.index-items-i.is f in
    c.split_at.ensures.back ∙ h.back

pub loop-i-preserved : goal.loop-i-preserved
loop-i-preserved g c =
    let x = c.index-items-i.result in
    let f : g.C.Class.test x ≡ true = cc in
    each_more g.C.Class.test c.args.items.now c.loop-i.i x c.loop-i-test.true c.loop-i.invariant c.index-items-i.is f

pub returns-clause-front : goal.returns-clause-front
returns-clause-front g c =
    let b = c.args.items.now in
    let all = take_all c.loop-i.i b (omega arith) in
    let P = λ (u : List _). Each g.C.Class.test u in
    let h = cut_at_end g.C.Class.test b (subst P all c.loop-i.invariant) in
    c.split_at-2.ensures.front ∙ take_all _ b (omega arith) ∙ h.front

pub returns-clause-back : goal.returns-clause-back
returns-clause-back g c =
    let b = c.args.items.now in
    let all = take_all c.loop-i.i b (omega arith) in
    let P = λ (u : List _). Each g.C.Class.test u in
    let h = cut_at_end g.C.Class.test b (subst P all c.loop-i.invariant) in
    c.split_at-2.ensures.back ∙ drop_all _ b (omega arith) ∙ h.back
