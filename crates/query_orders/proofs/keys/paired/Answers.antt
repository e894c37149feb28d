use Rattle.std.proofs.Common.{◌≡◌, [], ◌++◌, drop, sym, ap, ◌∙◌, arith}
use Rattle.std.specs.List.{zip}
use Rattle.std.specs.Vec.Iter.{into_iter_items}
use Rattle.std.proofs.Common.{drop_of_length-le}
use Rattle.std.proofs.lemmas.List.{append-nil}
use Rattle.query_orders.proofs.PairLemmas.{zip_none}
use Rattle.query_orders.proofs.keys.paired.Goals as goal

pub returns : goal.returns
returns g c =
    let l = c.loop-value in
    let none : drop l.value-index c.args.values.now ≡ [] = drop_of_length-le c.args.values.now (omega (arith, c.loop-value-test.false)) in
    let rest : zip (into_iter_items l.keys) (drop l.value-index c.args.values.now) ≡ [] = ap (zip (into_iter_items l.keys)) none ∙ zip_none (into_iter_items l.keys) in
    sym (append-nil l.pairs.items) ∙ ap (λ ps. l.pairs.items ++ ps) (sym rest) ∙ l.invariant
