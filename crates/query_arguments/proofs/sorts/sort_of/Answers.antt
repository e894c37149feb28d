use Rattle.std.proofs.lemmas.Result.{IfOk-weaker}
use Rattle.query_arguments.proofs.ArrayLemmas.{sort_of_array}
use Rattle.query_arguments.proofs.sorts.sort_of.Goals as goal

pub returns-in_ok-parts-in-Array : goal.returns-in_ok-parts-in-Array
returns-in_ok-parts-in-Array g c =
    let parts = c.in_ok-parts-in-Array in
    IfOk-weaker c.each_read.result _ _ (λ r read.
    sort_of_array g.S.Comparator.comparator_in c.args.value.now c.in-Array.items parts.parts.items r c.in-Array.is parts.ensures read) c.each_read.ensures
