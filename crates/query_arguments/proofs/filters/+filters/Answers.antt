use Rattle.std.proofs.lemmas.Result.{IfOk-weaker}
use Rattle.query_arguments.proofs.ArrayLemmas.{filters_of_array}
use Rattle.query_arguments.proofs.filters.+filters.Goals as goal

pub filters_of-returns-in_ok-parts-in-Array : goal.filters_of-returns-in_ok-parts-in-Array
filters_of-returns-in_ok-parts-in-Array g t c =
    let parts = c.in_ok-parts-in-Array in
    IfOk-weaker c.each_read.result _ _ (λ r read.
    filters_of_array g.C.Condition.condition_in c.args.value.now c.in-Array.items parts.parts.items r c.in-Array.is parts.ensures read) c.each_read.ensures
