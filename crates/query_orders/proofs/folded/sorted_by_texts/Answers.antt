use Rattle.std.proofs.Common.{List, ℕ, Option, IfOk, nat_cmp, subst}
use Rattle.std.specs.Cmp.Lexicographic.{slice_cmp}
use Rattle.std.specs.Option.{option_cmp}
use Rattle.query_orders.specs.reading.Keys.{IsSortedByKeys}
use Rattle.query_orders.proofs.folded.sorted_by_texts.Goals as goal

pub returns : goal.returns
returns g c =
    subst (λ (keys : List (Option (List ℕ))). IfOk c.sorted_by_keys.result (λ v. IsSortedByKeys c.args.is_ascending (option_cmp (slice_cmp nat_cmp)) keys c.args.values.now v.items))
    c.in_ok-keys.ensures c.sorted_by_keys.ensures
