use Rattle.std.proofs.Common.{Bool, of_calls, rules, subst, is_lt}
use Rattle.std.proofs.lemmas.Fn.{always_returns_same}
use Rattle.std.proofs.lemmas.List.MinMax.{IsStrictWeakOrder-flip, ranks_by}
use Rattle.std.proofs.lemmas.Result.{on_ok_weaker}
use Rattle.query_orders.specs.reading.Keys.{IsStableSort}
use Rattle.query_orders.proofs.PairLemmas.{ascending, descending}
use Rattle.query_orders.proofs.keys.sort_pairs.Goals as goal

pub returns-then-is_ascending-clause-sorted : goal.returns-then-is_ascending-clause-sorted
returns-then-is_ascending-clause-sorted g c =
    let call = c.sort_by in
    let Pair : Type 0 = g.row.K.Denot × g.row.V.Denot in
    let lt : Pair → Pair → Bool = λ x y. is_lt (g.K.Ord.cmp x.0 y.0) in
    let compares = always_returns_same _ _ _ (λ a r f' called. search (rules, of_calls)) in
    on_ok_weaker call.result
    (λ up.
    subst (λ R. IsStableSort R c.args.pairs.now.items call.new.self.items)
    (ascending g.K.Ord.cmp (λ (p : Pair). p.0) c.args.is_ascending c.if-is_ascending.true)
    (record { ascends = up lt (ranks_by g.met.K.Ord.total (λ (p : Pair). p.0)) compares; stays = call.ensures.stable lt (ranks_by g.met.K.Ord.total (λ (p : Pair). p.0)) compares }))
    call.ensures.sorted

pub returns-else-is_ascending-clause-sorted : goal.returns-else-is_ascending-clause-sorted
returns-else-is_ascending-clause-sorted g c =
    let call = c.sort_by-else-is_ascending in
    let Pair : Type 0 = g.row.K.Denot × g.row.V.Denot in
    let by : Pair → Pair → Bool = λ x y. is_lt (g.K.Ord.cmp x.0 y.0) in
    let lt : Pair → Pair → Bool = λ x y. is_lt (g.K.Ord.cmp y.0 x.0) in
    let weak = IsStrictWeakOrder-flip by (ranks_by g.met.K.Ord.total (λ (p : Pair). p.0)) in
    let compares = always_returns_same _ _ _ (λ a r f' called. search (rules, of_calls)) in
    on_ok_weaker call.result
    (λ up.
    subst (λ R. IsStableSort R c.args.pairs.now.items call.new.self.items)
    (descending g.K.Ord.cmp g.met.K.Ord.total (λ (p : Pair). p.0) c.args.is_ascending c.if-is_ascending.false)
    (record { ascends = up lt weak compares; stays = call.ensures.stable lt weak compares }))
    call.ensures.sorted
