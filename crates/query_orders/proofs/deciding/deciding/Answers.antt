use Rattle.std.proofs.Common.{◌≡◌, ◌++◌, ◌∷◌, ◌+◌, ℕ, List, [], Bor, drop, map, sym, ap, ◌∙◌, append-nil, drop_of_length-le}
use Rattle.std.proofs.lemmas.List.{drop_more}
use Rattle.query_orders.specs.Emails.{email_cmp}
use Rattle.query_orders.specs.declared.comparators.EmailComparator.{EmailComparator}
use Rattle.query_orders.proofs.deciding.deciding.Goals as goal

pub loop-comparator-preserved : goal.loop-comparator-preserved
loop-comparator-preserved c =
    let all : List EmailComparator = c.args.comparators.now in
    let i : ℕ = c.loop-comparator.comparator-index in
    let item : EmailComparator = c.comparator-item.result in
    let kept : List EmailComparator = map (λ (d : Bor EmailComparator). d.now) c.loop-comparator.kept.items in
    let rest : List EmailComparator = drop (i + 1) all in
    let here : drop i all ≡ item ∷ rest = drop_more all i item c.loop-comparator-test.true ∙ ap (λ (d : EmailComparator). d ∷ rest) (sym c.comparator-item.is) in record {
      seen = c.in_ok-keep.ensures.seen;
      same = λ emails a b.
          c.in_ok-keep.ensures.same emails rest a b ∙ sym (ap (λ (cs : List EmailComparator). email_cmp emails (kept ++ cs) a b) here) ∙ c.loop-comparator.invariant.same emails a b;
    }

pub returns : goal.returns
returns c = λ emails a b.
    let kept : List EmailComparator = map (λ (d : Bor EmailComparator). d.now) c.loop-comparator.kept.items in
    let none : drop c.loop-comparator.comparator-index c.args.comparators.now ≡ [] = drop_of_length-le c.args.comparators.now c.loop-comparator-test.false in
    sym (ap (λ (cs : List EmailComparator). email_cmp emails cs a b) (ap (λ (cs : List EmailComparator). kept ++ cs) none ∙ append-nil kept))
    ∙ c.loop-comparator.invariant.same emails a b
