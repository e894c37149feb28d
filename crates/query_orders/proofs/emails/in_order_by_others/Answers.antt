use Rattle.std.proofs.Common.{◌≡◌, List, [], Bor, drop, length, map, sym, subst, le_refl, arith, ◌∙◌, IsPermutation, drop_of_length-le}
use Rattle.std.specs.List.Sorted.{IsStrictlySortedBy}
use Rattle.std.proofs.lemmas.List.Sorted.{IsPermutation-refl, IsPermutation-trans}
use Rattle.query_conditions.specs.Entries.{emails_at}
use Rattle.query_conditions.specs.declared.entry.EmailEntry.{EmailEntry}
use Rattle.query_orders.specs.declared.comparators.EmailComparator.{EmailComparator}
use Rattle.query_orders.specs.reading.Keys.{IsStableSort}
use Rattle.query_orders.specs.reading.Rows.{emails_by, emails_in_order}
use Rattle.query_orders.proofs.PairLemmas.{rows_in_order, themselves}
use Rattle.query_orders.proofs.RowLemmas.{emails_by_number, emails_more}
use Rattle.query_orders.proofs.emails.in_order_by_others.Goals as goal

pub loop-left-init : goal.loop-left-init
loop-left-init c =
    let cs : List (Bor EmailComparator) = c.args.comparators.now in
    let none : drop (length cs) cs ≡ [] = drop_of_length-le cs (le_refl _) in record {
      within = omega arith;
      first = λ some. some;
      permutation = IsPermutation-refl c.args.rows.items;
      sorted = λ up.
          subst (λ (rest : List (Bor EmailComparator)). IsStrictlySortedBy (emails_in_order (emails_at c.args.emails.now) (map (λ (d : Bor EmailComparator). d.now) rest)) c.args.rows.items)
          (sym none) (emails_by_number (emails_at c.args.emails.now) c.args.rows.items up);
    }

pub loop-left-preserved : goal.loop-left-preserved
loop-left-preserved c =
    let l = c.loop-left in
    let E = emails_at c.args.emails.now in
    let rows : List EmailEntry = c.deref.result.now in
    let values : List EmailEntry = c.deref-in-loop-left.result.now in
    let new : List EmailEntry = c.in_ok-rows.rows.items in
    let same : values ≡ map (λ (e : EmailEntry). e) rows = c.deref-in-loop-left.ensures.value ∙ sym c.deref.ensures.value ∙ themselves rows in
    let sorts = rows_in_order (emails_by E c.index-comparators-left.result.now) rows new (c.in_ok-rows.ensures (λ e. e) same) in
    let permutes : IsPermutation l.rows.items new = subst (λ (es : List EmailEntry). IsPermutation es new) c.deref.ensures.value sorts.0 in
    let stably = subst (λ (es : List EmailEntry). IsStableSort (emails_by E c.index-comparators-left.result.now) es new) c.deref.ensures.value sorts.1 in record {
      within = omega (arith, l.invariant.within);
      first = λ some. omega (arith, c.loop-left-test.true);
      permutation = IsPermutation-trans _ _ _ l.invariant.permutation permutes;
      sorted = λ up.
          emails_more E c.args.comparators.now l.left c.index-comparators-left.result l.rows.items new
          (omega (arith, c.loop-left-test.true)) l.invariant.within c.index-comparators-left.is (l.invariant.sorted up) stably;
    }
