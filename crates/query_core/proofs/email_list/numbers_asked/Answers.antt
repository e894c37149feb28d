use Rattle.std.proofs.Common.{List, Bool, map, sym, ap, ◌∙◌}
use Rattle.std.proofs.lemmas.Result.{IfOk-weaker}
use Rattle.query_lists.specs.Groups.{first_of_each}
use Rattle.query_lists.specs.declared.groups.GroupedRow.{GroupedRow}
use Rattle.query_core.specs.Lists.{collapsed_if}
use Rattle.query_core.proofs.email_list.numbers_asked.Goals as goal

pub returns-in_ok-grouped : goal.returns-in_ok-grouped
returns-in_ok-grouped c = λ up.
    let listed = c.in_ok-grouped.ensures.listed up in
    IfOk-weaker c.first_of_threads.result _ _
    (λ v are. record {
      sorted = listed.sorted;
      permutes = listed.permutes;
      ascends = listed.ascends;
      are = are ∙ ap (λ (rs : List GroupedRow). map (λ (r : GroupedRow). r.number) (first_of_each rs)) (c.deref.ensures.value ∙ listed.are)
          ∙ ap (λ (b : Bool). collapsed_if b listed.sorted) (sym c.if-collapses.true);
    })
    c.first_of_threads.ensures

pub returns-else-collapses : goal.returns-else-collapses
returns-else-collapses c = λ up.
    IfOk-weaker c.numbers_in_order.result _ _
    (λ v listed. record {
      sorted = listed.sorted;
      permutes = listed.permutes;
      ascends = listed.ascends;
      are = listed.are ∙ ap (λ (b : Bool). collapsed_if b listed.sorted) (sym c.if-collapses.false);
    })
    (c.numbers_in_order.ensures.listed up)
