use Rattle.std.proofs.Common.{◌≡◌, ◌+◌, List, ◌∷◌, ◌++◌, true, false, drop, get_or, sym, ap, ◌∙◌}
use Rattle.std.proofs.lemmas.List.{drop_more}
use Rattle.query_lists.specs.Groups.{first_of_each}
use Rattle.query_lists.specs.declared.groups.GroupedRow.{GroupedRow}
use Rattle.query_lists.proofs.GroupLemmas.{has_group, rows_left, none_left, none_seen, seen_before, seen_first, seen_too, seen_still, not_true, not_false}
use Rattle.query_lists.proofs.groups.first_of_each.Goals as goal
use Rattle.query_lists.proofs.groups.first_of_each.Goals.{then-new+in_ok-push, else-new}

pub loop-row-init : goal.loop-row-init
loop-row-init c = record {
  seen = none_seen c.new-seen.result c.new-first.result.items c.new-seen.ensures.empty c.new-first.ensures.items;
  first = sym (ap (λ (xs : List GroupedRow). xs ++ rows_left xs (first_of_each c.args.rows.now)) c.new-first.ensures.items ∙ none_left (first_of_each c.args.rows.now));
}

pub loop-row-preserved : goal.loop-row-preserved
loop-row-preserved c =
    let rows : List GroupedRow = c.args.rows.now in
    let i = c.loop-row.row-index in
    let none : GroupedRow = record { number = 0; group = 0 } in
    let row : GroupedRow = get_or rows i none in
    let rest : List GroupedRow = drop (i + 1) rows in
    let first : List GroupedRow = c.loop-row.first.items in
    let so_far : first_of_each rows ≡ first ++ rows_left first (first_of_each (row ∷ rest)) =
    c.loop-row.invariant.first ∙ ap (λ (xs : List GroupedRow). first ++ rows_left first (first_of_each xs)) (drop_more rows i none c.loop-row-test.true) in
    elim c.if-new.branch [
      | then-new+in_ok-push w ↦
          let new : has_group first row.group ≡ false = sym (c.loop-row.invariant.seen row.group) ∙ not_true _ (sym c.in_ok-new.ensures.new ∙ w.if-new.true) in
          rw (w.first-is, w.in_ok-push.ensures.items) (record {
            seen = λ group. c.in_ok-new.ensures.seen group ∙ seen_too first row group _ (c.loop-row.invariant.seen group);
            first = seen_first rows rest first row so_far new;
          })
      | else-new w ↦
          let there : has_group first row.group ≡ true = sym (c.loop-row.invariant.seen row.group) ∙ not_false _ (sym c.in_ok-new.ensures.new ∙ w.if-new.false) in
          rw w.first-is (record {
            seen = λ group. c.in_ok-new.ensures.seen group ∙ seen_still first row.group group _ there (c.loop-row.invariant.seen group);
            first = seen_before rows rest first row so_far there;
          })
    ]
