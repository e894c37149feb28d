use Rattle.std.proofs.Common.{◌≡◌, ◌+◌, Some, None, Option, List, drop, option_map, option_and_then, sym, ap, ◌∙◌}
use Rattle.serde_json.specs.Data.{Data, Items, item, array}
use Rattle.serde_json.specs.View.{view, items_view}
use Rattle.serde_json.specs.declared.value.Value.{Value}
use Rattle.serde_json.proofs.Views.{view-Array}
use Rattle.result_references.specs.References.{at_segments, items_append, joined, mapped}
use Rattle.result_references.specs.reading.Reaching.{AtEnd, AtStar, reached, reached_data, segments_in}
use Rattle.result_references.proofs.Paths.{items_append-none, step-more, drop-item, none-left}
use Rattle.result_references.proofs.Reached.{copied-reach}
use Rattle.result_references.proofs.pointer.+path.Goals as goal

pub at_each-loop-item-preserved : goal.at_each-loop-item-preserved
at_each-loop-item-preserved t c =
    let l = c.loop-item in
    let vs = c.deref-item-items.result.now in
    let f = at_segments (segments_in c.args.path.now) in
    let found = items_view l.found.items in
    let rest = items_view (drop (l.item-index + 1) vs) in
    let next : items_view (drop l.item-index vs) ≡ item (view c.item-item.result) rest = drop-item vs l.item-index c.item-item.result c.loop-item-test.true c.item-item.is in
    let gave : f (view c.item-item.result) ≡ Some (view c.in-Some.value) = sym c.in_ok-value.ensures ∙ ap (option_map view) c.in-Some.is in
    l.invariant
    ∙ ap (λ (ds : Items). option_map (items_append found) (mapped f ds)) next
    ∙ ap (λ (o : Option Data). option_map (items_append found) (option_and_then (λ e. option_map (joined e) (mapped f rest)) o)) gave
    ∙ step-more found (view c.in-Some.value) (mapped f rest)
    ∙ ap (λ (new : Items). option_map (items_append new) (mapped f rest)) (sym c.in_ok-join.ensures)

pub at_each-returns : goal.at_each-returns
at_each-returns t c =
    let l = c.loop-item in
    let f = at_segments (segments_in c.args.path.now) in
    let found = items_view l.found.items in
    let vs = c.deref-item-items.result.now in
    let all : mapped f (items_view vs) ≡ Some found =
    l.invariant
    ∙ ap (λ (ws : List Value). option_map (items_append found) (mapped f (items_view ws))) (none-left vs l.item-index c.loop-item-test.false)
    ∙ ap Some (items_append-none found) in
    ap Some (view-Array l.found) ∙ ap (option_map array) (sym all ∙ ap (λ (ws : List Value). mapped f (items_view ws)) c.deref-item-items.ensures.value)

pub copy_at-returns-in-None : goal.copy_at-returns-in-None
copy_at-returns-in-None t c =
    let leads : None ≡ reached (segments_in c.args.path.now) (view c.args.value.now) = sym (ap (option_map reached_data) c.in-None.is) ∙ c.in_ok-follow.ensures.leads in
    sym (copied-reach (segments_in c.args.path.now) (view c.args.value.now) None leads)

pub copy_at-returns-in_ok-clone-in-Some-End : goal.copy_at-returns-in_ok-clone-in-Some-End
copy_at-returns-in_ok-clone-in-Some-End t c =
    let leads : Some (AtEnd (view c.in-Some-End.found.now)) ≡ reached (segments_in c.args.path.now) (view c.args.value.now) =
    sym (ap (option_map reached_data) (c.in-Some-End.is ∙ ap Some c.in-Some-End.field-0-is)) ∙ c.in_ok-follow.ensures.leads in
    ap Some c.in_ok-clone-in-Some-End.ensures.cases ∙ sym (copied-reach (segments_in c.args.path.now) (view c.args.value.now) (Some (AtEnd (view c.in-Some-End.found.now))) leads)

pub copy_at-returns-in-Some-Star : goal.copy_at-returns-in-Some-Star
copy_at-returns-in-Some-Star t c =
    let star = c.in-Some-Star.star in
    let leads : Some (AtStar (items_view star.items.now.items) (segments_in star.behind.now)) ≡ reached (segments_in c.args.path.now) (view c.args.value.now) =
    sym (ap (option_map reached_data) (c.in-Some-Star.is ∙ ap Some c.in-Some-Star.field-0-is)) ∙ c.in_ok-follow.ensures.leads in
    rw (copied-reach (segments_in c.args.path.now) (view c.args.value.now) (Some (AtStar (items_view star.items.now.items) (segments_in star.behind.now))) leads) c.at_each.ensures
