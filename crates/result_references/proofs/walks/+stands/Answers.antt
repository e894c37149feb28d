use Rattle.std.proofs.Common.{◌≡◌, Some, None, is_some, option_map, sym, ap, ◌∙◌}
use Rattle.serde_json.specs.View.{view, items_view}
use Rattle.result_references.specs.reading.Reaching.{AtEnd, AtStar, reached, reached_data, segments_in}
use Rattle.result_references.proofs.Reached.{copied-reach, stands-star}
use Rattle.result_references.proofs.walks.+stands.Goals as goal

pub stands_at-returns-in-None : goal.stands_at-returns-in-None
stands_at-returns-in-None t c =
    let leads : None ≡ reached (segments_in c.args.path.now) (view c.args.value.now) = sym (ap (option_map reached_data) c.in-None.is) ∙ c.in_ok-follow.ensures.leads in
    sym (ap is_some (copied-reach (segments_in c.args.path.now) (view c.args.value.now) None leads))

pub stands_at-returns-in-Some-End : goal.stands_at-returns-in-Some-End
stands_at-returns-in-Some-End t c =
    let leads : Some (AtEnd (view c.in-Some-End.field-0-0.now)) ≡ reached (segments_in c.args.path.now) (view c.args.value.now) =
    sym (ap (option_map reached_data) (c.in-Some-End.is ∙ ap Some c.in-Some-End.field-0-is)) ∙ c.in_ok-follow.ensures.leads in
    sym (ap is_some (copied-reach (segments_in c.args.path.now) (view c.args.value.now) (Some (AtEnd (view c.in-Some-End.field-0-0.now))) leads))

pub stands_at-returns-in-Some-Star : goal.stands_at-returns-in-Some-Star
stands_at-returns-in-Some-Star t c =
    let star = c.in-Some-Star.star in
    let leads : Some (AtStar (items_view star.items.now.items) (segments_in star.behind.now)) ≡ reached (segments_in c.args.path.now) (view c.args.value.now) =
    sym (ap (option_map reached_data) (c.in-Some-Star.is ∙ ap Some c.in-Some-Star.field-0-is)) ∙ c.in_ok-follow.ensures.leads in
    rw (stands-star (segments_in c.args.path.now) (view c.args.value.now) (items_view star.items.now.items) (segments_in star.behind.now) leads) c.stands_in_each.ensures
