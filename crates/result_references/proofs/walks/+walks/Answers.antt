use Rattle.std.proofs.Common.{◌≡◌, ◌+◌, Some, None, option_map, sym, ap, ◌∙◌, arith, rules}
use Rattle.serde_json.specs.View.{view, items_view}
use Rattle.result_references.specs.reading.Reaching.{AtEnd, AtStar, reached, reached_data, segments_in}
use Rattle.result_references.proofs.Reached.{walked-reach}
use Rattle.result_references.proofs.walks.+walks.Goals as goal

pub walked_at-returns-in-None : goal.walked_at-returns-in-None
walked_at-returns-in-None t c =
    let leads : None ≡ reached (segments_in c.args.path.now) (view c.args.value.now) = sym (ap (option_map reached_data) c.in-None.is) ∙ c.in_ok-follow.ensures.leads in
    (omega (arith, walked-reach (segments_in c.args.path.now) (view c.args.value.now) None leads), search rules)

pub walked_at-returns-in-Some-End : goal.walked_at-returns-in-Some-End
walked_at-returns-in-Some-End t c =
    let leads : Some (AtEnd (view c.in-Some-End.field-0-0.now)) ≡ reached (segments_in c.args.path.now) (view c.args.value.now) =
    sym (ap (option_map reached_data) (c.in-Some-End.is ∙ ap Some c.in-Some-End.field-0-is)) ∙ c.in_ok-follow.ensures.leads in
    (omega (arith, walked-reach (segments_in c.args.path.now) (view c.args.value.now) (Some (AtEnd (view c.in-Some-End.field-0-0.now))) leads), search rules)

pub walked_at-returns-in-Some-Star : goal.walked_at-returns-in-Some-Star
walked_at-returns-in-Some-Star t c =
    let star = c.in-Some-Star.star in
    let leads : Some (AtStar (items_view star.items.now.items) (segments_in star.behind.now)) ≡ reached (segments_in c.args.path.now) (view c.args.value.now) =
    sym (ap (option_map reached_data) (c.in-Some-Star.is ∙ ap Some c.in-Some-Star.field-0-is)) ∙ c.in_ok-follow.ensures.leads in
    rw (walked-reach (segments_in c.args.path.now) (view c.args.value.now) (Some (AtStar (items_view star.items.now.items) (segments_in star.behind.now))) leads) c.walked_in.ensures
