use Rattle.std.proofs.Common.{◌≡◌, ◌+◌, Some, None, option_map, sym, ap, ◌∙◌, arith}
use Rattle.serde_json.specs.View.{view, items_view}
use Rattle.result_references.specs.reading.Counting.{joined_in, joined_at}
use Rattle.result_references.specs.reading.Reaching.{AtEnd, AtStar, reached, reached_data, segments_in}
use Rattle.result_references.proofs.Reached.{octets-reach}
use Rattle.result_references.proofs.walks.octets_at.Goals as goal

pub returns-in-None : goal.returns-in-None
returns-in-None c =
    let leads : None ≡ reached (segments_in c.args.path.now) (view c.args.value.now) = sym (ap (option_map reached_data) c.in-None.is) ∙ c.in_ok-follow.ensures.leads in
    (omega (arith, octets-reach (segments_in c.args.path.now) (view c.args.value.now) None leads), c.requires.within)

pub returns-in-Some-End : goal.returns-in-Some-End
returns-in-Some-End c =
    let leads : Some (AtEnd (view c.in-Some-End.found.now)) ≡ reached (segments_in c.args.path.now) (view c.args.value.now) =
    sym (ap (option_map reached_data) (c.in-Some-End.is ∙ ap Some c.in-Some-End.field-0-is)) ∙ c.in_ok-follow.ensures.leads in
    rw (octets-reach (segments_in c.args.path.now) (view c.args.value.now) (Some (AtEnd (view c.in-Some-End.found.now))) leads) c.value_octets.ensures

pub returns-in_ok-joined-in-Some-Star : goal.returns-in_ok-joined-in-Some-Star
returns-in_ok-joined-in-Some-Star c =
    let star = c.in-Some-Star.star in
    let leads : Some (AtStar (items_view star.items.now.items) (segments_in star.behind.now)) ≡ reached (segments_in c.args.path.now) (view c.args.value.now) =
    sym (ap (option_map reached_data) (c.in-Some-Star.is ∙ ap Some c.in-Some-Star.field-0-is)) ∙ c.in_ok-follow.ensures.leads in
    rw (octets-reach (segments_in c.args.path.now) (view c.args.value.now) (Some (AtStar (items_view star.items.now.items) (segments_in star.behind.now))) leads)
    (c.in_brackets.ensures (joined_in (joined_at (segments_in star.behind.now)) (items_view star.items.now.items)) c.in_ok-joined-in-Some-Star.ensures)
