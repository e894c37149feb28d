use Rattle.std.proofs.Common.{◌≡◌, ◌∙◌, ◌-◌, List, ap, sym, Option, Some, None, arith}
use Rattle.imap_types.specs.declared.uid_set.UidRange.{UidRange}
use Rattle.imap_types.specs.reading.CodeReading.{range_in, one_in_set, more_in_set, ranges_in, set_in}
use Rattle.imap_grammar.specs.reading.Codes.{put_ranges}
use Rattle.imap_grammar.proofs.CodeReadings.{last_range, next_range, put_more, no_more}
use Rattle.imap_grammar.proofs.codes.set_in.Goals as goal

pub returns-in_default-range_in : goal.returns-in_default-range_in
unfolding set_in
returns-in_default-range_in c =
    let ranges = c.loop-left.ranges.items in
    let range : range_in c.loop-left.rest.now ≡ None = sym c.range_in.ensures ∙ c.in_default-range_in.is in
    ap (λ (o : Option UidRange). put_ranges ranges (one_in_set o)) (sym range)
    ∙ last_range ranges c.loop-left.left c.loop-left.rest.now _ c.loop-left-test.true c.in_default.ensures c.loop-left.invariant

pub returns-in_default : goal.returns-in_default
unfolding set_in
returns-in_default c =
    let ranges = c.loop-left.ranges.items in
    let range : range_in c.loop-left.rest.now ≡ Some c.in-Some-range_in.range = sym c.range_in.ensures ∙ c.in-Some-range_in.is in
    ap (λ (rs : List UidRange). Some rs) (c.uid_set.ensures ∙ c.in_ok-push.ensures.items)
    ∙ ap (λ (o : Option UidRange). put_ranges ranges (one_in_set o)) (sym range)
    ∙ last_range ranges c.loop-left.left c.loop-left.rest.now _ c.loop-left-test.true c.in_default.ensures c.loop-left.invariant

pub returns-in_default-range_in-2 : goal.returns-in_default-range_in-2
unfolding set_in
returns-in_default-range_in-2 c =
    let ranges = c.loop-left.ranges.items in
    let front = c.in-Some.front.now in
    let back = c.in-Some.back.now in
    let range : range_in front ≡ None = sym c.range_in-in-loop-left.ensures ∙ c.in_default-range_in-2.is in
    ap (λ (o : Option UidRange). put_ranges ranges (more_in_set o (ranges_in (c.loop-left.left - 1) back))) (sym range)
    ∙ next_range ranges c.loop-left.left c.loop-left.rest.now front back _ c.loop-left-test.true c.in-Some.ensures c.loop-left.invariant

pub loop-left-preserved : goal.loop-left-preserved
loop-left-preserved c =
    let ranges = c.loop-left.ranges.items in
    let front = c.in-Some.front.now in
    let back = c.in-Some.back.now in
    let next = ranges_in (c.loop-left.left - 1) back in
    let range : range_in front ≡ Some c.in-Some-range_in-2.range = sym c.range_in-in-loop-left.ensures ∙ c.in-Some-range_in-2.is in
    ap (λ (rs : List UidRange). put_ranges rs next) c.in_ok-push-2.ensures.items
    ∙ put_more ranges c.in-Some-range_in-2.range next
    ∙ ap (λ (o : Option UidRange). put_ranges ranges (more_in_set o next)) (sym range)
    ∙ next_range ranges c.loop-left.left c.loop-left.rest.now front back _ c.loop-left-test.true c.in-Some.ensures c.loop-left.invariant

pub returns : goal.returns
unfolding set_in
returns c = no_more c.loop-left.ranges.items c.loop-left.left c.loop-left.rest.now _ (omega (arith, c.loop-left-test.false)) c.loop-left.invariant
