use Rattle.std.proofs.Common.{◌∙◌, ap, get_or, ne_eqb, sym}
use Rattle.std.specs.Prelude.{nat_lt}
use Rattle.std.proofs.lemmas.Bool.{and_left, and_right, le-ltb, lt-ltb}
use Rattle.told_changes.proofs.EmptyLines.{first_and_more, line_found, more_is, none_yet, one_more}
use Rattle.told_changes.proofs.headers.through_empty_line.Goals as goal

pub returns-then-empty-gt0-clause-value : goal.returns-then-empty-gt0-clause-value
returns-then-empty-gt0-clause-value c =
    let rest = c.loop-rest.rest.now in
    let so_far = c.loop-rest.invariant in
    line_found c.args.octets.now rest _ c.loop-rest.at _ so_far.rest_is (first_and_more rest c.in-len1-up.len_at_least) so_far.so_far c.line_end_len-empty.result
    c.if-first-eq10.true c.line_end_len-empty.ensures.value
    (ap (nat_lt 0) (sym c.line_end_len-empty.ensures.value) ∙ lt-ltb 0 c.line_end_len-empty.result c.if-empty-gt0.true)

pub loop-rest-preserved-else-empty-gt0 : goal.loop-rest-preserved-else-empty-gt0
loop-rest-preserved-else-empty-gt0 c =
    let rest = c.loop-rest.rest.now in
    let so_far = c.loop-rest.invariant in
    let parts = first_and_more rest c.in-len1-up.len_at_least in
    let fails = ap (nat_lt 0) (sym c.line_end_len-empty.ensures.value) ∙ le-ltb 0 c.line_end_len-empty.result c.if-empty-gt0.false in
    record {
      within = one_more c.args.octets.now rest _ c.loop-rest.at _ so_far.rest_is parts so_far.so_far;
      rest_is = more_is c.args.octets.now rest _ c.loop-rest.at _ so_far.rest_is parts so_far.so_far;
      so_far = none_yet c.args.octets.now rest _ c.loop-rest.at _ so_far.rest_is parts so_far.so_far (and_right _ _ fails);
    }

pub loop-rest-preserved : goal.loop-rest-preserved
loop-rest-preserved c =
    let rest = c.loop-rest.rest.now in
    let so_far = c.loop-rest.invariant in
    let parts = first_and_more rest c.in-len1-up.len_at_least in
    record {
      within = one_more c.args.octets.now rest _ c.loop-rest.at _ so_far.rest_is parts so_far.so_far;
      rest_is = more_is c.args.octets.now rest _ c.loop-rest.at _ so_far.rest_is parts so_far.so_far;
      so_far = none_yet c.args.octets.now rest _ c.loop-rest.at _ so_far.rest_is parts so_far.so_far (and_left _ _ (ne_eqb (get_or rest 0 0) 10 c.if-first-eq10.false));
    }
