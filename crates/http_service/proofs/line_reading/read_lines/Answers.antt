use Rattle.std.proofs.Common.{◌≢◌, ◌<◌, length, ap, sym, subst, ◌∙◌, arith, rules, refl, List, ℕ}
use Rattle.std.proofs.lemmas.Result.{err_from_is_err_and}
use Rattle.gate_world.proofs.Joins.{join, widen}
use Rattle.http_service.specs.declared.lines.TheConstants.{MAX_HEAD_OCTETS}
use Rattle.http_service.specs.declared.lines.Place.TheVariants.{Ended}
use Rattle.http_service.specs.Taking.{LinesOf, IsMissing, window}
use Rattle.http_service.specs.reading.LineEnds.{lines_of, start, run}
use Rattle.http_service.proofs.TakingLemmas.{one_more, input_ended, not_filled}
use Rattle.http_service.proofs.LineReadingLemmas.{lines_missing, not_grown, window_short, seen_on}
use Rattle.http_service.proofs.line_reading.read_lines.Goals as goal

pub returns-then-seen-ge-MAX_HEAD_OCTETS-clause-tape : goal.returns-then-seen-ge-MAX_HEAD_OCTETS-clause-tape
returns-then-seen-ge-MAX_HEAD_OCTETS-clause-tape g c = widen _ c.reading.invariant.tape (λ es takes. (es, takes, refl))

pub returns-then-seen-ge-MAX_HEAD_OCTETS-clause-stop : goal.returns-then-seen-ge-MAX_HEAD_OCTETS-clause-stop
returns-then-seen-ge-MAX_HEAD_OCTETS-clause-stop g c =
    let looked = c.window.ensures ∙ ap window c.as_slice.ensures in
    let not_ended : run (start c.args.lines) c.window.result.now ≢ Ended = λ is. let k = c.is_ended.ensures.1 (c.place_after-place.ensures ∙ is) in let f = c.if-is_ended.false in
    absurd cc in
    let seen = c.window-seen.ensures ∙ ap window c.as_slice-in-reading.ensures in
    (subst (λ (l : List ℕ). run (start c.args.lines) l ≢ Ended) looked not_ended, omega (arith, c.if-seen-ge-MAX_HEAD_OCTETS.true, ap length seen, window_short c.reading.spare))

pub returns-in_err-fill-clause-tape : goal.returns-in_err-fill-clause-tape
returns-in_err-fill-clause-tape g c =
    let is = err_from_is_err_and c.from_residual.result c.from_residual.ensures.1 in
    let looked = c.window.ensures ∙ ap window c.as_slice.ensures in
    let not_ended : run (start c.args.lines) c.window.result.now ≢ Ended = λ is. let k = c.is_ended.ensures.1 (c.place_after-place.ensures ∙ is) in let f = c.if-is_ended.false in
    absurd cc in
    let seen = c.window-seen.ensures ∙ ap window c.as_slice-in-reading.ensures in
    let small : length (window c.reading.spare) < MAX_HEAD_OCTETS = omega (arith, c.if-seen-ge-MAX_HEAD_OCTETS.false, ap length seen) in
    let missing : IsMissing (LinesOf (lines_of c.args.lines)) c.reading.spare =
    lines_missing c.args.lines c.reading.spare (subst (λ (l : List ℕ). run (start c.args.lines) l ≢ Ended) looked not_ended) small in
    rw (is.1, is.2) (join _ c.reading.invariant.tape c.in_err-fill.ensures.tape
    (λ x y takes fills. not_filled y (LinesOf (lines_of c.args.lines)) c.fill.new.spare c.in_err-fill.field-0.0 takes missing fills))

pub returns-then-not-branch-clause-tape : goal.returns-then-not-branch-clause-tape
returns-then-not-branch-clause-tape g c =
    let looked = c.window.ensures ∙ ap window c.as_slice.ensures in
    let not_ended : run (start c.args.lines) c.window.result.now ≢ Ended = λ is. let k = c.is_ended.ensures.1 (c.place_after-place.ensures ∙ is) in let f = c.if-is_ended.false in
    absurd cc in
    let seen = c.window-seen.ensures ∙ ap window c.as_slice-in-reading.ensures in
    let small : length (window c.reading.spare) < MAX_HEAD_OCTETS = omega (arith, c.if-seen-ge-MAX_HEAD_OCTETS.false, ap length seen) in
    let still = subst (λ (l : List ℕ). run (start c.args.lines) l ≢ Ended) looked not_ended in
    let missing : IsMissing (LinesOf (lines_of c.args.lines)) c.reading.spare = lines_missing c.args.lines c.reading.spare still small in
    join _ c.reading.invariant.tape c.in_ok-fill.ensures.tape (λ x y takes fills.
    let ended = input_ended y (LinesOf (lines_of c.args.lines)) c.fill.new.spare c.in_ok-fill.field-0 c.if-not-branch.true takes missing fills in
    (x, ended.0, ended.1))

pub returns-then-not-branch-clause-stop : goal.returns-then-not-branch-clause-stop
returns-then-not-branch-clause-stop g c =
    let looked = c.window.ensures ∙ ap window c.as_slice.ensures in
    let not_ended : run (start c.args.lines) c.window.result.now ≢ Ended = λ is. let k = c.is_ended.ensures.1 (c.place_after-place.ensures ∙ is) in let f = c.if-is_ended.false in
    absurd cc in
    let seen = c.window-seen.ensures ∙ ap window c.as_slice-in-reading.ensures in
    let small : length (window c.reading.spare) < MAX_HEAD_OCTETS = omega (arith, c.if-seen-ge-MAX_HEAD_OCTETS.false, ap length seen) in
    let still = subst (λ (l : List ℕ). run (start c.args.lines) l ≢ Ended) looked not_ended in
    let missing : IsMissing (LinesOf (lines_of c.args.lines)) c.reading.spare = lines_missing c.args.lines c.reading.spare still small in
    let same = not_grown c.reading.spare c.fill.new.spare c.window-seen.result.now c.in_ok-fill.field-0 c.if-not-branch.true c.in_ok-fill.ensures.grows in
    subst (IsMissing (LinesOf (lines_of c.args.lines))) (sym same) missing

pub reading-smaller : goal.reading-smaller
reading-smaller g c =
    let seen = c.window-seen.ensures ∙ ap window c.as_slice-in-reading.ensures in
    (seen_on c.reading.spare c.fill.new.spare (length c.window-seen.result.now) c.in_ok-fill.field-0 c.if-not-branch.false (ap length seen)
    (omega (arith, c.if-seen-ge-MAX_HEAD_OCTETS.false)) c.in_ok-fill.ensures.grows).2

pub reading-preserved : goal.reading-preserved
reading-preserved g c =
    let is = c.if-not-branch.false in
    let looked = c.window.ensures ∙ ap window c.as_slice.ensures in
    let not_ended : run (start c.args.lines) c.window.result.now ≢ Ended = λ is. let k = c.is_ended.ensures.1 (c.place_after-place.ensures ∙ is) in let f = c.if-is_ended.false in
    absurd cc in
    let seen = c.window-seen.ensures ∙ ap window c.as_slice-in-reading.ensures in
    let small : length (window c.reading.spare) < MAX_HEAD_OCTETS = omega (arith, c.if-seen-ge-MAX_HEAD_OCTETS.false, ap length seen) in
    let missing : IsMissing (LinesOf (lines_of c.args.lines)) c.reading.spare =
    lines_missing c.args.lines c.reading.spare (subst (λ (l : List ℕ). run (start c.args.lines) l ≢ Ended) looked not_ended) small in
    let on = seen_on c.reading.spare c.fill.new.spare (length c.window-seen.result.now) c.in_ok-fill.field-0 is (ap length seen)
    (omega (arith, c.if-seen-ge-MAX_HEAD_OCTETS.false)) c.in_ok-fill.ensures.grows in
    record {
      tape = join _ c.reading.invariant.tape c.in_ok-fill.ensures.tape
          (λ x y takes fills. one_more y (LinesOf (lines_of c.args.lines)) c.fill.new.spare c.in_ok-fill.field-0 is takes missing fills on.3);
      seen = on.1;
      place = c.place_after-place.ensures ∙ ap (run (start c.args.lines)) (looked ∙ sym on.0);
      alone = search rules;
      hidden = search rules;
    }
