use Rattle.std.proofs.Common.{◌≤◌, inr, refl, arith}
use Rattle.std.proofs.lemmas.Result.{err_from_is_err_and}
use Rattle.serde_json.specs.View.{view}
use Rattle.change_list.specs.declared.list.TheConstants.{MAX_PLACE}
use Rattle.read_methods.specs.Changes.{ChangesAsked}
use Rattle.read_methods.proofs.FindLemmas.{refuses, nothing, outside, before, past, in_kept}
use Rattle.read_methods.proofs.changes.find.Goals as goal

pub returns-in_err-since-clause-finds : goal.returns-in_err-since-clause-finds
returns-in_err-since-clause-finds c =
    let is = err_from_is_err_and c.from_residual.result c.from_residual.ensures.1 in
    rw (is.1, is.2) (refuses c.args.epoch c.args.list.now (view c.args.arguments.now) c.in_err-since.field-0.0 c.in_err-since.ensures)

pub returns-in_default-clause-finds : goal.returns-in_default-clause-finds
returns-in_default-clause-finds c =
    let k = c.args.list.now in
    let asked : ChangesAsked = record { since = c.in_ok-since.field-0.since.now; most = c.in_ok-since.field-0.most } in
    let small : k.place ≤ MAX_PLACE = omega (arith, c.place.ensures.exact, c.place.ensures.small) in
    inr (nothing c.args.epoch k (view c.args.arguments.now) asked c.in_ok-since.ensures small (c.in_default.ensures.none refl))

pub returns-in-Ok-clause-finds : goal.returns-in-Ok-clause-finds
returns-in-Ok-clause-finds c =
    let asked : ChangesAsked = record { since = c.in_ok-since.field-0.since.now; most = c.in_ok-since.field-0.most } in
    in_kept c.args.epoch c.args.list.now (view c.args.arguments.now) asked c.in-Some.place c.in-Ok.changes c.in_ok-since.ensures c.in-Some.ensures.some
    c.in-Ok.ensures.refused c.in-Ok.ensures.changes

pub returns-in-Err-BeforeFront-clause-finds : goal.returns-in-Err-BeforeFront-clause-finds
returns-in-Err-BeforeFront-clause-finds c =
    let k = c.args.list.now in
    let d = view c.args.arguments.now in
    let asked : ChangesAsked = record { since = c.in_ok-since.field-0.since.now; most = c.in_ok-since.field-0.most } in
    let small : k.place ≤ MAX_PLACE = omega (arith, c.place.ensures.exact, c.place.ensures.small) in
    let refused = rw c.in-Err-BeforeFront.field-0-is at c.in-Err-BeforeFront.ensures.refused in
    inr (outside c.args.epoch k d asked c.in-Some.place c.in_ok-since.ensures small c.in-Some.ensures.one
    (before c.args.epoch k d c.in-Some.place c.in-Err-BeforeFront.field-0-0 refused))

pub returns-in-Err-AfterEnd-clause-finds : goal.returns-in-Err-AfterEnd-clause-finds
returns-in-Err-AfterEnd-clause-finds c =
    let k = c.args.list.now in
    let d = view c.args.arguments.now in
    let asked : ChangesAsked = record { since = c.in_ok-since.field-0.since.now; most = c.in_ok-since.field-0.most } in
    let small : k.place ≤ MAX_PLACE = omega (arith, c.place.ensures.exact, c.place.ensures.small) in
    let refused = rw c.in-Err-AfterEnd.field-0-is at c.in-Err-AfterEnd.ensures.refused in
    inr (outside c.args.epoch k d asked c.in-Some.place c.in_ok-since.ensures small c.in-Some.ensures.one
    (past c.args.epoch k d c.in-Some.place c.in-Err-AfterEnd.field-0-0 refused))
