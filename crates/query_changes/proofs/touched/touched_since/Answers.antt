use Rattle.std.proofs.Common.{◌≤◌, inr, refl, arith}
use Rattle.change_list.specs.declared.list.TheConstants.{MAX_PLACE}
use Rattle.query_changes.proofs.TouchedLemmas.{nothing, outside, before, past, in_kept}
use Rattle.query_changes.proofs.touched.touched_since.Goals as goal

pub returns-in_default-clause-none : goal.returns-in_default-clause-none
returns-in_default-clause-none c =
    let k = c.args.list.now in
    let small : k.place ≤ MAX_PLACE = omega (arith, c.place.ensures.exact, c.place.ensures.small) in
    inr (nothing c.args.epoch k c.args.since.now small (c.in_default.ensures.none refl))

pub returns-in-Ok-clause-found : goal.returns-in-Ok-clause-found
returns-in-Ok-clause-found c =
    in_kept c.args.epoch c.args.list.now c.args.since.now c.in-Some.place c.place.result c.in-Ok.ids c.in-Some.ensures.some c.in-Ok.ensures.refused c.place.ensures.exact
    c.in-Ok.ensures.ids

pub returns-in-Err-BeforeFront-clause-none : goal.returns-in-Err-BeforeFront-clause-none
returns-in-Err-BeforeFront-clause-none c =
    let k = c.args.list.now in
    let small : k.place ≤ MAX_PLACE = omega (arith, c.place.ensures.exact, c.place.ensures.small) in
    let refused = rw c.in-Err-BeforeFront.field-0-is at c.in-Err-BeforeFront.ensures.refused in
    inr (outside c.args.epoch k c.args.since.now c.in-Some.place small c.in-Some.ensures.one
    (before c.args.epoch k c.args.since.now c.in-Some.place c.in-Err-BeforeFront.field-0-0 refused))

pub returns-in-Err-AfterEnd-clause-none : goal.returns-in-Err-AfterEnd-clause-none
returns-in-Err-AfterEnd-clause-none c =
    let k = c.args.list.now in
    let small : k.place ≤ MAX_PLACE = omega (arith, c.place.ensures.exact, c.place.ensures.small) in
    let refused = rw c.in-Err-AfterEnd.field-0-is at c.in-Err-AfterEnd.ensures.refused in
    inr (outside c.args.epoch k c.args.since.now c.in-Some.place small c.in-Some.ensures.one
    (past c.args.epoch k c.args.since.now c.in-Some.place c.in-Err-AfterEnd.field-0-0 refused))
