use Rattle.std.proofs.Common.{◌∙◌, true, false, ap, sym}
use Rattle.told_changes.specs.Landings.{only_from}
use Rattle.told_changes.proofs.FirstCodes.{only_some}
use Rattle.told_changes.proofs.codes.only_uid.Goals as goal

pub returns-in_default : goal.returns-in_default
returns-in_default c = ap (only_from c.args.ranges.now) c.in_default.ensures

pub returns-then-are_within : goal.returns-then-are_within
returns-then-are_within c = only_some c.args.ranges.now c.in-Some.range true c.in-Some.ensures (sym c.are_within.ensures ∙ c.if-are_within.true)

pub returns-else-are_within : goal.returns-else-are_within
returns-else-are_within c = only_some c.args.ranges.now c.in-Some.range false c.in-Some.ensures (sym c.are_within.ensures ∙ c.if-are_within.false)
