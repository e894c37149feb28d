use Rattle.std.proofs.Common.{◌<◌, ◌≤◌, List, length, get_or, arith}
use Rattle.std.proofs.lemmas.Result.{err_from_is_err_and}
use Rattle.imap_types.specs.declared.uid_set.UidRange.{UidRange}
use Rattle.told_folder.proofs.KeyedLemmas.{get_or-defaults}
use Rattle.told_folder.proofs.LostLemmas.{lost_none, lost_more, lost_all, losing_fails}
use Rattle.told_folder.proofs.PartLemmas.{take_whole}
use Rattle.told_folder.proofs.vanished.tell_vanished.Goals as goal

pub loop-range-init : goal.loop-range-init
loop-range-init c = lost_none c.args.ranges.now c.args.work.now c.requires

pub tell_range-requires : goal.tell_range-requires
tell_range-requires c = c.loop-range.invariant.ascends

pub loop-range-preserved : goal.loop-range-preserved
loop-range-preserved c =
    let rs : List UidRange = c.args.ranges.now in
    let none : UidRange = record { first = 0; last = 0 } in
    let within : c.loop-range.range-index < length rs = omega (arith, c.loop-range-test.true) in
    lost_more rs c.loop-range.range-index (get_or rs c.loop-range.range-index none) c.args.work.now c.loop-range.work c.tell_range.new.work within
    (get_or-defaults rs c.loop-range.range-index none within)
    c.loop-range.invariant c.in_ok-tell_range.ensures

pub returns-in_err-tell_range : goal.returns-in_err-tell_range
returns-in_err-tell_range c =
    rw (err_from_is_err_and c.from_residual.result c.from_residual.ensures.1).1
    (losing_fails c.args.work.now c.loop-range.work c.tell_range.new.work c.loop-range.invariant.on c.loop-range.invariant.ascends c.loop-range.invariant.index _ _ _
    c.in_err-tell_range.ensures)

pub returns : goal.returns
returns c =
    let end : length c.args.ranges.now ≤ c.loop-range.range-index = omega (arith, c.loop-range-test.false) in
    lost_all c.args.ranges.now c.loop-range.range-index c.args.work.now c.loop-range.work (take_whole c.loop-range.range-index c.args.ranges.now end) c.loop-range.invariant
