use Rattle.std.proofs.Common.{◌<◌, List, ap, sym, subst, length, is_some}
use Rattle.std.proofs.lemmas.Result.{err_from_is_err_and}
use Rattle.told_folder.specs.Tell.{Telling, is_in}
use Rattle.told_folder.specs.declared.message.Message.{Message}
use Rattle.told_folder.proofs.LostLemmas.{losing_none, losing_more, losing_all, losing_fails, found_of, cut_shorter}
use Rattle.told_folder.proofs.vanished.tell_range.Goals as goal

pub loop-uid-init : goal.loop-uid-init
loop-uid-init c = losing_none (is_in c.args.range.now) c.args.work.now c.requires

pub first_in-requires : goal.first_in-requires
first_in-requires c = c.loop-uid.invariant.ascends

pub tell_lost-requires : goal.tell_lost-requires
tell_lost-requires c = record {
  ascends = c.loop-uid.invariant.ascends;
  held = ap is_some (found_of (is_in c.args.range.now) c.in-Some.uid c.loop-uid.work.messages c.in-Some.ensures).held;
}

pub loop-uid-smaller : goal.loop-uid-smaller
loop-uid-smaller c =
    let found = found_of (is_in c.args.range.now) c.in-Some.uid c.loop-uid.work.messages c.in-Some.ensures in
    subst (λ (zs : List Message). length zs < length c.loop-uid.work.messages) (sym (ap (λ (t : Telling). t.messages) c.in_ok-tell_lost.ensures.told))
    (cut_shorter c.in-Some.uid found.message c.loop-uid.work.messages found.held)

pub loop-uid-preserved : goal.loop-uid-preserved
loop-uid-preserved c =
    losing_more (is_in c.args.range.now) c.args.work.now c.loop-uid.work c.tell_lost.new.work c.in-Some.uid c.in-Some.ensures c.loop-uid.invariant c.in_ok-tell_lost.ensures

pub returns-in_err-tell_lost : goal.returns-in_err-tell_lost
returns-in_err-tell_lost c =
    rw (err_from_is_err_and c.from_residual.result c.from_residual.ensures.1).1
    (losing_fails c.args.work.now c.loop-uid.work c.tell_lost.new.work c.loop-uid.invariant.on c.loop-uid.invariant.ascends c.loop-uid.invariant.index _ _ _
    c.in_err-tell_lost.ensures)

pub returns : goal.returns
returns c = losing_all (is_in c.args.range.now) c.args.work.now c.loop-uid.work c.in_default.ensures c.loop-uid.invariant
