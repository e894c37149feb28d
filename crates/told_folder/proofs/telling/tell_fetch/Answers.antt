use Rattle.std.proofs.Common.{◌∙◌, sym}
use Rattle.told_folder.proofs.OpenLemmas.{fetched, added, passed_over}
use Rattle.told_folder.proofs.PartLemmas.{none_there}
use Rattle.told_folder.proofs.telling.tell_fetch.Goals as goal

pub tell_new-requires-clause-free : goal.tell_new-requires-clause-free
tell_new-requires-clause-free c = none_there _ (sym c.holds.ensures ∙ c.if-holds.false)

pub returns-then-holds : goal.returns-then-holds
returns-then-holds c = fetched _ _ c.args.adds _ c.in-Some.uid c.args.items.now _ c.in-Some.is (c.tell_held.ensures c.args.adds)

pub returns-then-adds : goal.returns-then-adds
returns-then-adds c =
    fetched _ _ c.args.adds _ c.in-Some.uid c.args.items.now _ c.in-Some.is
    (added _ _ c.args.adds c.in-Some.uid c.args.items.now _ (none_there _ (sym c.holds.ensures ∙ c.if-holds.false)) c.if-adds.true c.tell_new.ensures)

pub returns-else-adds : goal.returns-else-adds
returns-else-adds c =
    fetched _ _ c.args.adds _ c.in-Some.uid c.args.items.now _ c.in-Some.is
    (passed_over _ c.args.adds c.in-Some.uid c.args.items.now (none_there _ (sym c.holds.ensures ∙ c.if-holds.false)) c.if-adds.false)
