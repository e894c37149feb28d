use Rattle.told_folder.proofs.LostLemmas.{within_yes, within_no, within_none}
use Rattle.told_folder.proofs.vanished.first_in.Goals as goal

pub returns-then-uid-range : goal.returns-then-uid-range
returns-then-uid-range c = within_yes c.args.range.now.first c.args.range.now.last c.in-Some.uid c.args.messages.now c.in-Some.ensures c.if-uid-range.true

pub returns-else-uid-range : goal.returns-else-uid-range
returns-else-uid-range c =
    within_no c.args.range.now.first c.args.range.now.last c.in-Some.uid c.args.messages.now c.requires c.in-Some.ensures c.if-uid-range.false

pub returns-in-None : goal.returns-in-None
returns-in-None c = within_none c.args.range.now.first c.args.range.now.last c.args.messages.now c.in-None.ensures
