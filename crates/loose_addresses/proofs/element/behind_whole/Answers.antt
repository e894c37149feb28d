use Rattle.std.proofs.Common.{◌∙◌}
use Rattle.header_tokens.proofs.ClosingLemmas.{tell_all}
use Rattle.loose_addresses.proofs.OutsideLemmas.{head_fits, group_here, group_not}
use Rattle.loose_addresses.proofs.element.behind_whole.Goals as goal

pub overflow_sub-element : goal.overflow_sub-element
overflow_sub-element c = head_fits c.args.rest.now c.args.element.now c.requires

pub ends_lumps-requires-clause-tell : goal.ends_lumps-requires-clause-tell
ends_lumps-requires-clause-tell c = tell_all c.as_slice.result.now c.args.element.now (c.as_slice.ensures.value ∙ c.in_ok-closed.ensures)

pub returns-then-ends_lumps : goal.returns-then-ends_lumps
returns-then-ends_lumps c = group_here c.args.rest.now c.args.element.now c.requires c.if-ends_lumps.ensures

pub returns : goal.returns
returns c = group_not c.args.rest.now c.args.element.now c.if-ends_lumps.ensures
