use Rattle.std.proofs.Common.{◌∙◌}
use Rattle.header_tokens.proofs.ClosingLemmas.{tell_all}
use Rattle.loose_addresses.specs.Angles.{Outside}
use Rattle.loose_addresses.proofs.OutsideLemmas.{angle_told}
use Rattle.loose_addresses.proofs.outside.address_angle.Goals as goal

pub last_outside-requires : goal.last_outside-requires
last_outside-requires c = tell_all c.as_slice.result.now c.args.text.now (c.as_slice.ensures.value ∙ c.in_ok-closed.ensures)

pub returns-in-Some : goal.returns-in-Some
returns-in-Some c = Outside c.in-Some.ensures

pub returns : goal.returns
returns c = angle_told c.args.text.now c.last_angle.result c.in-None.ensures c.last_angle.ensures
