use Rattle.serde_json.specs.View.{view}
use Rattle.draft_reading.proofs.PropertyLemmas.{addresses_or_not}
use Rattle.draft_reading.proofs.checks.are_addresses.Goals as goal

pub returns : goal.returns
returns c =
    addresses_or_not (view c.args.value.now) c.in_ok-mailboxes_in.field-0 c.is_some.result c.in_ok-mailboxes_in.ensures.some c.in_ok-mailboxes_in.ensures.none c.is_some.ensures
