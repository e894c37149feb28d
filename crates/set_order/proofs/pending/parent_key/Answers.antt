use Rattle.std.proofs.Common.{option_and_then, ap, ◌∙◌}
use Rattle.set_order.specs.Creations.{creation_in}
use Rattle.set_order.proofs.pending.parent_key.Goals as goal

pub returns : goal.returns
returns c = c.creation_in.ensures ∙ ap (option_and_then creation_in) c.in_ok-text_at.ensures
