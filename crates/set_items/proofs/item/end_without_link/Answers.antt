use Rattle.set_items.proofs.ItemSteps.{idle_due, idle_fails}
use Rattle.set_items.proofs.item.end_without_link.Goals as goal

pub returns-in-Ok-Send : goal.returns-in-Ok-Send
returns-in-Ok-Send c = λ life over. let is = rw c.in-Ok-Send.field-0-is at c.in-Ok-Send.ensures in idle_due _ life _ over is

pub returns-in-Ok-Fails : goal.returns-in-Ok-Fails
returns-in-Ok-Fails c = λ life over. let is = rw c.in-Ok-Fails.field-0-is at c.in-Ok-Fails.ensures in idle_fails _ life _ _ over is c.end_of.ensures
