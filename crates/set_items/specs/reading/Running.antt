-- An item's plan over a mirror.
use Rattle.std.specs.Prelude.{◌≡◌, ◌||◌, false, List, Result}
use Rattle.gate_world.specs.declared.event.Event.{Event}
use Rattle.told_folder.specs.declared.exchange.Exchange.{Exchange}
use Rattle.told_mail.specs.Exchanges.{TellsKnown}
use Rattle.told_changes.specs.Told.{is_changing}
use Rattle.imap_exchange.specs.declared.link_end.LinkEnd.{LinkEnd}
use Rattle.imap_client.specs.LinkLife.{LinkLife, ClientState}
use Rattle.imap_client.specs.Plans.{FollowsTo}
use Rattle.set_items.specs.declared.item_plan.ItemPlan.{ItemPlan}
use Rattle.set_items.specs.Items.{ItemState, item_plan, item_step, is_change}

abbrev pub state_of : ItemPlan → ItemState
state_of p = record { stage = p.stage; mail = p.mirror.mail }

-- the next state, whether a changing command of the call was answered OK by then, and the count where nothing new is told
abbrev pub HearsItem : ItemPlan → Exchange → ItemPlan → Type 0
HearsItem p x q = (state_of q ≡ item_step (state_of p) x) × (q.changed ≡ (p.changed || is_change x))
    × (is_changing x.command ≡ false → TellsKnown p.mirror.mail x → q.mirror.changes ≡ p.mirror.changes)

abbrev pub FollowsItem : ItemPlan → ItemPlan → LinkLife → LinkLife → ClientState → Result (Unit {0}) LinkEnd → List Event → Type 0
FollowsItem first last life left client result events = FollowsTo (λ (p : ItemPlan). item_plan (state_of p)) HearsItem first last life left client result events
