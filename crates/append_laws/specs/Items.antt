-- The APPENDs of the items of a call, one after another, and what they made.
use Rattle.std.specs.Prelude.{List}
use Rattle.gate_world.specs.declared.event.Event.{Event}
use Rattle.set_jobs.specs.declared.done.Done.{Done}
use Rattle.set_order.specs.Ordered.{Item}
use Rattle.set_items.specs.Commands.{IsNotMade}
use Rattle.set_items.specs.Items.{item_start}
use Rattle.set_items.specs.Talks.{ending_of}
use Rattle.set_items.specs.declared.item.ItemEnd.{ItemEnd}
use Rattle.set_calls.specs.Calls.{SetCall, CallState, TakesItem, Refused, Stepped, StopsAt, DoesItems, NoItems, MoreItems}
use Rattle.set_calls.specs.Calls.{RunsItems, AllDone, Stopped, Wanting}
use Rattle.gate_changes.specs.Items.{ItemsCame}
use Rattle.append_laws.specs.Sent.{IsMadeBy, SendsAllowed}

-- one that is refused before a command is sent for it made nothing
abbrev pub ItemAppendsOnce : {c : SetCall} {item : Item} {before : CallState} {done : Done} {events : List Event} {after : CallState}
    → TakesItem c item before done events after → Type 0
ItemAppendsOnce {done = done} (Refused drawn e is done_is events_are same) = IsNotMade done
ItemAppendsOnce {c = c} {item = item} {before = before} {done = done} (Stepped drawn job doing is steps events_are) =
    SendsAllowed c.rules item (ending_of before.exchanges steps.does.runs) × IsMadeBy c.rules (item_start job before.mail) steps.does.runs.exchanges done

abbrev pub DoneAppendOnce : {c : SetCall} {before : CallState} {done : List (Item × Done)} {events : List Event} {after : CallState}
    → DoesItems c before done events after → Type 0
DoneAppendOnce NoItems = Unit {0}
DoneAppendOnce (MoreItems next rest) = DoneAppendOnce rest × ItemAppendsOnce next.takes

-- the item that ends the call comes to nothing
abbrev pub LastAppendsOnce : {c : SetCall} {item : Item} {before : CallState} {ends : ItemEnd} {events : List Event} {after : CallState}
    → StopsAt c item before ends events after → Type 0
LastAppendsOnce {c = c} {item = item} {before = before} stops = SendsAllowed c.rules item (ending_of before.exchanges stops.steps.does.runs)

-- those that are left have no command sent
abbrev pub ItemsAppendOnce : {c : SetCall} {items : List Item} {before : CallState} {result : ItemsCame} {events : List Event} {after : CallState}
    → RunsItems c items before result events after → Type 0
ItemsAppendOnce (AllDone done does all is) = DoneAppendOnce does
ItemsAppendOnce (Stopped done item later mid so_far last ends does stops all whole is) = DoneAppendOnce does × LastAppendsOnce stops
ItemsAppendOnce (Wanting done later so_far drawn does draws all whole is) = DoneAppendOnce does
