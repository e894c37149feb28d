-- How an item ends, and with it a call that can't go on (RFC 8620 sections 3.6.2 and 5.3).
use Rattle.std.specs.Prelude.{Bool, false, ◌&&◌, List, if◌then◌else◌, Result, Ok, Err}
use Rattle.std.specs.List.{list_any}
use Rattle.told_folder.specs.declared.exchange.Exchange.{Exchange}
use Rattle.imap_exchange.specs.declared.link_end.LinkEnd.{LinkEnd}
use Rattle.imap_exchange.specs.declared.link_end.LinkEnd.TheVariants as end
use Rattle.imap_client.specs.declared.plan.Due.{Due}
use Rattle.imap_client.specs.declared.plan.Due.TheVariants as due
use Rattle.jmap_arguments.specs.declared.method_error.MethodError.{MethodError}
use Rattle.jmap_arguments.specs.declared.method_error.MethodError.TheVariants.{ServerUnavailable, ServerPartialFail}
use Rattle.told_changes.specs.Told.{is_changing}
pub use Rattle.set_items.specs.Items.{is_change}
pub use Rattle.set_items.specs.declared.item.ItemEnd.{ItemEnd}
pub use Rattle.set_items.specs.declared.item.ItemEnd.TheVariants.{Comes, Ends, OutOfMemory}
use Rattle.set_items.specs.Items.{ItemStage, Settled}

-- one of these changed mail
abbrev pub any_change : List Exchange → Bool
any_change xs = list_any is_change xs

-- the command that is due changes mail, and was cut off after the store took octets of it
abbrev pub is_cut_off : Due → Bool → Bool
is_cut_off (due.Send c) torn = is_changing c && torn
is_cut_off _ torn = false

-- where something was changed, or may have been, the call failed in part
abbrev pub error_where : Bool → MethodError
error_where changed = if changed then ServerPartialFail else ServerUnavailable

-- An item whose plan is done stands at this stage; one whose plan ended with an error ends the call.
abbrev pub done_end : ItemStage → ItemEnd
done_end (Settled done) = Comes done
done_end _ = Ends ServerPartialFail

abbrev pub broken_end : LinkEnd → Bool → ItemEnd
broken_end end.Memory changed = OutOfMemory
broken_end _ changed = Ends (error_where changed)

-- by the stage that the item came to, by how its plan ended, and by whether a changing command of the call was OK or may have been obeyed
abbrev pub item_end : ItemStage → Result (Unit {0}) LinkEnd → Bool → ItemEnd
item_end stage (Ok _) changed = done_end stage
item_end stage (Err e) changed = broken_end e changed
