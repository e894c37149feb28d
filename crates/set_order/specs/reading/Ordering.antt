-- Mailboxes that are to be made and aren't in order yet, as the code has them.
use Rattle.std.specs.Prelude.{◌≡◌, ℕ, ◌&&◌, ◌++◌, Bool, true, false, not, List, bytes_eq, Option, Some, None}
use Rattle.std.specs.List.{list_any}
use Rattle.jmap_arguments.specs.Arguments.{is_among}
use Rattle.set_arguments.specs.Arguments.{Keyed}
use Rattle.set_arguments.specs.declared.set_method.SetMethod.{SetMethod}
use Rattle.set_arguments.specs.declared.set_method.SetMethod.TheVariants.{EmailSet, MailboxSet, EmailImport}
use Rattle.set_order.specs.Ordered.{Item, Creation, Orders, parent_in, waits, making, created_items, circle_items}

-- one of these that has the key and waits for none of them
abbrev pub is_ready : Keyed → List ℕ → Creation → Bool
is_ready pending key c = bytes_eq c.0 key && not (waits pending c)

abbrev pub is_one_key : Option (List ℕ) → List ℕ → Bool
is_one_key None key = false
is_one_key (Some k) key = bytes_eq key k

-- one that has the key and waits for that of this key
abbrev pub waits_for : List ℕ → List ℕ → Creation → Bool
waits_for parent key c = bytes_eq c.0 key && is_one_key (parent_in c.1) parent

-- of those that are placed, of all that are left, ready are these, and these wait, by what they wait for
pub record ArePlaced (pending placed : Keyed) (ready : List (List ℕ)) (waiting : List ℕ → List (List ℕ)) : Type 0 where
  pub ready_are : (key : List ℕ) → is_among key ready ≡ list_any (is_ready pending key) placed
  pub waiting_are : (parent key : List ℕ) → is_among parent (making pending) ≡ true → is_among key (waiting parent) ≡ list_any (waits_for parent key) placed

abbrev pub ArePending : Keyed → List (List ℕ) → (List ℕ → List (List ℕ)) → Type 0
ArePending pending ready waiting = ArePlaced pending pending ready waiting

-- those before, and then all that are to be made: in order, and those that wait in a circle last
pub record MakesInOrder (create : Keyed) (before after : List Item) : Type 0 where
  pub ready : Keyed
  pub circle : Keyed
  pub orders : Orders create ready circle
  pub after_is : after ≡ before ++ (created_items ready ++ circle_items circle)

-- those that are to be made come after those before
abbrev pub AddsCreations : SetMethod → Keyed → List Item → List Item → Type 0
AddsCreations EmailSet create before after = after ≡ before ++ created_items create
AddsCreations MailboxSet create before after = MakesInOrder create before after
AddsCreations EmailImport create before after = after ≡ before ++ created_items create
