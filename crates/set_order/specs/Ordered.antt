-- The items of a call in order: creations, updates, destroys (RFC 8620 section 5.3).
use Rattle.std.specs.Prelude.{◌≡◌, ◌++◌, ℕ, Bool, false, not, List, [], ◌∷◌, map, find, filter, bytes_eq, codes, unwrap_or, Option, Some, None, option_and_then}
use Rattle.std.specs.List.{list_any}
use Rattle.serde_json.specs.Data.{Members}
use Rattle.serde_json.specs.Find.{as_str, get_member}
use Rattle.jmap_core.specs.CreatedIds.{Ids}
use Rattle.set_order.specs.Creations.{creation_in, id_named}
use Rattle.set_arguments.specs.Arguments.{Keyed, SetAsked}
use Rattle.set_arguments.specs.declared.set_method.SetMethod.{SetMethod}
use Rattle.set_arguments.specs.declared.set_method.SetMethod.TheVariants.{EmailSet, MailboxSet, EmailImport}

pub data Item : Type 0 where
  -- under this creation id
  Create : List ℕ → Members → Item
  -- one whose parent is to be made after it
  Circle : List ℕ → Item
  -- of what this text names
  Update : List ℕ → Members → Item
  Destroy : List ℕ → Item

-- what it is named by in the reply
abbrev pub item_key : Item → List ℕ
item_key (Create key ms) = key
item_key (Circle key) = key
item_key (Update key ms) = key
item_key (Destroy text) = text

-- ---- Mailboxes that are to be made: one that is below another of the call waits for that

abbrev pub Creation : Type 0
Creation = List ℕ × Members

-- the creation id that the parent is named by
abbrev pub parent_in : Members → Option (List ℕ)
parent_in ms = option_and_then creation_in (option_and_then as_str (get_member (codes "parentId") ms))

abbrev pub is_key : Option (List ℕ) → Creation → Bool
is_key None c = false
is_key (Some key) c = bytes_eq c.0 key

abbrev pub waits : Keyed → Creation → Bool
waits pending c = list_any (is_key (parent_in c.1)) pending

abbrev pub without_key : List ℕ → Keyed → Keyed
without_key key cs = filter (λ (c : Creation). not (bytes_eq c.0 key)) cs

-- the first that doesn't wait for another of these
abbrev pub next_of : Keyed → Option Creation
next_of pending = find (λ (c : Creation). not (waits pending c)) pending

-- Of these, each in turn is the first that waits for none that is left; those that are left at last each wait for another of them.
pub data Orders : Keyed → Keyed → Keyed → Type 0 where
  AllWait : {left : Keyed} → next_of left ≡ None → Orders left [] left
  Goes : {pending ready circle : Keyed} (c : Creation) → next_of pending ≡ Some c → Orders (without_key c.0 pending) ready circle
      → Orders pending (c ∷ ready) circle

-- ---- destroys

-- the creation ids of what a call is to make
abbrev pub making : Keyed → List (List ℕ)
making create = map (λ (c : Creation). c.0) create

-- what a text stands for: the id that a creation id of an earlier call has, and else itself
abbrev pub stands_for : List (List ℕ) → Ids → List ℕ → List ℕ
stands_for made created text = unwrap_or (id_named made created text) text

-- of texts that stand for one object the first alone
abbrev pub each_once : (List ℕ → List ℕ) → List (List ℕ) → List (List ℕ)
each_once object [] = []
each_once object (t ∷ ts) = t ∷ filter (λ other. not (bytes_eq (object t) (object other))) (each_once object ts)

-- ---- the items

abbrev pub created_items : Keyed → List Item
created_items cs = map (λ (c : Creation). Create c.0 c.1) cs

abbrev pub circle_items : Keyed → List Item
circle_items cs = map (λ (c : Creation). Circle c.0) cs

abbrev pub updated_items : Keyed → List Item
updated_items cs = map (λ (c : Creation). Update c.0 c.1) cs

-- destroys of what these texts stand for, where the request created these ids before
abbrev pub destroyed_items : Ids → SetAsked → List Item
destroyed_items created a = map Destroy (each_once (stands_for (making a.create) created) a.destroy)

abbrev pub later_items : Ids → SetAsked → List Item
later_items created a = updated_items a.update ++ destroyed_items created a

pub record MailboxItems (created : Ids) (a : SetAsked) (items : List Item) : Type 0 where
  pub ready : Keyed
  pub circle : Keyed
  pub orders : Orders a.create ready circle
  pub items_are : items ≡ (created_items ready ++ circle_items circle) ++ later_items created a

-- these are the items of a call, where the request created these ids before it
abbrev pub ItemsOf : SetMethod → Ids → SetAsked → List Item → Type 0
ItemsOf EmailSet created a items = items ≡ created_items a.create ++ later_items created a
ItemsOf MailboxSet created a items = MailboxItems created a items
ItemsOf EmailImport created a items = items ≡ created_items a.create ++ later_items created a
