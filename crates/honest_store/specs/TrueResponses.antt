-- Responses that are true as they come (RFC 9051 section 7.5.2, RFC 7162 section 3.2.10).
use Rattle.std.specs.Prelude.{◌≡◌, ℕ, Bool, false, List, [], ◌∷◌, Option, Some, None, take, IfSome}
use Rattle.std.specs.List.{Any}
use Rattle.imap_types.specs.declared.response.Response.{Response}
use Rattle.imap_types.specs.declared.response.Response.TheVariants as response
use Rattle.imap_types.specs.declared.response.FetchItems.{FetchItems}
use Rattle.imap_types.specs.Items.{body_limit}
use Rattle.imap_types.specs.UidSets.{Holds}
use Rattle.honest_store.specs.StoreMail.{StoreMessage, StoreFolder, StoreMail, folder_numbered, message_numbered}
use Rattle.honest_store.specs.Headers.{header_told}
use Rattle.honest_store.specs.Responses.{MayCome}

-- ---- what a session sees

abbrev pub messages_of_folder : Option StoreFolder → List StoreMessage
messages_of_folder None = []
messages_of_folder (Some f) = f.messages

-- the folder that is selected, which may be there no more; None where none is selected
abbrev pub seen_folder : Option ℕ → StoreMail → Option (Option StoreFolder)
seen_folder None mail = None
seen_folder (Some n) mail = Some (folder_numbered mail.folders n)

-- the messages of the folder that is selected, of which there are none where it is there no more; None where none is selected
abbrev pub messages_of_selected : Option ℕ → StoreMail → Option (List StoreMessage)
messages_of_selected None mail = None
messages_of_selected (Some n) mail = Some (messages_of_folder (folder_numbered mail.folders n))

-- ---- truth

-- each item that is told and kept is the message's
pub record IsToldOf (m : StoreMessage) (items : FetchItems) : Type 0 where
  pub flags : IfSome items.flags (λ flags. flags ≡ m.flags)
  pub date : IfSome items.date (λ date. date ≡ m.date)
  pub size : IfSome items.size (λ size. size ≡ m.size)
  pub header : IfSome items.header (λ header. header ≡ header_told m.octets)
  pub body : IfSome items.body (λ body. body ≡ take body_limit m.octets)

-- a message of this UID is seen, and the items are told of it
abbrev pub IsToldOfOne : Option (Option StoreFolder) → FetchItems → ℕ → Type 0
IsToldOfOne None items u = ⊥
IsToldOfOne (Some folder) items u = (m : StoreMessage) × (message_numbered (messages_of_folder folder) u ≡ Some m) × IsToldOf m items

-- a message that had this UID went; of a folder that is there no more any may have had it
abbrev pub HasGone : Option StoreFolder → ℕ → Type 0
HasGone None u = Unit {0}
HasGone (Some f) u = Any (λ e. e.uid ≡ u) f.expunged

-- What a VANISHED says of a UID: no message that is held has it, and one had it. With (EARLIER) it may name UIDs that never were.
pub record IsVanished (earlier : Bool) (folder : Option StoreFolder) (u : ℕ) : Type 0 where
  pub not_held : message_numbered (messages_of_folder folder) u ≡ None
  pub has_gone : earlier ≡ false → HasGone folder u

-- A response is true of the folder that is seen. A FETCH speaks of a message that is held; without a UID nothing of it is kept.
abbrev pub IsTrueOf : Option (Option StoreFolder) → Response → Type 0
IsTrueOf seen (response.Fetch seq items) = IfSome items.uid (IsToldOfOne seen items)
IsTrueOf None (response.Vanished earlier uids) = ⊥
IsTrueOf (Some folder) (response.Vanished earlier uids) = (u : ℕ) → Holds uids.ranges u → IsVanished earlier folder u
IsTrueOf seen _ = Unit {0}

-- Responses that come from one moment of the mail to another, each true as it comes, while others do such steps.
pub data TellsTruly (Others : StoreMail → StoreMail → Type 0) (selected : Option ℕ) : StoreMail → List Response → StoreMail → Type 0 where
  NoMore : {mail : StoreMail} → TellsTruly Others selected mail [] mail
  Tells : {before after : StoreMail} {rs : List Response} (r : Response) → MayCome r → IsTrueOf (seen_folder selected before) r
      → TellsTruly Others selected before rs after → TellsTruly Others selected before (r ∷ rs) after
  Meanwhile : {before mid after : StoreMail} {rs : List Response} → Others before mid → TellsTruly Others selected mid rs after
      → TellsTruly Others selected before rs after
