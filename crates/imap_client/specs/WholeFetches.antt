-- The fetch of a body that is done: which commands were sent in it, and what they told (RFC 9051 sections 6.3.2 and 6.4.5).
use Rattle.std.specs.Prelude.{◌≡◌, ◌++◌, ℕ, true, false, List, [], ◌∷◌, Option, Some}
use Rattle.std.specs.List.{flat_map}
use Rattle.gate_world.specs.declared.event.Event.{Event}
use Rattle.gate_world.specs.Octets.{store_took_in}
use Rattle.imap_types.specs.declared.command.Command.TheVariants as command
use Rattle.told_folder.specs.declared.exchange.Exchange.{Exchange}
use Rattle.told_folder.specs.declared.message.Folder.{Folder}
use Rattle.told_mail.specs.Mail.{Mail, folder_in}
use Rattle.imap_client.specs.Bodies.{is_selected, last_body}
use Rattle.imap_client.specs.LinkLife.{LinkLife, next_number, selected}
use Rattle.imap_client.specs.Selecting.{known_folder, validity_told}
use Rattle.imap_client.specs.WholeRounds.{IsObeyed, SelectedAlong, texts_from}

-- the folder of this number, as it is told
pub record FolderOf (folder : ℕ) (mail : Mail) : Type 0 where
  pub told : Folder
  pub there : folder_in mail.folders folder ≡ Some told

-- The folder is selected: its SELECT was answered OK, and told the UIDVALIDITY under which the folder is kept.
pub record SelectsFolder (folder : ℕ) (before : Mail) : Type 0 where
  pub of : FolderOf folder before
  pub exchange : Exchange
  pub after : Mail
  pub obeyed : IsObeyed (command.Select of.told.name (known_folder of.told)) before exchange after
  pub same : validity_told exchange.responses ≡ Some of.told.validity

-- The body is fetched: its FETCH was answered OK, and the last body that it told for the UID are these octets.
pub record FetchesOctets (uid : ℕ) (octets : List ℕ) (before : Mail) : Type 0 where
  pub exchange : Exchange
  pub after : Mail
  pub obeyed : IsObeyed (command.FetchBody uid) before exchange after
  pub body : last_body uid exchange.responses ≡ Some octets

-- A whole fetch: that of the body alone where the folder is the selected one, else after its SELECT.
pub data IsWholeFetch (folder uid : ℕ) (selected : Option (List ℕ)) (octets : List ℕ) (before : Mail) : List Exchange → Mail → Type 0 where
  FetchAlone : (of : FolderOf folder before) (fetch : FetchesOctets uid octets before) → is_selected selected of.told.name ≡ true
      → IsWholeFetch folder uid selected octets before (fetch.exchange ∷ []) fetch.after
  SelectFirst : (select : SelectsFolder folder before) (fetch : FetchesOctets uid octets select.after) → is_selected selected select.of.told.name ≡ false
      → IsWholeFetch folder uid selected octets before (select.exchange ∷ fetch.exchange ∷ []) fetch.after

-- The fetch is done: the store took exactly the commands of a whole fetch, and the mail is what these told.
pub record IsFinishedFetch (folder uid : ℕ) (before after : Mail) (life left : LinkLife) (octets : List ℕ) (events : List Event) : Type 0 where
  pub exchanges : List Exchange
  pub whole : IsWholeFetch folder uid (selected life) octets before exchanges after
  pub along : SelectedAlong (selected life) exchanges
  pub completed : left.exchanges ≡ life.exchanges ++ exchanges
  pub sent : flat_map store_took_in events ≡ texts_from (next_number life) exchanges
