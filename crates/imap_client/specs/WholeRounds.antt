-- A round that is done: which commands were sent in it, and what they told (RFC 9051 sections 6.3.2, 6.3.9 and 6.4.5, RFC 7162
-- section 3.2.5).
use Rattle.std.specs.Prelude.{◌≡◌, ◌++◌, ◌+◌, ℕ, Bool, true, false, List, [], ◌∷◌, drop, slice_get, Option, Some, None}
use Rattle.std.specs.List.{flat_map}
use Rattle.gate_world.specs.declared.event.Event.{Event}
use Rattle.gate_world.specs.Octets.{store_took_in}
use Rattle.imap_types.specs.Commands.{command_text}
use Rattle.imap_types.specs.declared.command.Command.{Command}
use Rattle.imap_types.specs.declared.command.Command.TheVariants as command
use Rattle.imap_types.specs.declared.response.Response.{Response}
use Rattle.imap_types.specs.declared.response.Status.TheVariants as status
use Rattle.told_folder.specs.declared.exchange.Exchange.{Exchange}
use Rattle.told_folder.specs.declared.message.Folder.{Folder}
use Rattle.told_folder.specs.declared.message.NumberedFolder.{NumberedFolder}
use Rattle.told_mail.specs.Mail.{Mail}
use Rattle.told_mail.specs.Exchanges.{tell}
use Rattle.imap_client.specs.LinkLife.{LinkLife, next_number, selected, selected_after, special_use}
use Rattle.imap_client.specs.Rounds.{selectable_from, has_modseqs, is_sliced, slice_of, new_of, sliced_to}
use Rattle.imap_client.specs.Selecting.{known_folder, tells_validity}

-- the exchange is of the command and was answered OK, and the mail after it is what it told
pub record IsObeyed (asked : Command) (before : Mail) (x : Exchange) (after : Mail) : Type 0 where
  pub command_is : x.command ≡ asked
  pub ok : x.status ≡ status.Ok
  pub told : after ≡ tell before x

-- the folder that is told at this place
pub record FolderAt (at : ℕ) (mail : Mail) : Type 0 where
  pub held : NumberedFolder
  pub there : slice_get mail.folders at ≡ Some held

-- the exchange of the command for the folder at this place was answered OK, and the mail after it is what it told
pub record AnsweredAt (at : ℕ) (command_for : Folder → Command) (before : Mail) : Type 0 where
  pub place : FolderAt at before
  pub exchange : Exchange
  pub after : Mail
  pub obeyed : IsObeyed (command_for place.held.folder) before exchange after

-- The headers that are new in the folder at this place: slices while this UIDNEXT is further away than a slice, and then the rest.
pub data FetchesHeaders (at uid_next : ℕ) : Mail → List Exchange → Mail → Type 0 where
  Slice : {before after : Mail} {xs : List Exchange} (slice : AnsweredAt at slice_of before) → is_sliced uid_next slice.place.held.folder ≡ true
      → FetchesHeaders at uid_next slice.after xs after → FetchesHeaders at uid_next before (slice.exchange ∷ xs) after
  Rest : {before : Mail} (rest : AnsweredAt at new_of before) → is_sliced uid_next rest.place.held.folder ≡ false
      → FetchesHeaders at uid_next before (rest.exchange ∷ []) rest.after

-- What is fetched of the folder at this place: all flags first, where it has no mod-sequences.
pub data FetchesFolder (at uid_next : ℕ) : Mail → List Exchange → Mail → Type 0 where
  WithModseqs : {before after : Mail} {xs : List Exchange} (place : FolderAt at before) → has_modseqs place.held.folder ≡ true
      → FetchesHeaders at uid_next before xs after → FetchesFolder at uid_next before xs after
  WithoutModseqs : {before after : Mail} {xs : List Exchange} (flags : AnsweredAt at (λ _. command.FetchFlags) before)
      → has_modseqs flags.place.held.folder ≡ false
      → FetchesHeaders at uid_next flags.after xs after → FetchesFolder at uid_next before (flags.exchange ∷ xs) after

-- The folder at this place: its SELECT, which tells a UIDVALIDITY, and then what is fetched: in slices up to the UIDNEXT that it told,
-- unless the folder is sparse.
pub data AsksFolder (at : ℕ) : Mail → List Exchange → Mail → Type 0 where
  Asked : {before after : Mail} {xs : List Exchange} (select : AnsweredAt at (λ f. command.Select f.name (known_folder f)) before)
      → tells_validity select.exchange.responses ≡ true
      → FetchesFolder at (sliced_to select.exchange.responses) select.after xs after → AsksFolder at before (select.exchange ∷ xs) after

-- what its SELECT told
abbrev pub select_told : {at : ℕ} {before after : Mail} {xs : List Exchange} → AsksFolder at before xs after → List Response
select_told (Asked select valid fetches) = select.exchange.responses

-- the next folder that can be selected from this place on, and what is asked of it
pub record NextFolder (from : ℕ) (before : Mail) : Type 0 where
  pub at : ℕ
  pub exchanges : List Exchange
  pub after : Mail
  pub is_next : selectable_from from (drop from before.folders) ≡ Some at
  pub asks : AsksFolder at before exchanges after

-- Each folder that can be selected from this place on, by number.
pub data VisitsFrom : ℕ → Mail → List Exchange → Mail → Type 0 where
  NoMore : {from : ℕ} {before : Mail} → selectable_from from (drop from before.folders) ≡ None → VisitsFrom from before [] before
  Visits : {from : ℕ} {before after : Mail} {xs : List Exchange} (next : NextFolder from before) → VisitsFrom (next.at + 1) next.after xs after
      → VisitsFrom from before (next.exchanges ++ xs) after

-- A whole round: LIST, with the special uses or not, and then each folder that can be selected of those that are told then.
pub record IsWholeRound (special_use : Bool) (before : Mail) (exchanges : List Exchange) (after : Mail) : Type 0 where
  pub listing : Exchange
  pub others : List Exchange
  pub listed : Mail
  pub parts : exchanges ≡ listing ∷ others
  pub list_is : IsObeyed (command.List special_use) before listing listed
  pub visits : VisitsFrom 0 listed others after

-- the texts of these exchanges' commands, numbered from n on
abbrev pub texts_from : ℕ → List Exchange → List ℕ
texts_from n [] = []
texts_from n (x ∷ xs) = command_text x.command n ++ texts_from (n + 1) xs

-- At each of these exchanges the folder is selected that those before it leave selected, where this one is at first.
abbrev pub SelectedAlong : Option (List ℕ) → List Exchange → Type 0
SelectedAlong now [] = Unit {0}
SelectedAlong now (x ∷ xs) = (x.selected ≡ now) × SelectedAlong (selected_after now x) xs

-- The round is done: the store took exactly the commands of a whole round, and the mail is what these told. The special uses are asked
-- where the store has SPECIAL-USE.
pub record IsFinishedRound (before after : Mail) (life left : LinkLife) (events : List Event) : Type 0 where
  pub exchanges : List Exchange
  pub whole : IsWholeRound (special_use life) before exchanges after
  pub along : SelectedAlong (selected life) exchanges
  pub completed : left.exchanges ≡ life.exchanges ++ exchanges
  pub sent : flat_map store_took_in events ≡ texts_from (next_number life) exchanges
