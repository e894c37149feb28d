-- What an honest store answers to a command, and what its mail is then (RFC 9051, RFC 7162), in a session in which QRESYNC is enabled.
use Rattle.std.specs.Prelude.{◌≡◌, ◌≢◌, ◌⊎◌, ℕ, List, [], ◌∷◌, ◌++◌, Option, Some, None, IsSome, All}
use Rattle.std.specs.List.{Any}
use Rattle.imap_types.specs.declared.command.Command.{Command}
use Rattle.imap_types.specs.declared.command.Command.TheVariants as command
use Rattle.imap_types.specs.declared.response.Response.{Response}
use Rattle.imap_types.specs.declared.response.Status.{Status}
use Rattle.imap_types.specs.declared.response.Status.TheVariants as status
use Rattle.imap_types.specs.Folders.{folder_name}
use Rattle.honest_store.specs.StoreMail.{StoreMessage, StoreFolder, StoreMail, IsFolderNamed, folder_called, message_numbered}
use Rattle.honest_store.specs.WellFormed.{IsStoreMail}
use Rattle.honest_store.specs.FolderChanges.{ChangesFolders, CreatesFolder, DeletesFolder, inbox_name, RenamesFolders, ChangesSubscription}
use Rattle.honest_store.specs.Responses.{IsCapability, IsEnabled, MayAnswer, TellsFlags}
use Rattle.honest_store.specs.TrueResponses.{seen_folder, messages_of_selected, TellsTruly}
use Rattle.honest_store.specs.Sessions.{StoreSession, StoreAnswer, CutAnswer, all_responses}
use Rattle.honest_store.specs.Listing.{ListsMail}
use Rattle.honest_store.specs.Selecting.{BeginsFolder, TellsFolder}
use Rattle.honest_store.specs.Fetching.{IsBetween, IsFromOn, TellsHeader, TellsMessages, TellsNoneNewer}
use Rattle.honest_store.specs.MessageCommands.{StoresFlags, MovesOut, Expunges, sent_message, Appends}

-- ---- OK (RFC 9051 section 7.1.1)

-- a folder that isn't INBOX ends; or a name does that no folder has
abbrev pub Deletes : StoreMail → List ℕ → StoreMail → Option StoreFolder → Type 0
Deletes before name after None = Any (λ n. n.name ≡ folder_name name) before.unselectable × ChangesFolders before before.folders [] after
Deletes before name after (Some f) = (f.name ≢ inbox_name) × DeletesFolder before f after

-- the folder has the name that was sent, a delimiter at its end left out (RFC 9051 section 6.3.4)
abbrev pub IsCreatedAs : List ℕ → StoreFolder → Type 0
IsCreatedAs name f = (f.name ≡ folder_name name) ⊎ ((d : ℕ) × (f.delimiter ≡ Some d) × (f.name ++ d ∷ [] ≡ folder_name name))

-- the messages of the folder that the session has selected
abbrev pub messages_in_session : StoreSession → Option (List StoreMessage)
messages_in_session s = messages_of_selected s.selected s.mail

-- the session stays as it is, and this is told
abbrev pub ReadsOnly : StoreSession → Type 0 → StoreSession → Type 0
ReadsOnly s Tells after = (after ≡ s) × Tells

-- the mail is changed, and the folder that is selected stays so
abbrev pub ChangesMail : StoreSession → (StoreMail → Type 0) → StoreSession → Type 0
ChangesMail s To after = (after.selected ≡ s.selected) × To after.mail

-- a folder is selected, and this is done with its message of the UID, where it is there
abbrev pub OnMessage : StoreSession → ℕ → (ℕ → Option StoreMessage → Type 0) → Type 0
OnMessage s u Done =
    (n : ℕ) × (messages : List StoreMessage) × (s.selected ≡ Some n) × (messages_in_session s ≡ Some messages) × Done n (message_numbered messages u)

-- What OK to a command means, at the moment at which it does what it does.
abbrev pub Does : Command → StoreSession → CutAnswer → StoreSession → Type 0
Does command.Capability s a after = ReadsOnly s (Any IsCapability (all_responses a)) after
Does (command.Login user password) s a after = (after.mail ≡ s.mail) × (after.selected ≡ None)
Does command.Enable s a after = ReadsOnly s (Any IsEnabled (all_responses a)) after
Does (command.List special_use) s a after = ReadsOnly s (ListsMail s.mail (all_responses a)) after
Does (command.Select name known) s a after =
    (f : StoreFolder) × (rs : List Response) × IsFolderNamed s.mail name f × (after ≡ record { mail = s.mail; selected = Some f.number })
    × BeginsFolder f.number s.selected a rs × TellsFolder f known rs
Does command.Unselect s a after = IsSome s.selected × (after.mail ≡ s.mail) × (after.selected ≡ None)
Does command.FetchFlags s a after = ReadsOnly s (TellsMessages (messages_in_session s) (λ ms m. Unit {0}) TellsFlags (all_responses a)) after
Does (command.FetchSlice from to modseq) s a after =
    ReadsOnly s (TellsMessages (messages_in_session s) (IsBetween from to) TellsHeader (all_responses a)) after
Does (command.FetchNew from modseq) s a after =
    ReadsOnly s (TellsMessages (messages_in_session s) (IsFromOn from) TellsHeader (all_responses a)
    × TellsNoneNewer (seen_folder s.selected s.mail) (all_responses a)) after
Does (command.FetchBody uid) s a after =
    ReadsOnly s (TellsMessages (messages_in_session s) (λ ms m. m.uid ≡ uid) (λ items. IsSome items.body) (all_responses a)) after
Does (command.Store uid add flags) s a after = ChangesMail s (λ mail. OnMessage s uid (λ n m. StoresFlags s.mail n add flags a mail m)) after
Does (command.Move uid name) s a after = ChangesMail s (λ mail. OnMessage s uid (λ n m. MovesOut s.mail n name a mail m)) after
Does (command.Expunge uid) s a after = ChangesMail s (λ mail. OnMessage s uid (λ n m. Expunges s.mail n a mail m)) after
Does (command.Append name flags date message) s a after = ChangesMail s (Appends s.mail name (sent_message flags date message) a) after
Does (command.Create name) s a after =
    ChangesMail s (λ mail. (f : StoreFolder) × IsCreatedAs name f × CreatesFolder s.mail f mail) after
Does (command.Delete name) s a after = ChangesMail s (λ mail. Deletes s.mail name mail (folder_called s.mail.folders name)) after
Does (command.Rename from to) s a after = ChangesMail s (RenamesFolders s.mail (folder_name from) (folder_name to)) after
Does (command.Subscribe name on) s a after = ChangesMail s (ChangesSubscription s.mail (folder_name name) on) after

-- ---- NO (RFC 9051 section 7.1.2)

-- CAPABILITY and ENABLE are never refused, and UNSELECT only where no folder is selected
abbrev pub MayRefuse : Command → Option ℕ → Type 0
MayRefuse command.Capability selected = ⊥
MayRefuse command.Enable selected = ⊥
MayRefuse command.Unselect selected = selected ≡ None
MayRefuse _ selected = Unit {0}

-- a SELECT that is refused leaves no folder selected (RFC 9051 section 6.3.2)
abbrev pub selected_after_no : Command → Option ℕ → Option ℕ
selected_after_no (command.Select name known) selected = None
selected_after_no _ selected = selected

abbrev pub after_no : Command → StoreSession → StoreSession
after_no c s = record { mail = s.mail; selected = selected_after_no c s.selected }

-- nothing is done
pub record Refuses (c : Command) (s after : StoreSession) : Type 0 where
  pub may : MayRefuse c s.selected
  pub nothing : after ≡ after_no c s

-- ---- the whole

-- what the command does at its own moment, by the status of its tagged response; BAD never comes
abbrev pub Acts : Command → StoreSession → CutAnswer → Status → StoreSession → Type 0
Acts c s a status.Ok after = Does c s a after
Acts c s a status.No after = Refuses c s after
Acts c s a _ after = ⊥

-- An honest answer: the command has its own moment between two of the responses, and each response is true as it comes, while others do
-- steps of the one kind before that moment and of the other behind it. `from` and `to` are the session just before it and just behind it.
pub record HonestBy (Early Late : StoreMail → StoreMail → Type 0) (before : StoreSession) (c : Command) (a : StoreAnswer) (after : StoreSession) : Type 0 where
  pub early : List Response
  pub late : List Response
  pub from : StoreSession
  pub to : StoreSession
  pub whole : a.responses ≡ early ++ late
  pub may_answer : All (MayAnswer c) a.responses
  pub told_early : TellsTruly Early before.selected before.mail early from.mail
  pub still_selected : from.selected ≡ before.selected
  pub acts : Acts c from (record { early = early; late = late; code = a.code }) a.status to
  pub well_formed : IsStoreMail to.mail
  pub told_late : TellsTruly Late to.selected to.mail late after.mail
  pub stays_selected : after.selected ≡ to.selected

-- while others do such steps before the command's moment and behind it
abbrev pub Honest : (StoreMail → StoreMail → Type 0) → StoreSession → Command → StoreAnswer → StoreSession → Type 0
Honest Others before c a after = HonestBy Others Others before c a after

-- ---- commands that read (RFC 9051 section 6)

-- OK to the command leaves the mail
abbrev pub IsReading : Command → Type 0
IsReading (command.Store uid add flags) = ⊥
IsReading (command.Move uid name) = ⊥
IsReading (command.Expunge uid) = ⊥
IsReading (command.Append name flags date message) = ⊥
IsReading (command.Create name) = ⊥
IsReading (command.Delete name) = ⊥
IsReading (command.Rename from to) = ⊥
IsReading (command.Subscribe name on) = ⊥
IsReading _ = Unit {0}
