-- A round: LIST, and then for each folder that can be selected, by number, SELECT and what is fetched (RFC 9051
-- sections 6.3.2, 6.3.9 and 6.4.5, RFC 7162 section 3.2.5).
use Rattle.std.specs.Prelude.{◌≡◌, ◌≢◌, ◌<◌, ◌≤◌, ◌^◌, ◌+◌, ◌-◌, ◌==◌, ◌||◌, ◌&&◌, ℕ, Bool, false, not, nat_lt, nat_le, min, List, [], ◌∷◌, codes, bytes_eq, drop, fold}
use Rattle.std.specs.Prelude.{if◌then◌else◌, is_some, slice_get, Option, Some, None, Result, Err}
use Rattle.std.specs.List.{list_any}
use Rattle.gate_world.specs.declared.event.Event.{Event}
use Rattle.imap_types.specs.declared.code.Code.TheVariants as code
use Rattle.imap_types.specs.declared.command.Command.{Command}
use Rattle.imap_types.specs.declared.command.Command.TheVariants as command
use Rattle.imap_types.specs.declared.response.Response.{Response}
use Rattle.imap_types.specs.declared.response.Response.TheVariants as response
use Rattle.imap_types.specs.declared.response.Status.TheVariants as status
use Rattle.told_folder.specs.declared.exchange.Exchange.{Exchange}
use Rattle.told_folder.specs.declared.message.Folder.{Folder}
use Rattle.told_folder.specs.declared.message.NumberedFolder.{NumberedFolder}
use Rattle.told_mail.specs.Mail.{Mail}
use Rattle.told_mail.specs.Told.{Told}
use Rattle.told_mail.specs.Exchanges.{after_closed, last_told, tell, TellsKnown}
use Rattle.imap_exchange.specs.declared.link_end.LinkEnd.{LinkEnd}
use Rattle.imap_exchange.specs.declared.link_end.LinkEnd.TheVariants as end
use Rattle.imap_client.specs.declared.plan.Due.{Due}
use Rattle.imap_client.specs.declared.plan.Due.TheVariants as due
use Rattle.imap_client.specs.declared.plan.Refusal.TheVariants as refusal
use Rattle.imap_client.specs.declared.round.RoundStage.{RoundStage}
use Rattle.imap_client.specs.declared.round.RoundStage.TheVariants as stage
use Rattle.imap_client.specs.declared.round.TheConstants.{SLICE_UIDS, SPARSE_UIDS}
use Rattle.imap_client.specs.Connecting.{is_ok}
use Rattle.imap_client.specs.LinkLife.{LinkLife, ClientState, special_use}
use Rattle.imap_client.specs.Plans.{Planned, Follows}
use Rattle.imap_client.specs.Selecting.{select_of, tells_validity}

-- ---- the count of changes

-- the count never fell, and where it stands, short of its last value, the mail is the same
pub record CountsOn (old new : Told) : Type 0 where
  pub rises : old.changes ≤ new.changes
  pub stands : new.changes ≡ old.changes → new.changes < 2 ^ 64 - 1 → new.mail ≡ old.mail

-- each of these exchanges tells what is known already, where those before it told theirs
abbrev pub AllTellKnown : Mail → List Exchange → Type 0
AllTellKnown m [] = Unit {0}
AllTellKnown m (x ∷ xs) = TellsKnown m x × AllTellKnown (tell m x) xs

-- where each of these exchanges told what was known already, the count is as it was, unless memory ran out
abbrev pub KeepsCount : {A : Type 0} → Told → Told → Result A LinkEnd → List Exchange → Type 0
KeepsCount old new result xs = result ≢ Err end.Memory → AllTellKnown old.mail xs → new.changes ≡ old.changes

-- ---- folders

-- an attribute of a folder that can't be selected (RFC 9051 section 7.3.1)
abbrev pub bars_selection : List ℕ → Bool
bars_selection attribute = bytes_eq attribute (codes "\\noselect") || bytes_eq attribute (codes "\\nonexistent")

abbrev pub is_selectable : NumberedFolder → Bool
is_selectable h = not (list_any bars_selection h.folder.attributes)

-- the place of the first folder that can be selected, where these are the folders from this place on
abbrev pub selectable_from : ℕ → List NumberedFolder → Option ℕ
selectable_from at [] = None
selectable_from at (h ∷ hs) = if is_selectable h then Some at else selectable_from (at + 1) hs

-- ---- commands

abbrev pub has_modseqs : Folder → Bool
has_modseqs f = not (f.modseq == 0)

-- more UIDs may be new than one slice has
abbrev pub is_sliced : ℕ → Folder → Bool
is_sliced uid_next f = nat_lt (f.next + SLICE_UIDS) uid_next

-- a slice of the headers that are new
abbrev pub slice_of : Folder → Command
slice_of f = command.FetchSlice f.next (f.next + (SLICE_UIDS - 1)) (has_modseqs f)

-- all headers that are new
abbrev pub new_of : Folder → Command
new_of f = command.FetchNew (min f.next 4294967295) (has_modseqs f)

-- the next slice, and the rest once that has no more UIDs than a slice
abbrev pub headers_of : ℕ → Folder → Due
headers_of uid_next f = if is_sliced uid_next f then due.Send (slice_of f) else due.Send (new_of f)

-- what is due of a folder; there is always one where a round asks for it
abbrev pub of_folder : (Folder → Due) → Option NumberedFolder → Due
of_folder asked (Some h) = asked h.folder
of_folder asked None = due.Fails refusal.Lacks

abbrev pub round_due : RoundStage → Mail → Due
round_due (stage.Listing special_use) m = due.Send (command.List special_use)
round_due (stage.Selecting at) m = of_folder select_of (slice_get m.folders at)
round_due (stage.FetchingFlags at uid_next) m = due.Send command.FetchFlags
round_due (stage.FetchingHeaders at uid_next) m = of_folder (headers_of uid_next) (slice_get m.folders at)
round_due stage.Finished m = due.Done
round_due (stage.Failing why) m = due.Fails why

-- ---- what is told

abbrev pub uid_next_in : Response → Option ℕ
uid_next_in (response.Untagged status.Ok (code.UidNext n)) = Some n
uid_next_in _ = None

-- the last UIDNEXT that a SELECT tells of its folder; 0 where it tells none
abbrev pub uid_next_told : List Response → ℕ
uid_next_told rs = last_told uid_next_in 0 (after_closed rs)

abbrev pub exists_in : Response → Option ℕ
exists_in (response.Exists n) = Some n
exists_in _ = None

-- the last number of messages that a SELECT tells of its folder (RFC 9051 section 7.4.1); 2^32 - 1 where it tells none
abbrev pub exists_told : List Response → ℕ
exists_told rs = last_told exists_in 4294967295 (after_closed rs)

-- SELECT tells of no more messages than one slice may bring, and of so many UIDs that there were many slices
abbrev pub is_sparse : List Response → Bool
is_sparse rs = nat_le (exists_told rs) SLICE_UIDS && nat_lt SPARSE_UIDS (uid_next_told rs)

-- the UIDNEXT up to which headers are asked for in slices; 0 where the folder is sparse, so that they are asked for at once
abbrev pub sliced_to : List Response → ℕ
sliced_to rs = if is_sparse rs then 0 else uid_next_told rs

-- ---- stages

abbrev pub selecting : Option ℕ → RoundStage
selecting (Some at) = stage.Selecting at
selecting None = stage.Finished

-- the next folder from this place on
abbrev pub next_stage : ℕ → Mail → RoundStage
next_stage at m = selecting (selectable_from at (drop at m.folders))

-- all flags are asked where the folder has no mod-sequences
abbrev pub fetching : ℕ → ℕ → Option NumberedFolder → RoundStage
fetching at uid_next (Some h) = if h.folder.modseq == 0 then stage.FetchingFlags at uid_next else stage.FetchingHeaders at uid_next
fetching at uid_next None = stage.Failing refusal.Lacks

abbrev pub is_sliced_in : ℕ → Option NumberedFolder → Bool
is_sliced_in uid_next (Some h) = is_sliced uid_next h.folder
is_sliced_in uid_next None = false

-- a slice is due
abbrev pub is_slicing : RoundStage → Mail → Bool
is_slicing (stage.FetchingHeaders at uid_next) m = is_sliced_in uid_next (slice_get m.folders at)
is_slicing _ m = false

abbrev pub selected_stage : ℕ → List Response → Mail → RoundStage
selected_stage at rs told = if tells_validity rs then fetching at (sliced_to rs) (slice_get told.folders at) else stage.Failing refusal.Lacks

abbrev pub fetched_stage : Bool → ℕ → ℕ → Mail → RoundStage
fetched_stage sliced at uid_next told = if sliced then stage.FetchingHeaders at uid_next else next_stage (at + 1) told

-- The stage once an exchange is answered OK: whether a slice was due, its responses, and the mail that is told then.
abbrev pub obeyed : RoundStage → Bool → List Response → Mail → RoundStage
obeyed (stage.Listing special_use) sliced rs told = next_stage 0 told
obeyed (stage.Selecting at) sliced rs told = selected_stage at rs told
obeyed (stage.FetchingFlags at uid_next) sliced rs told = stage.FetchingHeaders at uid_next
obeyed (stage.FetchingHeaders at uid_next) sliced rs told = fetched_stage sliced at uid_next told
obeyed stage.Finished sliced rs told = stage.Finished
obeyed (stage.Failing why) sliced rs told = stage.Failing why

abbrev pub round_after : RoundStage → Bool → Exchange → Mail → RoundStage
round_after s sliced x told = if is_ok x.status then obeyed s sliced x.responses told else stage.Failing refusal.Refused

-- a round so far: how far it is, and the mail that is told
pub record RoundState : Type 0 where
  pub stage : RoundStage
  pub mail : Mail

abbrev pub round_step : RoundState → Exchange → RoundState
round_step s x = record { stage = round_after s.stage (is_slicing s.stage s.mail) x (tell s.mail x); mail = tell s.mail x }

-- what a round asks next from here, once these exchanges are completed
abbrev pub round_from : RoundState → Planned
round_from s xs = let now = fold round_step s xs in round_due now.stage now.mail

-- what a round asks, of a store that has SPECIAL-USE or not, where this mail was told before
abbrev pub round_plan : Bool → Mail → Planned
round_plan special_use m = round_from (record { stage = stage.Listing special_use; mail = m })

-- A round in a life, and the life that is left: the mail is what completed exchanges told, in order, unless memory ran out.
pub record Rounds (before after : Mail) (life left : LinkLife) (client : ClientState) (result : Result (Unit {0}) LinkEnd) (events : List Event) : Type 0 where
  pub exchanges : List Exchange
  pub follows : Follows (round_plan (special_use life) before) life left exchanges client result events
  pub told : result ≢ Err end.Memory → after ≡ fold tell before exchanges
