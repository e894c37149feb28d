-- What connecting, a round and the fetch of a body send changes nothing.
use Rattle.std.proofs.Common.{◌≡◌, ℕ, Bool, true, false, List, [], ◌∷◌, Option, Some, None, fold, if◌then◌else◌, refl, sym, ◌∙◌, ap}
use Rattle.imap_types.specs.declared.command.Command.{Command}
use Rattle.imap_types.specs.declared.command.Command.TheVariants as command
use Rattle.told_folder.specs.declared.exchange.Exchange.{Exchange}
use Rattle.told_folder.specs.declared.message.Folder.{Folder}
use Rattle.told_folder.specs.declared.message.NumberedFolder.{NumberedFolder}
use Rattle.told_mail.specs.Mail.{Mail, folder_in}
use Rattle.told_changes.specs.Told.{is_changing}
use Rattle.imap_client.specs.Bodies.{BodyState, body_due, body_from, body_start, body_step, select_due}
use Rattle.imap_client.specs.Connecting.{connect_plan, due_at, planned_from, stage_after}
use Rattle.imap_client.specs.Rounds.{RoundState, headers_of, is_sliced, new_of, of_folder, round_due, round_plan, round_step, slice_of}
use Rattle.imap_client.specs.Selecting.{known_folder, select_of}
use Rattle.imap_client.specs.declared.body.BodyStage.{BodyStage}
use Rattle.imap_client.specs.declared.body.BodyStage.TheVariants as body
use Rattle.imap_client.specs.declared.connection.Stage.{Stage}
use Rattle.imap_client.specs.declared.connection.Stage.TheVariants as connecting
use Rattle.imap_client.specs.declared.plan.Due.{Due}
use Rattle.imap_client.specs.declared.plan.Due.TheVariants as due
use Rattle.imap_client.specs.declared.round.RoundStage.{RoundStage}
use Rattle.imap_client.specs.declared.round.RoundStage.TheVariants as round
use Rattle.append_laws.specs.Reading.{ChangesNothing}

-- what is due is no command that changes mail
abbrev Reads : Due → Type 0
Reads d = (c : Command) → d ≡ due.Send c → is_changing c ≡ false

sends_read : (c : Command) → is_changing c ≡ false → Reads (due.Send c)
sends_read c reads = λ d is. (let same : c ≡ d = cc in ap is_changing (sym same) ∙ reads)

select_reads : (f : Folder) → Reads (select_of f)
select_reads f = sends_read (command.Select f.name (known_folder f)) refl

-- ---- connecting

connect_reads : (user password : List ℕ) (s : Stage) → Reads (due_at user password s)
connect_reads user password connecting.Asking = sends_read command.Capability refl
connect_reads user password connecting.LoggingIn = sends_read (command.Login user password) refl
connect_reads user password connecting.AskingAgain = sends_read command.Capability refl
connect_reads user password connecting.Enabling = sends_read command.Enable refl
connect_reads user password connecting.Connected = λ c is. absurd (cc)
connect_reads user password (connecting.Failing why) = λ c is. absurd (cc)

planned_reads : (preauth : Bool) (user password : List ℕ) (s : Stage) (xs : List Exchange) → Reads (planned_from preauth user password s xs)
planned_reads preauth user password s [] = connect_reads user password s
planned_reads preauth user password s (x ∷ xs) = planned_reads preauth user password (stage_after preauth s x) xs

pub connecting_reads : (preauth : Bool) (user password : List ℕ) → ChangesNothing (connect_plan preauth user password)
connecting_reads preauth user password xs = planned_reads preauth user password connecting.Asking xs

-- ---- a round

headers_read : (uid_next : ℕ) (f : Folder) → Reads (headers_of uid_next f)
headers_read uid_next f = by (is_sliced uid_next f)
  where
    by : (b : Bool) → Reads (if b then due.Send (slice_of f) else due.Send (new_of f))
    by true = sends_read (slice_of f) refl
    by false = sends_read (new_of f) refl

folder_reads : (asked : Folder → Due) → ((f : Folder) → Reads (asked f)) → (o : Option NumberedFolder) → Reads (of_folder asked o)
folder_reads asked reads None = λ c is. absurd (cc)
folder_reads asked reads (Some h) = reads h.folder

round_reads : (s : RoundStage) (m : Mail) → Reads (round_due s m)
round_reads (round.Listing special_use) m = sends_read (command.List special_use) refl
round_reads (round.Selecting at) m = folder_reads select_of select_reads _
round_reads (round.FetchingFlags at uid_next) m = sends_read command.FetchFlags refl
round_reads (round.FetchingHeaders at uid_next) m = folder_reads (headers_of uid_next) (headers_read uid_next) _
round_reads round.Finished m = λ c is. absurd (cc)
round_reads (round.Failing why) m = λ c is. absurd (cc)

pub rounds_read : (special_use : Bool) (m : Mail) → ChangesNothing (round_plan special_use m)
rounds_read special_use m xs =
    let begun : RoundState = record { stage = round.Listing special_use; mail = m } in
    let now : RoundState = fold round_step begun xs in
    round_reads now.stage now.mail

-- ---- the fetch of a body

selects_read : (o : Option Folder) → Reads (select_due o)
selects_read None = λ c is. absurd (cc)
selects_read (Some f) = select_reads f

fetch_reads : (folder uid : ℕ) (s : BodyStage) (m : Mail) → Reads (body_due folder uid s m)
fetch_reads folder uid body.Selecting m = selects_read (folder_in m.folders folder)
fetch_reads folder uid body.Fetching m = sends_read (command.FetchBody uid) refl
fetch_reads folder uid (body.Fetched octets) m = λ c is. absurd (cc)
fetch_reads folder uid (body.Failing why) m = λ c is. absurd (cc)

pub fetches_read : (folder uid : ℕ) (selected : Option (List ℕ)) (m : Mail) → ChangesNothing (body_from folder uid (body_start selected m folder))
fetches_read folder uid selected m xs =
    let now : BodyState = fold (body_step folder uid) (body_start selected m folder) xs in
    fetch_reads folder uid now.stage now.mail
