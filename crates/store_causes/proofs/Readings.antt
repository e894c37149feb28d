-- What plans ask only reads.
use Rattle.std.proofs.Common.{Option, Some, None, ◌≡◌, Bool, true, false, ℕ, List, [], ◌∷◌, subst, fold, slice_get, if◌then◌else◌}
use Rattle.imap_types.specs.declared.command.Command.{Command}
use Rattle.told_folder.specs.declared.exchange.Exchange.{Exchange}
use Rattle.told_folder.specs.declared.message.NumberedFolder.{NumberedFolder}
use Rattle.told_folder.specs.declared.message.Folder.{Folder}
use Rattle.told_mail.specs.Mail.{Mail}
use Rattle.imap_client.specs.declared.plan.Due.{Due}
use Rattle.imap_client.specs.declared.plan.Due.TheVariants as due
use Rattle.imap_client.specs.declared.connection.Stage.{Stage}
use Rattle.imap_client.specs.declared.connection.Stage.TheVariants as stage
use Rattle.imap_client.specs.declared.round.RoundStage.{RoundStage}
use Rattle.imap_client.specs.declared.round.RoundStage.TheVariants as round
use Rattle.imap_client.specs.Connecting.{connect_plan, planned_from, stage_after, due_at}
use Rattle.imap_client.specs.Rounds.{round_plan, round_due, round_step, of_folder, headers_of, is_sliced, slice_of, new_of}
use Rattle.imap_client.specs.Selecting.{select_of}
use Rattle.store_causes.specs.Reads.{OnlyReads}

-- a due that is no command, or one that only reads
abbrev AsksToRead : Due → Type 0
AsksToRead (due.Send command) = OnlyReads command
AsksToRead _ = Unit {0}

read_of : {now : Due} {command : Command} → AsksToRead now → now ≡ due.Send command → OnlyReads command
read_of {now} {command} so is = subst AsksToRead is so

reads_at : (user password : List ℕ) (at : Stage) → AsksToRead (due_at user password at)
reads_at user password stage.Asking = tt
reads_at user password stage.LoggingIn = tt
reads_at user password stage.AskingAgain = tt
reads_at user password stage.Enabling = tt
reads_at user password stage.Connected = tt
reads_at user password (stage.Failing why) = tt

reads_from : (preauth : Bool) (user password : List ℕ) (at : Stage) (xs : List Exchange) → AsksToRead (planned_from preauth user password at xs)
reads_from preauth user password at [] = reads_at user password at
reads_from preauth user password at (x ∷ xs) = reads_from preauth user password (stage_after preauth at x) xs

pub connecting_reads : (preauth : Bool) (user password : List ℕ) (xs : List Exchange) (command : Command) → connect_plan preauth user password xs ≡ due.Send command → OnlyReads command
connecting_reads preauth user password xs command is = read_of (reads_from preauth user password stage.Asking xs) is

folder_reads : (asked : Folder → Due) → ((f : Folder) → AsksToRead (asked f)) → (held : Option NumberedFolder) → AsksToRead (of_folder asked held)
folder_reads asked each (Some h) = each h.folder
folder_reads asked each None = tt

headers_read : (uid_next : ℕ) (f : Folder) → AsksToRead (headers_of uid_next f)
headers_read uid_next f = by (is_sliced uid_next f)
  where
    by : (b : Bool) → AsksToRead (if b then due.Send (slice_of f) else due.Send (new_of f))
    by b = elim b as (λ v. AsksToRead (if v then due.Send (slice_of f) else due.Send (new_of f))) [ true ↦ tt | false ↦ tt ]

stage_reads : (s : RoundStage) (m : Mail) → AsksToRead (round_due s m)
stage_reads (round.Listing special_use) m = tt
stage_reads (round.Selecting at) m = folder_reads select_of (λ f. tt) (slice_get m.folders at)
stage_reads (round.FetchingFlags at uid_next) m = tt
stage_reads (round.FetchingHeaders at uid_next) m = folder_reads (headers_of uid_next) (headers_read uid_next) (slice_get m.folders at)
stage_reads round.Finished m = tt
stage_reads (round.Failing why) m = tt

pub round_reads : (special_use : Bool) (m : Mail) (xs : List Exchange) (command : Command) → round_plan special_use m xs ≡ due.Send command → OnlyReads command
round_reads special_use m xs command is =
    let now = fold round_step (record { stage = round.Listing special_use; mail = m }) xs in read_of (stage_reads now.stage now.mail) is
