-- A round, and the fetch of a body, send no command that changes mail, so what their exchanges tell is told as changes are.
use Rattle.std.proofs.Common.{◌≡◌, ◌≢◌, ℕ, Bool, true, false, List, [], ◌∷◌, Option, Some, None, Result, Err, fold, if◌then◌else◌, refl, sym, ◌∙◌, ap}
use Rattle.std.proofs.lemmas.List.Sums.{fold-append}
use Rattle.gate_world.specs.declared.event.Event.{Event}
use Rattle.imap_types.specs.declared.command.Command.{Command}
use Rattle.imap_types.specs.declared.command.Command.TheVariants as command
use Rattle.told_folder.specs.declared.exchange.Exchange.{Exchange}
use Rattle.told_folder.specs.declared.message.Folder.{Folder}
use Rattle.told_folder.specs.declared.message.NumberedFolder.{NumberedFolder}
use Rattle.told_mail.specs.Exchanges.{tell}
use Rattle.told_mail.specs.Mail.{Mail, folder_in}
use Rattle.told_changes.specs.Told.{is_changing, told}
use Rattle.imap_exchange.specs.declared.link_end.LinkEnd.{LinkEnd}
use Rattle.imap_exchange.specs.declared.link_end.LinkEnd.TheVariants as end
use Rattle.imap_client.specs.declared.body.BodyStage.{BodyStage}
use Rattle.imap_client.specs.declared.body.BodyStage.TheVariants as body_stage
use Rattle.imap_client.specs.declared.plan.Due.{Due}
use Rattle.imap_client.specs.declared.plan.Due.TheVariants as due
use Rattle.imap_client.specs.declared.round.RoundStage.{RoundStage}
use Rattle.imap_client.specs.declared.round.RoundStage.TheVariants as stage
use Rattle.imap_client.specs.Bodies.{BodyState, FetchesBody, body_due, body_from, body_start, body_step, select_due}
use Rattle.imap_client.specs.LinkLife.{LinkLife, ClientState, selected, special_use}
use Rattle.imap_client.specs.Plans.{Planned, Ran, Begun, Then}
use Rattle.imap_client.specs.Rounds.{RoundState, Rounds, headers_of, is_sliced, new_of, of_folder, round_due, round_from, round_step, slice_of}
use Rattle.imap_client.specs.Selecting.{known_folder, select_of}

-- what is proved of commands that read
abbrev pub ReadingTells : Type 0
ReadingTells = (m : Mail) (x : Exchange) → is_changing x.command ≡ false → told m x ≡ tell m x

-- ---- what is due

-- what is due sends no command that changes mail
abbrev Reads : Due → Type 0
Reads d = (c : Command) → d ≡ due.Send c → is_changing c ≡ false

sends_read : (c : Command) → is_changing c ≡ false → Reads (due.Send c)
sends_read c reads = λ d is. (let same : c ≡ d = cc in ap is_changing (sym same) ∙ reads)

select_reads : (f : Folder) → Reads (select_of f)
select_reads f = sends_read (command.Select f.name (known_folder f)) refl

headers_read : (uid_next : ℕ) (f : Folder) → Reads (headers_of uid_next f)
headers_read uid_next f = by (is_sliced uid_next f)
  where
    by : (b : Bool) → Reads (if b then due.Send (slice_of f) else due.Send (new_of f))
    by true = sends_read (slice_of f) refl
    by false = sends_read (new_of f) refl

folder_reads : (asked : Folder → Due) → ((f : Folder) → Reads (asked f)) → (o : Option NumberedFolder) → Reads (of_folder asked o)
folder_reads asked reads None = λ c is. absurd (cc)
folder_reads asked reads (Some h) = reads h.folder

round_reads : (s : RoundStage) (m : Mail) → Reads (round_due s m)
round_reads (stage.Listing special_use) m = sends_read (command.List special_use) refl
round_reads (stage.Selecting at) m = folder_reads select_of select_reads _
round_reads (stage.FetchingFlags at uid_next) m = sends_read command.FetchFlags refl
round_reads (stage.FetchingHeaders at uid_next) m = folder_reads (headers_of uid_next) (headers_read uid_next) _
round_reads stage.Finished m = λ c is. absurd (cc)
round_reads (stage.Failing why) m = λ c is. absurd (cc)

selects_read : (o : Option Folder) → Reads (select_due o)
selects_read None = λ c is. absurd (cc)
selects_read (Some f) = select_reads f

fetch_reads : (folder uid : ℕ) (s : BodyStage) (m : Mail) → Reads (body_due folder uid s m)
fetch_reads folder uid body_stage.Selecting m = selects_read (folder_in m.folders folder)
fetch_reads folder uid body_stage.Fetching m = sends_read (command.FetchBody uid) refl
fetch_reads folder uid (body_stage.Fetched body) m = λ c is. absurd (cc)
fetch_reads folder uid (body_stage.Failing why) m = λ c is. absurd (cc)

-- ---- what is told

ran_alike : ReadingTells → (plan : Planned) → ((xs : List Exchange) → Reads (plan xs)) → {life : LinkLife} {xs : List Exchange} {after : LinkLife} {events : List Event}
    → Ran plan life xs after events → (m : Mail) → fold tell m xs ≡ fold told m xs
ran_alike law plan reads Begun m = refl
ran_alike law plan reads (Then {heard = xs} next ran) m =
    let x : Exchange = next.exchange in
    let read : is_changing x.command ≡ false = ap is_changing next.completes.command_is ∙ reads xs next.command next.asked in
    fold-append tell m xs (x ∷ [])
    ∙ (sym (law (fold tell m xs) x read)
    ∙ (ap (λ (n : Mail). told n x) (ran_alike law plan reads ran m)
    ∙ sym (fold-append told m xs (x ∷ []))))

-- what a round told, unless memory ran out
pub round_told : ReadingTells → {before after : Mail} {life left : LinkLife} {client : ClientState} {result : Result (Unit {0}) LinkEnd} {events : List Event}
    (rounds : Rounds before after life left client result events) → result ≢ Err end.Memory → after ≡ fold told before rounds.exchanges
round_told law {before} {after} {life} rounds well =
    let begun : RoundState = record { stage = stage.Listing (special_use life); mail = before } in
    rounds.told well
    ∙ ran_alike law (round_from begun) (λ xs. (let now : RoundState = fold round_step begun xs in round_reads now.stage now.mail)) rounds.follows.ran before

-- what the fetch of a body told
pub fetch_told : ReadingTells → {folder uid : ℕ} {before after : Mail} {life left : LinkLife} {client : ClientState} {result : Result (List ℕ) LinkEnd} {events : List Event}
    (fetches : FetchesBody folder uid before after life left client result events) → result ≢ Err end.Memory → after ≡ fold told before fetches.exchanges
fetch_told law {folder} {uid} {before} {after} {life} fetches well =
    let begun : BodyState = body_start (selected life) before folder in
    fetches.told well
    ∙ ran_alike law (body_from folder uid begun) (λ xs. (let now : BodyState = fold (body_step folder uid) begun xs in fetch_reads folder uid now.stage now.mail))
    fetches.follows.ran before
