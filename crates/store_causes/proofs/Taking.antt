-- What a store takes in a check.
use Rattle.std.proofs.Common.{◌≡◌, ◌++◌, ◌+◌, ℕ, Bool, false, List, [], ◌∷◌, Result, length, fold, refl, sym, ◌∙◌, ap, subst, if◌then◌else◌}
use Rattle.std.specs.List.{flat_map}
use Rattle.std.proofs.lemmas.List.Concat.{flat_map-append}
use Rattle.std.proofs.lemmas.List.Sums.{fold-append}
use Rattle.std.specs.declared.alloc.AllocError.{AllocError}
use Rattle.gate_world.specs.declared.event.Event.{Event}
use Rattle.gate_world.specs.declared.event.Event.TheVariants.{Dialed, LinkEnded}
use Rattle.gate_world.specs.Octets.{store_took_in}
use Rattle.imap_types.specs.declared.command.Command.{Command}
use Rattle.told_folder.specs.declared.exchange.Exchange.{Exchange}
use Rattle.told_mail.specs.Exchanges.{tell}
use Rattle.told_mail.specs.Mail.{Mail}
use Rattle.imap_exchange.specs.declared.link_end.LinkEnd.{LinkEnd}
use Rattle.imap_client.specs.declared.connection.Stage.{Stage}
use Rattle.imap_client.specs.declared.connection.Stage.TheVariants as stage
use Rattle.imap_client.specs.declared.plan.Due.{Due}
use Rattle.imap_client.specs.declared.plan.Due.TheVariants as due
use Rattle.imap_client.specs.declared.plan.Refusal.{Refusal}
use Rattle.imap_client.specs.declared.plan.Refusal.TheVariants as refusal
use Rattle.imap_client.specs.declared.round.RoundStage.TheVariants as round
use Rattle.imap_client.specs.Connecting.{IsUnwelcome, connect_plan, due_at, is_ok, planned_from, stage_after}
use Rattle.imap_client.specs.LinkLife.{LinkLife, ClientState, next_number, special_use}
use Rattle.imap_client.specs.Rounds.{RoundState, is_slicing, obeyed, round_due, round_plan, round_step}
use Rattle.store_causes.specs.declared.check.Checked.{Checked}
use Rattle.store_causes.specs.Checks.{no_mail, AsksStore, Unconnected, Unread, Read, WantsConnected, WantsMail, WantsMore, Meets, Welcome, Unwelcome, Checks, Unreached, Reached, Unready}
use Rattle.store_causes.specs.Reads.{TakesReads}
use Rattle.store_causes.proofs.Readings.{connecting_reads, round_reads}
use Rattle.store_causes.proofs.Sending.{Halts, follow_takes, done_takes, then_takes, none_takes, before_takes, after_takes, hung_takes}

-- ---- plans that end at a refusal

fails_next : (preauth : Bool) (user password : List ℕ) (at : Stage) (command : Command) (x : Exchange) → due_at user password at ≡ due.Send command
    → is_ok x.status ≡ false → (why : Refusal) × (stage_after preauth at x ≡ stage.Failing why)
fails_next preauth user password stage.Asking command x is bad = (refusal.Refused, rw bad refl)
fails_next preauth user password stage.LoggingIn command x is bad = (refusal.Refused, rw bad refl)
fails_next preauth user password stage.AskingAgain command x is bad = (refusal.Refused, rw bad refl)
fails_next preauth user password stage.Enabling command x is bad = (refusal.NoQresync, rw bad refl)
fails_next preauth user password stage.Connected command x is bad = absurd (cc is)
fails_next preauth user password (stage.Failing why) command x is bad = absurd (cc is)

halts_from : (preauth : Bool) (user password : List ℕ) (at : Stage) → Halts (planned_from preauth user password at)
halts_from preauth user password at [] command x is bad =
    let next = fails_next preauth user password at command x is bad in (next.0, ap (due_at user password) next.1)
halts_from preauth user password at (y ∷ ys) command x is bad = halts_from preauth user password (stage_after preauth at y) ys command x is bad

connecting_halts : (preauth : Bool) (user password : List ℕ) → Halts (connect_plan preauth user password)
connecting_halts preauth user password = halts_from preauth user password stage.Asking

abbrev due_in : RoundState → Due
due_in s = round_due s.stage s.mail

refused_step : (s : RoundState) (x : Exchange) → is_ok x.status ≡ false → due_in (round_step s x) ≡ due.Fails refusal.Refused
refused_step s x bad =
    (λ i. round_due (if bad i then obeyed s.stage (is_slicing s.stage s.mail) x.responses (tell s.mail x) else round.Failing refusal.Refused) (tell s.mail x))

round_halts : (uses : Bool) (m : Mail) → Halts (round_plan uses m)
round_halts uses m xs command x is bad =
    let begun : RoundState = record { stage = round.Listing uses; mail = m } in
    (refusal.Refused, ap due_in (fold-append round_step begun xs (x ∷ [])) ∙ refused_step (fold round_step begun xs) x bad)

-- ---- what is asked after a greeting

asks_take : {preauth : Bool} {user password : List ℕ} {life left : LinkLife} {client : ClientState} {events : List Event} {result : Result Checked AllocError}
    → AsksStore preauth user password life left client events result → TakesReads (next_number life) events
asks_take {preauth} {user} {password} (Unconnected xs e c checked f so found) =
    follow_takes (connect_plan preauth user password) (connecting_halts preauth user password) (connecting_reads preauth user password) f
asks_take {preauth} {user} {password} {life} (Unread xs ys mid was first second e c checked whole f g so found) =
    subst (λ (l : List Event). TakesReads (next_number life) l) (sym whole)
    (then_takes first second
    (done_takes (connect_plan preauth user password) (connecting_halts preauth user password) (connecting_reads preauth user password) f)
    (follow_takes (round_plan (special_use mid) no_mail) (round_halts (special_use mid) no_mail) (round_reads (special_use mid) no_mail) g))
asks_take {preauth} {user} {password} {life} (Read xs ys zs mid read was met first second third ended c checked whole f g h so found) =
    let told : Mail = fold tell no_mail ys in
    subst (λ (l : List Event). TakesReads (next_number life) l) (sym whole)
    (then_takes first (second ++ third)
    (done_takes (connect_plan preauth user password) (connecting_halts preauth user password) (connecting_reads preauth user password) f)
    (then_takes second third
    (done_takes (round_plan (special_use mid) no_mail) (round_halts (special_use mid) no_mail) (round_reads (special_use mid) no_mail) g)
    (follow_takes (round_plan (special_use mid) told) (round_halts (special_use mid) told) (round_reads (special_use mid) told) h)))
asks_take {preauth} {user} {password} (WantsConnected xs e f' f) =
    follow_takes (connect_plan preauth user password) (connecting_halts preauth user password) (connecting_reads preauth user password) f
asks_take {preauth} {user} {password} {life} (WantsMail xs ys mid was first second ended f' whole f g) =
    subst (λ (l : List Event). TakesReads (next_number life) l) (sym whole)
    (then_takes first second
    (done_takes (connect_plan preauth user password) (connecting_halts preauth user password) (connecting_reads preauth user password) f)
    (follow_takes (round_plan (special_use mid) no_mail) (round_halts (special_use mid) no_mail) (round_reads (special_use mid) no_mail) g))
asks_take {preauth} {user} {password} {life} (WantsMore xs ys zs mid read was met first second third ended f' whole f g h) =
    let told : Mail = fold tell no_mail ys in
    subst (λ (l : List Event). TakesReads (next_number life) l) (sym whole)
    (then_takes first (second ++ third)
    (done_takes (connect_plan preauth user password) (connecting_halts preauth user password) (connecting_reads preauth user password) f)
    (then_takes second third
    (done_takes (round_plan (special_use mid) no_mail) (round_halts (special_use mid) no_mail) (round_reads (special_use mid) no_mail) g)
    (follow_takes (round_plan (special_use mid) told) (round_halts (special_use mid) told) (round_reads (special_use mid) told) h)))

-- ---- a life, and a check

unwelcome_takes : {e : LinkEnd} {events : List Event} → IsUnwelcome e events → flat_map store_took_in events ≡ []
unwelcome_takes u =
    ap (λ (l : List Event). flat_map store_took_in l) u.whole ∙ flat_map-append store_took_in u.talk (LinkEnded ∷ [])
    ∙ ap (λ (l : List ℕ). l ++ []) u.first.said.took_is

meets_take : {user password : List ℕ} {result : Result Checked AllocError} {events : List Event} → Meets user password result events → TakesReads 1 events
meets_take (Welcome preauth life left met client talk asking hanging whole is_met asks hangs) =
    let one : next_number life ≡ 1 = ap (λ (xs : List Exchange). length xs + 1) is_met.new.unasked in
    subst (λ (l : List Event). TakesReads 1 l) (sym whole)
    (before_takes talk (asking ++ hanging) is_met.first.said.took_is
    (after_takes asking hanging (subst (λ (k : ℕ). TakesReads k asking) one (asks_take asks)) (hung_takes client.alive hanging hangs)))
meets_take {events = events} (Unwelcome e u finds) = none_takes 1 events (unwelcome_takes u)

-- all that the store took in a check is a front of the texts of commands that only read
pub checks_take : (user password : List ℕ) (result : Result Checked AllocError) (events : List Event) → Checks user password result events → TakesReads 1 events
checks_take user password result events (Unreached checked whole is alone) = none_takes 1 events (ap (λ (l : List Event). flat_map store_took_in l) whole)
checks_take user password result events (Reached life whole meets) =
    subst (λ (l : List Event). TakesReads 1 l) (sym whole) (before_takes (Dialed ∷ []) life refl (meets_take meets))
checks_take user password result events (Unready f whole is) = none_takes 1 events (ap (λ (l : List Event). flat_map store_took_in l) whole)
