-- The plan by which a client connects.
use Rattle.std.proofs.Common.{Result, Ok, Err, OnOk, ◌≡◌, ◌≢◌, ◌++◌, ℕ, Bool, false, List, [], ◌∷◌, refl, sym, ◌∙◌, ap}
use Rattle.imap_types.specs.declared.command.Command.{Command}
use Rattle.imap_types.specs.declared.response.Status.{Status}
use Rattle.imap_types.specs.declared.response.Status.TheVariants as status
use Rattle.told_folder.specs.declared.exchange.Exchange.{Exchange}
use Rattle.imap_client.specs.declared.plan.Due.TheVariants as due
use Rattle.imap_client.specs.declared.plan.Refusal.{Refusal}
use Rattle.imap_client.specs.declared.plan.Refusal.TheVariants as refusal
use Rattle.imap_client.specs.declared.connection.Stage.{Stage}
use Rattle.imap_client.specs.declared.connection.Stage.TheVariants as stage
use Rattle.imap_client.specs.Connecting.{is_ok, stage_after, due_at, planned_from}
use Rattle.imap_client.specs.Plans.{StopsAtRefusal}

-- a status that is another than OK counts as not OK
pub not_ok : (s : Status) → s ≢ status.Ok → is_ok s ≡ false
not_ok status.Ok other = absurd (other refl)
not_ok status.No other = refl
not_ok status.Bad other = refl
not_ok status.Preauth other = refl
not_ok status.Bye other = refl

-- a stage at which a command is due fails where that is refused
fails_next : (preauth : Bool) (user password : List ℕ) (at : Stage) (command : Command) (x : Exchange) → due_at user password at ≡ due.Send command → is_ok x.status ≡ false
    → (why : Refusal) × (stage_after preauth at x ≡ stage.Failing why)
fails_next preauth user password stage.Asking command x is bad = (refusal.Refused, rw bad refl)
fails_next preauth user password stage.LoggingIn command x is bad = (refusal.Refused, rw bad refl)
fails_next preauth user password stage.AskingAgain command x is bad = (refusal.Refused, rw bad refl)
fails_next preauth user password stage.Enabling command x is bad = (refusal.NoQresync, rw bad refl)
fails_next preauth user password stage.Connected command x is bad = absurd (cc is)
fails_next preauth user password (stage.Failing why) command x is bad = absurd (cc is)

fails_not_done : (why : Refusal) → due.Fails why ≡ due.Done → ⊥
fails_not_done why is = cc

stops_by : (preauth : Bool) (user password : List ℕ) (at : Stage) (xs : List Exchange) (command : Command) (x : Exchange)
    → planned_from preauth user password at xs ≡ due.Send command → is_ok x.status ≡ false → planned_from preauth user password at (xs ++ x ∷ []) ≢ due.Done
stops_by preauth user password at [] command x is bad =
    let next = fails_next preauth user password at command x is bad in
    λ done. fails_not_done next.0 (sym (ap (due_at user password) next.1) ∙ done)
stops_by preauth user password at (y ∷ ys) command x is bad = stops_by preauth user password (stage_after preauth at y) ys command x is bad

-- in connecting, a command that isn't answered OK is never the last of all that is to be done
pub connecting_stops : (preauth : Bool) (user password : List ℕ) (at : Stage) → StopsAtRefusal (planned_from preauth user password at)
connecting_stops preauth user password at = record { stops = λ xs command x is other. stops_by preauth user password at xs command x is (not_ok x.status other) }

-- what follows where a call was Ok
pub on_ok : {A E P Q : Type 0} (r : Result A E) → (P → Q) → OnOk r P → OnOk r Q
on_ok (Ok x) step so = step so
on_ok (Err e) step so = tt
