-- What is found in a check hides the password.
use Rattle.std.proofs.Common.{◌≡◌, ◌≢◌, ◌++◌, ℕ, Bool, List, [], Option, Some, None, Result, Ok, Err, sym, ◌∙◌, subst}
use Rattle.std.specs.declared.alloc.AllocError.{AllocError}
use Rattle.gate_world.specs.declared.event.Event.{Event}
use Rattle.imap_exchange.specs.declared.link_end.LinkEnd.{LinkEnd}
use Rattle.imap_client.specs.LinkLife.{LinkLife, ClientState}
use Rattle.store_causes.specs.declared.cause.StoreCause.{StoreCause}
use Rattle.store_causes.specs.declared.check.Checked.{Checked}
use Rattle.store_causes.specs.Beginnings.{beginning_told}
use Rattle.store_causes.specs.Checks.{FindsCause, AsksStore, Unconnected, Unread, Read, WantsConnected, WantsMail, WantsMore, Meets, Welcome, Unwelcome, Checks, Unreached, Reached, Unready}
use Rattle.store_causes.proofs.Beginnings.{told_hides}

-- if anything is found, what is told of it hides the password
abbrev HidesIn : List ℕ → Result Checked AllocError → Type 0
HidesIn password (Ok checked) =
    (told before after : List ℕ) → password ≢ [] → checked.beginning ≡ Some told → told ≢ before ++ (password ++ after)
HidesIn password (Err f) = Unit {0}

found_hides : (password : List ℕ) (found : Option StoreCause) (gave : List ℕ) (checked : Checked) → checked.beginning ≡ beginning_told password found gave
    → HidesIn password (Ok checked)
found_hides password found gave checked is = λ told before after some told_is. told_hides password found gave told before after some (sym is ∙ told_is)

asks_hide : {preauth : Bool} {user password : List ℕ} {life left : LinkLife} {client : ClientState} {events : List Event} {result : Result Checked AllocError}
    → AsksStore preauth user password life left client events result → HidesIn password result
asks_hide {password = password} {left = left} (Unconnected xs e c checked f so found) = found_hides password (Some c) left.gave checked found.beginning
asks_hide {password = password} {left = left} (Unread xs ys mid was first second e c checked whole f g so found) =
    found_hides password (Some c) left.gave checked found.beginning
asks_hide {password = password} {left = left} (Read xs ys zs mid read was met first second third ended c checked whole f g h so found) =
    found_hides password c left.gave checked found.beginning
asks_hide (WantsConnected xs e f' f) = tt
asks_hide (WantsMail xs ys mid was first second ended f' whole f g) = tt
asks_hide (WantsMore xs ys zs mid read was met first second third ended f' whole f g h) = tt

greeting_hides : (password : List ℕ) (e : LinkEnd) (gave : List ℕ) (result : Result Checked AllocError) → FindsCause password e gave result → HidesIn password result
greeting_hides password e gave (Ok checked) (c, is, alone) = found_hides password (Some c) gave checked alone.beginning_is
greeting_hides password e gave (Err f) can = tt

meets_hide : {user password : List ℕ} {result : Result Checked AllocError} {events : List Event} → Meets user password result events → HidesIn password result
meets_hide (Welcome preauth life left met client talk asking hanging whole is_met asks hangs) = asks_hide asks
meets_hide {password = password} {result} (Unwelcome e u finds) = greeting_hides password e u.gave result finds

pub checks_hide : (user password : List ℕ) (result : Result Checked AllocError) (events : List Event) → Checks user password result events → HidesIn password result
checks_hide user password result events (Unreached checked whole is alone) =
    subst (λ (r : Result Checked AllocError). HidesIn password r) (sym is) (found_hides password None [] checked alone.beginning_is)
checks_hide user password result events (Reached life whole meets) = meets_hide meets
checks_hide user password result events (Unready f whole is) = subst (λ (r : Result Checked AllocError). HidesIn password r) (sym is) tt
