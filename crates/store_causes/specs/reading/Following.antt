-- A watched plan that is followed.
use Rattle.std.specs.Prelude.{◌≡◌, ℕ, Bool, true, false, List, fold, IfErr, Option, Some, None, Result, Ok, Err}
use Rattle.std.specs.declared.alloc.AllocError.{AllocError}
use Rattle.gate_world.specs.declared.event.Event.{Event}
use Rattle.told_folder.specs.declared.exchange.Exchange.{Exchange}
use Rattle.imap_exchange.specs.declared.link_end.LinkEnd.{LinkEnd}
use Rattle.imap_exchange.specs.declared.link_end.LinkEnd.TheVariants as end
use Rattle.imap_client.specs.declared.plan.Due.{Due}
use Rattle.imap_client.specs.LinkLife.{LinkLife, ClientState}
use Rattle.imap_client.specs.Unread.{LeavesUnread}
use Rattle.imap_client.specs.Plans.{Planned, Follows, HearsAll, StopsAtRefusal}
use Rattle.store_causes.specs.declared.cause.StoreCause.{StoreCause}
use Rattle.store_causes.specs.declared.check.Checked.{Checked}
use Rattle.store_causes.specs.declared.notes.Notes.{Notes}
use Rattle.store_causes.specs.reading.Noting.{noted, cause_at}
use Rattle.store_causes.specs.declared.cause.Asked.TheVariants as asked
use Rattle.store_causes.specs.declared.cause.Breach.TheVariants as breach
use Rattle.store_causes.specs.declared.cause.StoreCause.TheVariants as cause
use Rattle.store_causes.specs.Beginnings.{beginning_after}
use Rattle.store_causes.specs.Causes.{unanswered}
use Rattle.store_causes.specs.Checks.{IsCauseAlone}

abbrev pub is_memory : LinkEnd → Bool
is_memory end.Memory = true
is_memory _ = false

-- what is found where a plan ended so, by the notes then
pub data Finds (now : Due) (notes : Notes) : Result (Unit {0}) LinkEnd → Result (Option StoreCause) AllocError → Type 0 where
  Done : Finds now notes (Ok tt) (Ok None)
  Stopped : (e : LinkEnd) → is_memory e ≡ false → Finds now notes (Err e) (Ok (cause_at notes now e))
  -- out of memory in the life, or after it
  Wanting : (e : LinkEnd) (f : AllocError) → Finds now notes (Err e) (Err f)

-- what is told of the octets that stayed unread, by the cause
abbrev pub beginning_by : List ℕ → Option StoreCause → List ℕ → Option (List ℕ)
beginning_by password (Some (cause.Unanswered asked (breach.Unreadable at))) unread = beginning_after asked password unread
beginning_by password _ unread = None

-- the cause is that octets can't be read
abbrev pub is_unreadable : Option StoreCause → Bool
is_unreadable (Some (cause.Unanswered asked (breach.Unreadable at))) = true
is_unreadable _ = false

-- memory didn't run out
abbrev pub Came : Result (Option StoreCause) AllocError → Type 0
Came (Ok cause) = Unit {0}
Came (Err f) = ⊥

-- The plan was followed, and what is found; its own state, and whether the user is let in, unless memory ran out; and what stays unread.
pub record AsksTo {S : Type 0} (plan : S → Planned) (hears : S → Exchange → S → Type 0) (first last : S) (begun left_notes : Notes) (life left : LinkLife)
    (client : ClientState) (unread : List ℕ) (result : Result (Option StoreCause) AllocError) (events : List Event) : Type 0 where
  pub exchanges : List Exchange
  pub ended : Result (Unit {0}) LinkEnd
  pub follows : Follows (plan first) life left exchanges client ended events
  pub finds : Finds (plan first exchanges) (fold noted begun exchanges) ended result
  pub told : Came result → HearsAll hears first exchanges last
  pub let_in : Came result → left_notes.let_in ≡ (fold noted begun exchanges).let_in
  -- where all is done the notes are whole, and the life goes on
  pub noted_is : ended ≡ Ok tt → left_notes ≡ fold noted begun exchanges
  pub goes_on : ended ≡ Ok tt → StopsAtRefusal (plan first) → client.alive ≡ true
  pub is_over : (e : LinkEnd) → ended ≡ Err e → client.alive ≡ false
  pub leaves : IfErr ended (λ (e : LinkEnd). LeavesUnread e left.gave unread)

-- the cause where no greeting lets the client in
abbrev pub unanswered_greeting : LinkEnd → Option StoreCause
unanswered_greeting e = unanswered asked.Greeting e

-- what is found where the cause is this, and these octets stayed unread
abbrev pub GreetingFinds : List ℕ → Option StoreCause → List ℕ → Result Checked AllocError → Type 0
GreetingFinds password (Some c) unread (Ok checked) = IsCauseAlone c (beginning_by password (Some c) unread) checked
GreetingFinds password (Some c) unread (Err f) = is_unreadable (Some c) ≡ true
GreetingFinds password None unread (Err f) = Unit {0}
GreetingFinds password None unread (Ok checked) = ⊥
