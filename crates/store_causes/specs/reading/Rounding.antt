-- Rounds that are followed.
use Rattle.std.specs.Prelude.{◌≡◌, ◌++◌, ℕ, Bool, true, false, List, fold, Option, Some, Result, Ok, Err}
use Rattle.std.specs.declared.alloc.AllocError.{AllocError}
use Rattle.gate_world.specs.declared.event.Event.{Event}
use Rattle.told_folder.specs.declared.exchange.Exchange.{Exchange}
use Rattle.told_mail.specs.Exchanges.{tell}
use Rattle.told_mail.specs.Mail.{Mail}
use Rattle.imap_exchange.specs.declared.link_end.LinkEnd.{LinkEnd}
use Rattle.imap_client.specs.LinkLife.{LinkLife, ClientState, selected_after, special_use}
use Rattle.imap_client.specs.Plans.{Follows}
use Rattle.imap_client.specs.Rounds.{round_plan}
use Rattle.store_causes.specs.Beginnings.{beginning_told}
use Rattle.store_causes.specs.Causes.{IsOutcome, StopsBy, let_in_after}
use Rattle.store_causes.specs.Checks.{no_mail}
use Rattle.store_causes.specs.declared.cause.StoreCause.{StoreCause}
use Rattle.store_causes.specs.declared.check.Checked.{Checked}
use Rattle.store_causes.specs.declared.notes.Notes.{Notes}
use Rattle.store_causes.specs.declared.rounds.RoundFound.{RoundFound}
use Rattle.store_causes.specs.reading.Noting.{noted}

-- a round after this mail, which was followed after these notes, and what is found
pub record FindsInRound (password : List ℕ) (uses : Bool) (before : Mail) (notes : Notes) (life left : LinkLife) (client : ClientState) (found : RoundFound) (events : List Event) : Type 0 where
  pub exchanges : List Exchange
  pub ended : Result (Unit {0}) LinkEnd
  pub follows : Follows (round_plan uses before) life left exchanges client ended events
  pub outcome : IsOutcome notes.let_in notes.selected exchanges (round_plan uses before exchanges) ended found.cause
  pub mail : found.mirror.mail ≡ fold tell before exchanges
  pub beginning : found.beginning ≡ beginning_told password found.cause left.gave
  -- where all is done the notes are whole, and the life goes on
  pub noted_is : ended ≡ Ok tt → found.notes ≡ fold noted notes exchanges
  pub goes_on : ended ≡ Ok tt → client.alive ≡ true
  pub is_over : (e : LinkEnd) → ended ≡ Err e → client.alive ≡ false

-- the same, where memory ran out
pub record WantsInRound (uses : Bool) (before : Mail) (life left : LinkLife) (client : ClientState) (events : List Event) : Type 0 where
  pub exchanges : List Exchange
  pub ended : Result (Unit {0}) LinkEnd
  pub follows : Follows (round_plan uses before) life left exchanges client ended events

abbrev pub RoundsTo : List ℕ → Bool → Mail → Notes → LinkLife → LinkLife → ClientState → Result RoundFound AllocError → List Event → Type 0
RoundsTo password uses before notes life left client (Ok found) events = FindsInRound password uses before notes life left client found events
RoundsTo password uses before notes life left client (Err f) events = WantsInRound uses before life left client events

-- what is found after these notes, by a round of these exchanges, and by a second one or not
pub record IsReadBy (password : List ℕ) (preauth uses : Bool) (notes : Notes) (round : List Exchange) (again : Bool) (cause : Option StoreCause) (gave : List ℕ)
    (checked : Checked) : Type 0 where
  pub greeting : checked.preauth ≡ Some preauth
  pub let_in : checked.let_in ≡ notes.let_in
  pub special_use_is : checked.special_use ≡ uses
  pub mail : checked.mirror.mail ≡ fold tell no_mail round
  pub cause_is : checked.cause ≡ cause
  pub again_is : checked.again ≡ again
  pub beginning : checked.beginning ≡ beginning_told password cause gave

-- A round over no mail after these notes, and then one over the mail that it told; or memory ran out.
pub data ReadsTo (password : List ℕ) (preauth : Bool) (notes : Notes) (life left : LinkLife) (client : ClientState) (events : List Event) : Result Checked AllocError → Type 0 where
  ReadsOnce : (ys : List Exchange) (e : LinkEnd) (c : StoreCause) (checked : Checked)
      → Follows (round_plan (special_use life) no_mail) life left ys client (Err e) events
      → StopsBy notes.let_in notes.selected ys (round_plan (special_use life) no_mail ys) e c
      → IsReadBy password preauth (special_use life) notes ys false (Some c) left.gave checked → ReadsTo password preauth notes life left client events (Ok checked)
  ReadsTwice : (ys zs : List Exchange) (read : LinkLife) (was : ClientState) (first second : List Event) (ended : Result (Unit {0}) LinkEnd)
      (c : Option StoreCause) (checked : Checked) → events ≡ first ++ second
      → Follows (round_plan (special_use life) no_mail) life read ys was (Ok tt) first
      → Follows (round_plan (special_use life) (fold tell no_mail ys)) read left zs client ended second
      → IsOutcome (fold let_in_after notes.let_in ys) (fold selected_after notes.selected ys) zs (round_plan (special_use life) (fold tell no_mail ys) zs) ended c
      → IsReadBy password preauth (special_use life) notes ys true c left.gave checked → ReadsTo password preauth notes life left client events (Ok checked)
  WantsOnce : (ys : List Exchange) (ended : Result (Unit {0}) LinkEnd) (f : AllocError)
      → Follows (round_plan (special_use life) no_mail) life left ys client ended events → ReadsTo password preauth notes life left client events (Err f)
  WantsTwice : (ys zs : List Exchange) (read : LinkLife) (was : ClientState) (first second : List Event) (ended : Result (Unit {0}) LinkEnd) (f : AllocError)
      → events ≡ first ++ second → Follows (round_plan (special_use life) no_mail) life read ys was (Ok tt) first
      → Follows (round_plan (special_use life) (fold tell no_mail ys)) read left zs client ended second → ReadsTo password preauth notes life left client events (Err f)
