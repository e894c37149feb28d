-- A check: one link life in which a store is asked what serving asks at its first request and at the next, and what is found.
use Rattle.std.specs.Prelude.{◌≡◌, ◌++◌, ℕ, Bool, true, false, List, [], ◌∷◌, fold, Option, Some, None, Result, Ok, Err}
use Rattle.std.specs.declared.alloc.AllocError.{AllocError}
use Rattle.gate_world.specs.declared.event.Event.{Event}
use Rattle.gate_world.specs.declared.event.Event.TheVariants.{Dialed, LinkEnded}
use Rattle.told_folder.specs.declared.exchange.Exchange.{Exchange}
use Rattle.told_mail.specs.Mail.{Mail}
use Rattle.told_mail.specs.Exchanges.{tell}
use Rattle.imap_exchange.specs.declared.link_end.LinkEnd.{LinkEnd}
use Rattle.imap_exchange.specs.declared.link_end.LinkEnd.TheVariants as end
use Rattle.imap_exchange.specs.Answering.{HangsUp}
use Rattle.imap_client.specs.Connecting.{connect_plan, IsMet, IsUnwelcome}
use Rattle.imap_client.specs.LinkLife.{LinkLife, ClientState, selected_after, special_use}
use Rattle.imap_client.specs.Plans.{Follows}
use Rattle.imap_client.specs.Rounds.{round_plan}
use Rattle.store_causes.specs.declared.cause.Asked.TheVariants as asked
use Rattle.store_causes.specs.declared.cause.StoreCause.{StoreCause}
use Rattle.store_causes.specs.declared.cause.StoreCause.TheVariants as cause
use Rattle.store_causes.specs.declared.check.Checked.{Checked}
use Rattle.store_causes.specs.Beginnings.{beginning_told}
use Rattle.store_causes.specs.Causes.{let_in_after, unanswered, StopsBy, IsOutcome}

-- ---- what is found

abbrev pub no_mail : Mail
no_mail = record { folders = []; next_mark = 1; next_folder = 1 }

-- nothing but the cause, and how octets begin that can't be read
pub record IsCauseAlone (cause : StoreCause) (beginning : Option (List ℕ)) (checked : Checked) : Type 0 where
  pub greeting : checked.preauth ≡ None
  pub let_in : checked.let_in ≡ false
  pub special_use : checked.special_use ≡ false
  pub mail : checked.mirror.mail ≡ no_mail
  pub cause_is : checked.cause ≡ Some cause
  pub again_is : checked.again ≡ false
  pub beginning_is : checked.beginning ≡ beginning

-- Whether the greeting was PREAUTH, whether the user is let in by it or by these exchanges, whether special uses are told, the mail that
-- the others tell, the cause, whether it comes of a second round, and how octets begin that can't be read of those that the store gave.
pub record IsFound (password : List ℕ) (preauth special_use : Bool) (connecting round : List Exchange) (again : Bool) (cause : Option StoreCause) (gave : List ℕ)
    (checked : Checked) : Type 0 where
  pub greeting : checked.preauth ≡ Some preauth
  pub let_in : checked.let_in ≡ fold let_in_after preauth connecting
  pub special_use_is : checked.special_use ≡ special_use
  pub mail : checked.mirror.mail ≡ fold tell no_mail round
  pub cause_is : checked.cause ≡ cause
  pub again_is : checked.again ≡ again
  pub beginning : checked.beginning ≡ beginning_told password cause gave

-- ---- what is asked

-- What serving asks is asked after the greeting: what connects a client, then a round over no mail, and then one over the mail that it told;
-- no more is asked once there is a cause.
pub data AsksStore (preauth : Bool) (user password : List ℕ) (life left : LinkLife) (client : ClientState) (events : List Event)
    : Result Checked AllocError → Type 0 where
  Unconnected : (xs : List Exchange) (e : LinkEnd) (c : StoreCause) (checked : Checked)
      → Follows (connect_plan preauth user password) life left xs client (Err e) events
      → StopsBy preauth None xs (connect_plan preauth user password xs) e c
      → IsFound password preauth false xs [] false (Some c) left.gave checked → AsksStore preauth user password life left client events (Ok checked)
  Unread : (xs ys : List Exchange) (mid : LinkLife) (was : ClientState) (first second : List Event) (e : LinkEnd) (c : StoreCause) (checked : Checked)
      → events ≡ first ++ second → Follows (connect_plan preauth user password) life mid xs was (Ok tt) first
      → Follows (round_plan (special_use mid) no_mail) mid left ys client (Err e) second
      → StopsBy (fold let_in_after preauth xs) (fold selected_after None xs) ys (round_plan (special_use mid) no_mail ys) e c
      → IsFound password preauth (special_use mid) xs ys false (Some c) left.gave checked → AsksStore preauth user password life left client events (Ok checked)
  Read : (xs ys zs : List Exchange) (mid read : LinkLife) (was met : ClientState) (first second third : List Event) (ended : Result (Unit {0}) LinkEnd)
      (c : Option StoreCause) (checked : Checked) → events ≡ first ++ (second ++ third)
      → Follows (connect_plan preauth user password) life mid xs was (Ok tt) first
      → Follows (round_plan (special_use mid) no_mail) mid read ys met (Ok tt) second
      → Follows (round_plan (special_use mid) (fold tell no_mail ys)) read left zs client ended third
      → IsOutcome (fold let_in_after preauth (xs ++ ys)) (fold selected_after None (xs ++ ys)) zs (round_plan (special_use mid) (fold tell no_mail ys) zs) ended c
      → IsFound password preauth (special_use mid) xs ys true c left.gave checked → AsksStore preauth user password life left client events (Ok checked)
  -- out of memory: in the life, or after it for what is found
  WantsConnected : (xs : List Exchange) (e : LinkEnd) (f : AllocError) → Follows (connect_plan preauth user password) life left xs client (Err e) events
      → AsksStore preauth user password life left client events (Err f)
  WantsMail : (xs ys : List Exchange) (mid : LinkLife) (was : ClientState) (first second : List Event) (ended : Result (Unit {0}) LinkEnd) (f : AllocError)
      → events ≡ first ++ second → Follows (connect_plan preauth user password) life mid xs was (Ok tt) first
      → Follows (round_plan (special_use mid) no_mail) mid left ys client ended second
      → AsksStore preauth user password life left client events (Err f)
  WantsMore : (xs ys zs : List Exchange) (mid read : LinkLife) (was met : ClientState) (first second third : List Event) (ended : Result (Unit {0}) LinkEnd)
      (f : AllocError) → events ≡ first ++ (second ++ third) → Follows (connect_plan preauth user password) life mid xs was (Ok tt) first
      → Follows (round_plan (special_use mid) no_mail) mid read ys met (Ok tt) second
      → Follows (round_plan (special_use mid) (fold tell no_mail ys)) read left zs client ended third
      → AsksStore preauth user password life left client events (Err f)

-- ---- a life

-- memory ran out: in the life, or for what is told of octets that can't be read
abbrev pub CanWant : LinkEnd → Type 0
CanWant end.Memory = Unit {0}
CanWant (end.Bad at) = Unit {0}
CanWant _ = ⊥

-- where no greeting lets the client in, of what the store gave: that it isn't given, unless memory ran out
abbrev pub FindsCause : List ℕ → LinkEnd → List ℕ → Result Checked AllocError → Type 0
FindsCause password e gave (Ok checked) =
    (c : StoreCause) × (unanswered asked.Greeting e ≡ Some c) × IsCauseAlone c (beginning_told password (Some c) gave) checked
FindsCause password e gave (Err f) = CanWant e

-- A life after its dial: a greeting that lets the client in, and then what is asked; or none. It has ended.
pub data Meets (user password : List ℕ) (result : Result Checked AllocError) (events : List Event) : Type 0 where
  Welcome : (preauth : Bool) (life left : LinkLife) (met client : ClientState) (talk asking hanging : List Event) → events ≡ talk ++ (asking ++ hanging)
      → IsMet preauth life met talk → AsksStore preauth user password life left client asking result → HangsUp client.alive hanging
      → Meets user password result events
  Unwelcome : (e : LinkEnd) (unwelcome : IsUnwelcome e events) → FindsCause password e unwelcome.gave result → Meets user password result events

-- What a check adds, and what is found.
pub data Checks (user password : List ℕ) (result : Result Checked AllocError) (events : List Event) : Type 0 where
  Unreached : (checked : Checked) → events ≡ LinkEnded ∷ [] → result ≡ Ok checked → IsCauseAlone cause.Unreached None checked
      → Checks user password result events
  Reached : (life : List Event) → events ≡ Dialed ∷ life → Meets user password result life → Checks user password result events
  -- out of memory before the dial
  Unready : (f : AllocError) → events ≡ [] → result ≡ Err f → Checks user password result events
