-- A client that is connected asked CAPABILITY twice, and the second one counts.
use Rattle.std.proofs.Common.{◌≡◌, ◌++◌, ◌&&◌, ℕ, Bool, true, false, List, [], ◌∷◌, Option, Some, None, Ok, Err, Result, fold, codes, if◌then◌else◌, refl, sym, ◌∙◌, ap, subst}
use Rattle.std.proofs.lemmas.List.Sums.{fold-append}
use Rattle.gate_world.specs.declared.event.Event.{Event}
use Rattle.imap_types.specs.declared.command.Command.TheVariants as command
use Rattle.told_folder.specs.declared.exchange.Exchange.{Exchange}
use Rattle.imap_exchange.specs.declared.link_end.LinkEnd.{LinkEnd}
use Rattle.imap_exchange.specs.declared.link_end.LinkEnd.TheVariants as end
use Rattle.imap_client.specs.declared.connection.Stage.{Stage}
use Rattle.imap_client.specs.declared.connection.Stage.TheVariants as stage
use Rattle.imap_client.specs.declared.plan.Due.TheVariants as due
use Rattle.imap_client.specs.declared.plan.Refusal.{Refusal}
use Rattle.imap_client.specs.declared.plan.Refusal.TheVariants as refusal
use Rattle.imap_client.specs.Capabilities.{tells, special_use_by, special_use_after}
use Rattle.imap_client.specs.Connected.{LogsIn, IsConnected}
use Rattle.imap_client.specs.Connecting.{is_ok, enables, greeting_says, stage_after, due_at, planned_from, Lives, Unwelcome, Welcome, Connects, Unready, Undialed, Lived, IsWelcome}
use Rattle.imap_client.specs.LinkLife.{LinkLife, ClientState}
use Rattle.imap_client.specs.Plans.{Planned, Ran, Begun, Then}
use Rattle.imap_client.proofs.Finishing.{done_not_send, end_done, fails_not_done, fails_not_send, ran_exchanges, send_not_done, send_same}

-- a run keeps the greeting
ran_greeting : {plan : Planned} {life : LinkLife} {xs : List Exchange} {after : LinkLife} {es : List Event} → Ran plan life xs after es → after.greeting ≡ life.greeting
ran_greeting Begun = refl
ran_greeting (Then next ran) = ap (λ (l : LinkLife). l.greeting) next.completes.after_is ∙ ran_greeting ran

module _ (preauth : Bool) (user password : List ℕ) where
  -- each exchange is of the command that was due
  abbrev Asked : Stage → List Exchange → Type 0
  Asked at [] = Unit {0}
  Asked at (x ∷ xs) = (due_at user password at ≡ due.Send x.command) × Asked (stage_after preauth at x) xs

  -- all is done once these are completed
  abbrev Finishes : Stage → List Exchange → Type 0
  Finishes at xs = planned_from preauth user password at xs ≡ due.Done

  asked_more : (at : Stage) (xs : List Exchange) (x : Exchange) → Asked at xs → planned_from preauth user password at xs ≡ due.Send x.command → Asked at (xs ++ x ∷ [])
  asked_more at [] x so is = (is, tt)
  asked_more at (y ∷ ys) x (here, rest) is = (here, asked_more (stage_after preauth at y) ys x rest is)

  ran_asked : (at : Stage) {life : LinkLife} {xs : List Exchange} {after : LinkLife} {es : List Event} → Ran (planned_from preauth user password at) life xs after es → Asked at xs
  ran_asked at Begun = tt
  ran_asked at (Then {heard = xs} next ran) = asked_more at xs next.exchange (ran_asked at ran) (next.asked ∙ ap due.Send (sym next.completes.command_is))

  failing_never : (why : Refusal) (xs : List Exchange) → Asked (stage.Failing why) xs → Finishes (stage.Failing why) xs → ⊥
  failing_never why [] asked done = fails_not_done why done
  failing_never why (x ∷ xs) asked done = fails_not_send why x.command asked.0

  connected_none : (xs : List Exchange) → Asked stage.Connected xs → xs ≡ []
  connected_none [] asked = refl
  connected_none (x ∷ xs) asked = absurd (done_not_send x.command asked.0)

  -- ---- ENABLE

  enabled_by : (enabled : Bool) (xs : List Exchange) → Asked (if enabled then stage.Connected else stage.Failing refusal.NoQresync) xs
      → Finishes (if enabled then stage.Connected else stage.Failing refusal.NoQresync) xs → xs ≡ []
  enabled_by true xs asked done = connected_none xs asked
  enabled_by false xs asked done = absurd (failing_never refusal.NoQresync xs asked done)

  abbrev Enables : List Exchange → Type 0
  Enables xs = (e : Exchange) × (xs ≡ e ∷ []) × (e.command ≡ command.Enable)

  enabling : (xs : List Exchange) → Asked stage.Enabling xs → Finishes stage.Enabling xs → Enables xs
  enabling [] asked done = absurd (send_not_done command.Enable done)
  enabling (x ∷ xs) (here, asked) done =
      let none = enabled_by (is_ok x.status && enables (codes "QRESYNC") x) xs asked done in
      (x, ap (λ (l : List Exchange). x ∷ l) none, send_same command.Enable x.command here)

  -- ---- CAPABILITY again

  abbrev AsksAgain : List Exchange → Type 0
  AsksAgain xs = (second : Exchange) × (e : Exchange) × (xs ≡ second ∷ e ∷ []) × (second.command ≡ command.Capability) × (e.command ≡ command.Enable)

  again_by : (ok both : Bool) (xs : List Exchange) → Asked (if ok then (if both then stage.Enabling else stage.Failing refusal.NoQresync) else stage.Failing refusal.Refused) xs
      → Finishes (if ok then (if both then stage.Enabling else stage.Failing refusal.NoQresync) else stage.Failing refusal.Refused) xs → Enables xs
  again_by true true xs asked done = enabling xs asked done
  again_by true false xs asked done = absurd (failing_never refusal.NoQresync xs asked done)
  again_by false both xs asked done = absurd (failing_never refusal.Refused xs asked done)

  again : (xs : List Exchange) → Asked stage.AskingAgain xs → Finishes stage.AskingAgain xs → AsksAgain xs
  again [] asked done = absurd (send_not_done command.Capability done)
  again (x ∷ xs) (here, asked) done =
      let e = again_by (is_ok x.status) (tells (codes "IMAP4rev2") x && tells (codes "QRESYNC") x) xs asked done in
      (x, e.0, ap (λ (l : List Exchange). x ∷ l) e.1, send_same command.Capability x.command here, e.2)

  -- ---- LOGIN

  login_by : (ok : Bool) (xs : List Exchange) → Asked (if ok then stage.AskingAgain else stage.Failing refusal.Refused) xs
      → Finishes (if ok then stage.AskingAgain else stage.Failing refusal.Refused) xs → AsksAgain xs
  login_by true xs asked done = again xs asked done
  login_by false xs asked done = absurd (failing_never refusal.Refused xs asked done)

  -- LOGIN or not, and then that
  abbrev AsksOn : Bool → List Exchange → Type 0
  AsksOn pre xs = (login : List Exchange) × (rest : List Exchange) × (xs ≡ login ++ rest) × LogsIn user password pre login × AsksAgain rest

  logging_in : (xs : List Exchange) → Asked stage.LoggingIn xs → Finishes stage.LoggingIn xs → AsksOn false xs
  logging_in [] asked done = absurd (send_not_done (command.Login user password) done)
  logging_in (x ∷ xs) (here, asked) done =
      (x ∷ [], xs, refl, (x, refl, send_same (command.Login user password) x.command here), login_by (is_ok x.status) xs asked done)

  abbrev stage_by : Bool → Bool → Bool → Stage
  stage_by ok pre disabled =
      if ok then (if pre then stage.AskingAgain else (if disabled then stage.Failing refusal.Refused else stage.LoggingIn)) else stage.Failing refusal.Refused

  asked_by : (ok pre disabled : Bool) (xs : List Exchange) → Asked (stage_by ok pre disabled) xs → Finishes (stage_by ok pre disabled) xs → AsksOn pre xs
  asked_by true true disabled xs asked done = ([], xs, refl, refl, again xs asked done)
  asked_by true false true xs asked done = absurd (failing_never refusal.Refused xs asked done)
  asked_by true false false xs asked done = logging_in xs asked done
  asked_by false pre disabled xs asked done = absurd (failing_never refusal.Refused xs asked done)

  -- ---- the whole

  abbrev AsksAll : List Exchange → Type 0
  AsksAll xs = (first : Exchange) × (rest : List Exchange) × (xs ≡ first ∷ rest) × (first.command ≡ command.Capability) × AsksOn preauth rest

  asks_all : (xs : List Exchange) → Asked stage.Asking xs → Finishes stage.Asking xs → AsksAll xs
  asks_all [] asked done = absurd (send_not_done command.Capability done)
  asks_all (x ∷ xs) (here, asked) done =
      (x, xs, refl, send_same command.Capability x.command here, asked_by (is_ok x.status) preauth (tells (codes "LOGINDISABLED") x) xs asked done)

-- what the last CAPABILITY told counts, whatever was told before
last_counts : (before : Bool) (second e : Exchange) → second.command ≡ command.Capability → e.command ≡ command.Enable
    → fold special_use_after before (second ∷ e ∷ []) ≡ tells (codes "SPECIAL-USE") second
last_counts before second e second_is e_is = (λ i. special_use_by (e_is i) e (special_use_by (second_is i) second before))

second_counts : (first : Exchange) (login : List Exchange) (second e : Exchange) → second.command ≡ command.Capability → e.command ≡ command.Enable
    → fold special_use_after false (first ∷ (login ++ second ∷ e ∷ [])) ≡ tells (codes "SPECIAL-USE") second
second_counts first login second e second_is e_is =
    fold-append special_use_after (special_use_after false first) login (second ∷ e ∷ [])
    ∙ last_counts (fold special_use_after (special_use_after false first) login) second e second_is e_is

welcomed : {user password : List ℕ} {life after : LinkLife} {client : ClientState} {events : List Event} → IsWelcome user password life after client (Ok tt) events
    → IsConnected user password after
welcomed {user} {password} {life} {after} w =
    let f = w.follows in
    let ends = end_done f.ends in
    let all = asks_all w.preauth user password w.exchanges (ran_asked w.preauth user password stage.Asking f.ran) ends.0 in
    let on = all.4 in
    let again = on.4 in
    let first = all.0 in
    let login = on.0 in
    let whole : w.exchanges ≡ first ∷ (login ++ again.0 ∷ again.1 ∷ []) = all.2 ∙ ap (λ (l : List Exchange). first ∷ l)
    (on.2 ∙ ap (λ (l : List Exchange). login ++ l) again.2) in
    let exchanges_are : after.exchanges ≡ first ∷ (login ++ again.0 ∷ again.1 ∷ []) = ap (λ (l : LinkLife). l.exchanges) ends.2 ∙ ran_exchanges f.ran
    ∙ ap (λ (l : List Exchange). l ++ w.exchanges) w.new.unasked ∙ whole in
    record {
      preauth = w.preauth;
      first = first;
      login = login;
      second = again.0;
      enabling = again.1;
      says = ap greeting_says (ap (λ (l : LinkLife). l.greeting) ends.2 ∙ ran_greeting f.ran) ∙ w.says;
      exchanges_are = exchanges_are;
      first_is = all.3;
      login_is = on.3;
      second_is = again.3;
      enabling_is = again.4;
      second_counts = ap (λ (l : List Exchange). fold special_use_after false l) exchanges_are ∙ second_counts first login again.0 again.1 again.3 again.4;
    }

same_life : (a b : LinkLife) → Some a ≡ Some b → b ≡ a
same_life a b is = cc

lived : {user password : List ℕ} {left : LinkLife} {client : ClientState} {events : List Event} → Lives user password (Some left) client (Ok tt) events
    → IsConnected user password left
lived (Unwelcome e is failed none) = absurd (cc failed)
lived {user} {password} {left} (Welcome life after w left_is) = subst (λ (l : LinkLife). IsConnected user password l) (same_life left after left_is) (welcomed w)

-- a client that connected asked this, and the second CAPABILITY counts
pub connected_lives : (user password : List ℕ) (left : LinkLife) (client : ClientState) (events : List Event) → Connects user password (Some left) client (Ok tt) events
    → IsConnected user password left
connected_lives user password left client events (Unready none failed gone) = absurd (cc failed)
connected_lives user password left client events (Undialed ended failed gone) = absurd (cc failed)
connected_lives user password left client events (Lived life is lives) = lived lives
