-- The answer by which connecting stops is what its cause says.
use Rattle.std.proofs.Common.{◌≡◌, ◌++◌, ◌&&◌, Bool, true, false, ℕ, List, [], ◌∷◌, None, codes, fold, refl, sym, ◌∙◌, ap, subst, if◌then◌else◌, Err}
use Rattle.std.proofs.lemmas.List.Sums.{fold-append}
use Rattle.gate_world.specs.declared.event.Event.{Event}
use Rattle.imap_types.specs.declared.command.Command.{Command}
use Rattle.imap_types.specs.declared.command.Command.TheVariants as command
use Rattle.told_folder.specs.declared.exchange.Exchange.{Exchange}
use Rattle.imap_exchange.specs.declared.link_end.LinkEnd.{LinkEnd}
use Rattle.imap_client.specs.declared.plan.Due.TheVariants as due
use Rattle.imap_client.specs.declared.plan.Refusal.{Refusal}
use Rattle.imap_client.specs.declared.plan.Refusal.TheVariants as refusal
use Rattle.imap_client.specs.declared.connection.Stage.{Stage}
use Rattle.imap_client.specs.declared.connection.Stage.TheVariants as stage
use Rattle.imap_client.specs.Capabilities.{tells}
use Rattle.imap_client.specs.Connecting.{connect_plan, due_at, enables, is_ok, planned_from, stage_after}
use Rattle.imap_client.specs.LinkLife.{LinkLife, ClientState}
use Rattle.imap_client.specs.Plans.{Begun, Follows, NextExchange, Ran, Then}
use Rattle.imap_client.specs.Refusals.{refusal_end}
use Rattle.store_causes.specs.declared.cause.StoreCause.{StoreCause}
use Rattle.store_causes.specs.declared.cause.StoreCause.TheVariants as cause
use Rattle.store_causes.specs.Causes.{LastAnswer, StopsBy, asked_by, cause_after, cause_of_ok, let_in_after, let_in_by}
use Rattle.store_causes.specs.Reasons.{AnsweredSo, IsReasonIn}
use Rattle.store_causes.proofs.Outcomes.{same_cause}

-- ---- who is let in at which stage

abbrev LetIn : Bool → Bool → Stage → Type 0
LetIn preauth let_in stage.Asking = let_in ≡ preauth
LetIn preauth let_in stage.LoggingIn = preauth ≡ false
LetIn preauth let_in stage.AskingAgain = let_in ≡ true
LetIn preauth let_in _ = Unit {0}

after_asking : (preauth ok disabled let_in : Bool) → let_in ≡ preauth
    → LetIn preauth let_in (if ok then (if preauth then stage.AskingAgain else (if disabled then stage.Failing refusal.Refused else stage.LoggingIn))
    else stage.Failing refusal.Refused)
after_asking true true disabled let_in is = is
after_asking false true true let_in is = tt
after_asking false true false let_in is = refl
after_asking preauth false disabled let_in is = tt

after_login : (preauth ok let_in : Bool) → let_in ≡ ok → LetIn preauth let_in (if ok then stage.AskingAgain else stage.Failing refusal.Refused)
after_login preauth true let_in is = is
after_login preauth false let_in is = tt

after_again : (preauth ok both let_in : Bool)
    → LetIn preauth let_in (if ok then (if both then stage.Enabling else stage.Failing refusal.NoQresync) else stage.Failing refusal.Refused)
after_again preauth true true let_in = tt
after_again preauth true false let_in = tt
after_again preauth false both let_in = tt

after_enabling : (preauth enabled let_in : Bool) → LetIn preauth let_in (if enabled then stage.Connected else stage.Failing refusal.NoQresync)
after_enabling preauth true let_in = tt
after_enabling preauth false let_in = tt

-- the command that is due at a stage
same_command : (c d : Command) → due.Send c ≡ due.Send d → c ≡ d
same_command c d is = cc

goes_on : (user password : List ℕ) (preauth let_in : Bool) (at : Stage) (x : Exchange) → due_at user password at ≡ due.Send x.command → LetIn preauth let_in at
    → LetIn preauth (let_in_after let_in x) (stage_after preauth at x)
goes_on user password preauth let_in stage.Asking x is so =
    let command_is : command.Capability ≡ x.command = same_command command.Capability x.command is in
    after_asking preauth (is_ok x.status) (tells (codes "LOGINDISABLED") x) (let_in_after let_in x) (ap (λ (c : Command). let_in_by c x let_in) (sym command_is) ∙ so)
goes_on user password preauth let_in stage.LoggingIn x is so =
    let command_is : command.Login user password ≡ x.command = same_command (command.Login user password) x.command is in
    after_login preauth (is_ok x.status) (let_in_after let_in x) (ap (λ (c : Command). let_in_by c x let_in) (sym command_is))
goes_on user password preauth let_in stage.AskingAgain x is so =
    after_again preauth (is_ok x.status) (tells (codes "IMAP4rev2") x && tells (codes "QRESYNC") x) (let_in_after let_in x)
goes_on user password preauth let_in stage.Enabling x is so = after_enabling preauth (is_ok x.status && enables (codes "QRESYNC") x) (let_in_after let_in x)
goes_on user password preauth let_in stage.Connected x is so = tt
goes_on user password preauth let_in (stage.Failing why) x is so = tt

-- ---- the answer by which a stage fails

send_not : (c : Command) (why : Refusal) → due.Send c ≡ due.Fails why → ⊥
send_not c why is = cc

done_not : (why : Refusal) → due.Done ≡ due.Fails why → ⊥
done_not why is = cc

true_not : (b : Bool) → b ≡ true → b ≡ false → ⊥
true_not b one other = let both : true ≡ false = sym one ∙ other in cc

asking_reason : (user password : List ℕ) (x : Exchange) (ok disabled preauth let_in : Bool) (why : Refusal) → is_ok x.status ≡ ok → tells (codes "LOGINDISABLED") x ≡ disabled
    → let_in ≡ preauth
    → due_at user password (if ok then (if preauth then stage.AskingAgain else (if disabled then stage.Failing refusal.Refused else stage.LoggingIn))
    else stage.Failing refusal.Refused) ≡ due.Fails why
    → IsReasonIn (if ok then cause_of_ok let_in command.Capability x else cause.Refused (asked_by x.command x.selected)) x
asking_reason user password x false disabled preauth let_in why ok_is disabled_is is fails = ok_is
asking_reason user password x true disabled true let_in why ok_is disabled_is is fails = absurd (send_not command.Capability why fails)
asking_reason user password x true false false let_in why ok_is disabled_is is fails = absurd (send_not (command.Login user password) why fails)
asking_reason user password x true true false false why ok_is disabled_is is fails = (ok_is, disabled_is)
asking_reason user password x true true false true why ok_is disabled_is is fails = absurd (true_not true refl is)

login_reason : (user password : List ℕ) (x : Exchange) (ok let_in : Bool) (why : Refusal) → is_ok x.status ≡ ok
    → due_at user password (if ok then stage.AskingAgain else stage.Failing refusal.Refused) ≡ due.Fails why
    → IsReasonIn (if ok then cause_of_ok let_in (command.Login user password) x else cause.Refused (asked_by x.command x.selected)) x
login_reason user password x true let_in why ok_is fails = absurd (send_not command.Capability why fails)
login_reason user password x false let_in why ok_is fails = ok_is

again_reason : (user password : List ℕ) (x : Exchange) (ok both let_in : Bool) (why : Refusal) → is_ok x.status ≡ ok
    → (tells (codes "IMAP4rev2") x && tells (codes "QRESYNC") x) ≡ both → let_in ≡ true
    → due_at user password (if ok then (if both then stage.Enabling else stage.Failing refusal.NoQresync) else stage.Failing refusal.Refused) ≡ due.Fails why
    → IsReasonIn (if ok then cause_of_ok let_in command.Capability x else cause.Refused (asked_by x.command x.selected)) x
again_reason user password x false both let_in why ok_is both_is is fails = ok_is
again_reason user password x true true let_in why ok_is both_is is fails = absurd (send_not command.Enable why fails)
again_reason user password x true false true why ok_is both_is is fails = (ok_is, refl, refl, both_is)
again_reason user password x true false false why ok_is both_is is fails = absurd (true_not false is refl)

enabling_reason : (user password : List ℕ) (x : Exchange) (ok enabled let_in : Bool) (why : Refusal) → is_ok x.status ≡ ok → enables (codes "QRESYNC") x ≡ enabled
    → due_at user password (if ok && enabled then stage.Connected else stage.Failing refusal.NoQresync) ≡ due.Fails why
    → IsReasonIn (if ok then cause_of_ok let_in command.Enable x else cause.Refused (asked_by x.command x.selected)) x
enabling_reason user password x false enabled let_in why ok_is enabled_is fails = ok_is
enabling_reason user password x true true let_in why ok_is enabled_is fails = absurd (done_not why fails)
enabling_reason user password x true false let_in why ok_is enabled_is fails = (ok_is, enabled_is)

-- the cause by the command that it is
abbrev CauseBy : Bool → Exchange → Command → Type 0
CauseBy let_in x c = IsReasonIn (if is_ok x.status then cause_of_ok let_in c x else cause.Refused (asked_by x.command x.selected)) x

reason_at : (user password : List ℕ) (preauth let_in : Bool) (at : Stage) (x : Exchange) (why : Refusal) → due_at user password at ≡ due.Send x.command
    → LetIn preauth let_in at → due_at user password (stage_after preauth at x) ≡ due.Fails why → IsReasonIn (cause_after let_in x) x
reason_at user password preauth let_in stage.Asking x why is so fails =
    subst (CauseBy let_in x) (same_command command.Capability x.command is)
    (asking_reason user password x (is_ok x.status) (tells (codes "LOGINDISABLED") x) preauth let_in why refl refl so fails)
reason_at user password preauth let_in stage.LoggingIn x why is so fails =
    subst (CauseBy let_in x) (same_command (command.Login user password) x.command is) (login_reason user password x (is_ok x.status) let_in why refl fails)
reason_at user password preauth let_in stage.AskingAgain x why is so fails =
    subst (CauseBy let_in x) (same_command command.Capability x.command is)
    (again_reason user password x (is_ok x.status) (tells (codes "IMAP4rev2") x && tells (codes "QRESYNC") x) let_in why refl refl so fails)
reason_at user password preauth let_in stage.Enabling x why is so fails =
    subst (CauseBy let_in x) (same_command command.Enable x.command is)
    (enabling_reason user password x (is_ok x.status) (enables (codes "QRESYNC") x) let_in why refl refl fails)
reason_at user password preauth let_in stage.Connected x why is so fails = absurd (done_not why fails)
reason_at user password preauth let_in (stage.Failing other) x why is so fails = absurd (send_not x.command other (sym is))

-- ---- a life

planned_is : (user password : List ℕ) (preauth : Bool) (at : Stage) (xs : List Exchange)
    → planned_from preauth user password at xs ≡ due_at user password (fold (stage_after preauth) at xs)
planned_is user password preauth at [] = refl
planned_is user password preauth at (x ∷ xs) = planned_is user password preauth (stage_after preauth at x) xs

-- the exchange that is next was due, and who is let in before it is known
due_next : (user password : List ℕ) (preauth : Bool) {heard : List Exchange} (next : NextExchange (connect_plan preauth user password) heard)
    → due_at user password (fold (stage_after preauth) stage.Asking heard) ≡ due.Send next.exchange.command
due_next user password preauth {heard} next =
    sym (planned_is user password preauth stage.Asking heard) ∙ next.asked ∙ ap due.Send (sym next.completes.command_is)

ran_lets_in : (user password : List ℕ) (preauth : Bool) {life after : LinkLife} {xs : List Exchange} {es : List Event}
    → Ran (connect_plan preauth user password) life xs after es → LetIn preauth (fold let_in_after preauth xs) (fold (stage_after preauth) stage.Asking xs)
ran_lets_in user password preauth Begun = refl
ran_lets_in user password preauth (Then {heard} next ran) =
    let stage_is = fold-append (stage_after preauth) stage.Asking heard (next.exchange ∷ []) in
    let in_is = fold-append let_in_after preauth heard (next.exchange ∷ []) in
    subst (λ (b : Bool). LetIn preauth b (fold (stage_after preauth) stage.Asking (heard ++ next.exchange ∷ []))) (sym in_is)
    (subst (λ (s : Stage). LetIn preauth (let_in_after (fold let_in_after preauth heard) next.exchange) s) (sym stage_is)
    (goes_on user password preauth (fold let_in_after preauth heard) (fold (stage_after preauth) stage.Asking heard) next.exchange (due_next user password preauth next)
    (ran_lets_in user password preauth ran)))

-- the cause that has its reason
record HasReason (preauth : Bool) (xs : List Exchange) : Type 0 where
  before : List Exchange
  last : Exchange
  is : xs ≡ before ++ last ∷ []
  reason : IsReasonIn (cause_after (fold let_in_after preauth before) last) last

ran_reason : (user password : List ℕ) (preauth : Bool) {life after : LinkLife} {xs : List Exchange} {es : List Event} (why : Refusal)
    → Ran (connect_plan preauth user password) life xs after es → connect_plan preauth user password xs ≡ due.Fails why → HasReason preauth xs
ran_reason user password preauth why Begun fails = absurd (send_not command.Capability why fails)
ran_reason user password preauth why (Then {heard} next ran) fails =
    let at = fold (stage_after preauth) stage.Asking heard in
    let stage_is = fold-append (stage_after preauth) stage.Asking heard (next.exchange ∷ []) in
    let fails_so : due_at user password (stage_after preauth at next.exchange) ≡ due.Fails why =
    ap (due_at user password) (sym stage_is) ∙ sym (planned_is user password preauth stage.Asking (heard ++ next.exchange ∷ [])) ∙ fails in
    record {
      before = heard;
      last = next.exchange;
      is = refl;
      reason = reason_at user password preauth (fold let_in_after preauth heard) at next.exchange why (due_next user password preauth next)
          (ran_lets_in user password preauth ran) fails_so;
    }

pub answered_so : (preauth : Bool) (user password : List ℕ) (life left : LinkLife) (xs : List Exchange) (client : ClientState) (e : LinkEnd) (es : List Event) (why : Refusal)
    (c : StoreCause) → Follows (connect_plan preauth user password) life left xs client (Err e) es → connect_plan preauth user password xs ≡ due.Fails why
    → StopsBy preauth None xs (due.Fails why) (refusal_end why) c → AnsweredSo xs c
answered_so preauth user password life left xs client e es why c follows fails stops =
    let h = ran_reason user password preauth why follows.ran fails in
    let same = same_cause preauth None xs (due.Fails why) (refusal_end why) (cause_after (fold let_in_after preauth h.before) h.last) c (LastAnswer why h.before h.last h.is) stops in
    record { before = h.before; last = h.last; is = h.is; reason = subst (λ (d : StoreCause). IsReasonIn d h.last) same h.reason }
