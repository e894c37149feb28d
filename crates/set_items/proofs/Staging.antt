-- An item, exchange by exchange.
use Rattle.std.proofs.Common.{◌≡◌, ◌≢◌, ◌++◌, ◌||◌, ◌&&◌, Bool, true, false, List, [], ◌∷◌, Option, Some, None, refl, sym, ◌∙◌, ap}
use Rattle.std.proofs.lemmas.List.Sums.{fold-append}
use Rattle.std.proofs.lemmas.List.Folds.{list_any-append}
use Rattle.imap_types.specs.declared.command.Command.{Command}
use Rattle.imap_types.specs.declared.response.Status.{Status}
use Rattle.imap_types.specs.declared.response.Status.TheVariants as status
use Rattle.told_folder.specs.declared.exchange.Exchange.{Exchange}
use Rattle.told_folder.specs.declared.message.Folder.{Folder}
use Rattle.told_mail.specs.Mail.{Mail, folder_in, named}
use Rattle.imap_client.specs.Bodies.{select_due}
use Rattle.imap_client.specs.Connecting.{is_ok}
use Rattle.imap_client.specs.declared.plan.Due.TheVariants as due
use Rattle.set_jobs.specs.declared.done.Done.{Done}
use Rattle.set_jobs.specs.declared.step.Step.{Step}
use Rattle.set_jobs.specs.declared.step.Step.TheVariants as step
use Rattle.set_items.specs.Items.{ItemStage, Doing, Settled, Partly, Failing, ItemState, item_at, item_step, item_due, step_due, folder_of, is_change}
use Rattle.set_items.specs.Ends.{any_change}
use Rattle.set_items.specs.Items.{Answers, item_plan}
use Rattle.gate_world.specs.declared.event.Event.{Event}
use Rattle.imap_client.specs.LinkLife.{LinkLife}
use Rattle.imap_client.specs.Plans.{Ran, Begun, Then}

-- ---- one exchange more

pub item_more : (s : ItemState) (xs : List Exchange) (x : Exchange) → item_at s (xs ++ x ∷ []) ≡ item_step (item_at s xs) x
item_more s xs x = fold-append item_step s xs (x ∷ [])

or_false : (a b : Bool) → b ≡ false → (a || (b || false)) ≡ a
or_false true b e = refl
or_false false b e = ap (λ (c : Bool). c || false) e

pub change_more : (xs : List Exchange) (x : Exchange) → any_change (xs ++ x ∷ []) ≡ (any_change xs || (is_change x || false))
change_more xs x = list_any-append is_change xs (x ∷ [])

-- ---- what is due

select_not_done : (f : Option Folder) → select_due f ≡ due.Done → ⊥
select_not_done None e = absurd (cc)
select_not_done (Some f) e = absurd (cc)

-- a step that is due is a command or can't be asked
pub step_not_done : (m : Mail) (s : Step) → step_due m s ≡ due.Done → ⊥
step_not_done m (step.Select folder mark) e = select_not_done (folder_in m.folders folder) e
step_not_done m step.Unselect e = absurd (cc)
step_not_done m (step.Change c) e = absurd (cc)
step_not_done m (step.Delete uid) e = absurd (cc)
step_not_done m (step.Expunge uid) e = absurd (cc)
step_not_done m (step.List name special_use) e = absurd (cc)
step_not_done m (step.SelectMade name) e = select_not_done (folder_of (named m.folders name)) e

-- the steps that a stage has left
pub record IsDoing (stage : ItemStage) : Type 0 where
  pub now : Step
  pub later : List Step
  pub changed : Bool
  pub done : Done
  pub is : stage ≡ Doing now later changed done

-- where a command is due, a step is
pub doing_where : (stage : ItemStage) (m : Mail) (c : Command) → item_due stage m ≡ due.Send c → IsDoing stage
doing_where (Doing s ss changed done) m c e = record { now = s; later = ss; changed = changed; done = done; is = refl }
doing_where (Settled done) m c e = absurd (cc)
doing_where Partly m c e = absurd (cc)
doing_where (Failing w) m c e = absurd (cc)

-- where all is done, the item came to something, or failed in part
pub data IsOver (stage : ItemStage) : Type 0 where
  OverSettled : (done : Done) → stage ≡ Settled done → IsOver stage
  OverPartly : stage ≡ Partly → IsOver stage

pub over_where : (stage : ItemStage) (m : Mail) → item_due stage m ≡ due.Done → IsOver stage
over_where (Doing s ss changed done) m e = absurd (step_not_done m s e)
over_where (Settled done) m e = OverSettled done refl
over_where Partly m e = OverPartly refl
over_where (Failing w) m e = absurd (cc)

-- ---- statuses

pub ok_is : (s : Status) → is_ok s ≡ true → s ≡ status.Ok
ok_is status.Ok e = refl
ok_is status.No e = absurd (cc)
ok_is status.Bad e = absurd (cc)
ok_is status.Preauth e = absurd (cc)
ok_is status.Bye e = absurd (cc)

pub not_ok : (s : Status) → is_ok s ≡ false → s ≢ status.Ok
not_ok s e is = absurd (false_is_not_true (sym (ap is_ok is) ∙ e))
  where
    false_is_not_true : true ≡ false → ⊥
    false_is_not_true e = absurd (cc)

pub is_not_ok : (s : Status) → s ≢ status.Ok → is_ok s ≡ false
is_not_ok status.Ok n = absurd (n refl)
is_not_ok status.No n = refl
is_not_ok status.Bad n = refl
is_not_ok status.Preauth n = refl
is_not_ok status.Bye n = refl

-- ---- truth values

pub or_cases : (a b : Bool) → (a || b) ≡ true → a ≡ false → b ≡ true
or_cases true b e f = absurd (cc)
or_cases false b e f = e

pub both_false : (a b : Bool) → (a || b) ≡ false → (a ≡ false) × (b ≡ false)
both_false true b e = absurd (cc)
both_false false b e = (refl, e)

pub or_true_left : (a b : Bool) → a ≡ true → (a || b) ≡ true
or_true_left true b e = refl
or_true_left false b e = absurd (cc)

pub or_true_right : (a b : Bool) → b ≡ true → (a || b) ≡ true
or_true_right true b e = refl
or_true_right false b e = e

pub and_both : (a b : Bool) → (a && b) ≡ true → (a ≡ true) × (b ≡ true)
and_both true b e = (refl, e)
and_both false b e = absurd (cc)

pub and_true : (a b : Bool) → a ≡ true → b ≡ true → (a && b) ≡ true
and_true true b e f = f
and_true false b e f = absurd (cc)

pub and_false : (a b : Bool) → (a && b) ≡ false → a ≡ true → b ≡ false
and_false true b e f = e
and_false false b e f = absurd (cc)

-- ---- exchanges that a plan ran are its answers

answers_more : (s : ItemState) (xs : List Exchange) (x : Exchange) → Answers s xs → item_due (item_at s xs).stage (item_at s xs).mail ≡ due.Send x.command
    → Answers s (xs ++ x ∷ [])
answers_more s [] x a e = (e, tt)
answers_more s (y ∷ ys) x a e = (a.0, answers_more (item_step s y) ys x a.1 e)

answers_of : (s : ItemState) {life after : LinkLife} {xs : List Exchange} {events : List Event} → Ran (item_plan s) life xs after events → Answers s xs
answers_of s Begun = tt
answers_of s (Then {heard = heard} next ran) =
    answers_more s heard next.exchange (answers_of s ran) (next.asked ∙ ap due.Send (sym next.completes.command_is))

pub ran_answers : (s : ItemState) (life after : LinkLife) (xs : List Exchange) (events : List Event) → Ran (item_plan s) life xs after events → Answers s xs
ran_answers s life after xs events ran = answers_of s ran
