-- What an item sends after a refusal.
use Rattle.std.proofs.Common.{◌≡◌, ◌≢◌, Bool, true, false, List, [], ◌∷◌, refl, sym, ap, subst}
use Rattle.imap_types.specs.declared.code.Code.{Code}
use Rattle.imap_types.specs.declared.command.Command.{Command}
use Rattle.imap_types.specs.declared.command.Command.TheVariants as command
use Rattle.imap_types.specs.declared.response.Status.TheVariants as status
use Rattle.told_folder.specs.declared.exchange.Exchange.{Exchange}
use Rattle.told_mail.specs.Mail.{Mail}
use Rattle.imap_client.specs.Connecting.{is_ok}
use Rattle.imap_client.specs.declared.plan.Due.{Due}
use Rattle.imap_client.specs.declared.plan.Due.TheVariants as due
use Rattle.told_changes.specs.Told.{told, is_changing}
use Rattle.set_jobs.specs.declared.done.Done.{Done}
use Rattle.set_jobs.specs.declared.step.Step.{Step}
use Rattle.set_jobs.specs.declared.step.Step.TheVariants as step
use Rattle.set_items.specs.Commands.{MustBeObeyed}
use Rattle.set_items.specs.Items.{ItemStage, Doing, Settled, Partly, Failing, ItemState, item_step, item_due, step_due, Answers}
use Rattle.set_items.specs.Items.{stage_after, doing_after, refused, refused_if, change_refused}
use Rattle.set_items.proofs.Staging.{is_not_ok}

-- no command is due
abbrev pub IsStill : ItemStage → Type 0
IsStill (Doing s ss changed done) = ⊥
IsStill _ = Unit {0}

pub still_refused : (changed : Bool) (c : Code) → IsStill (change_refused changed c)
still_refused true c = tt
still_refused false c = tt

pub still_if : (k changed : Bool) (c : Code) → IsStill (refused_if k changed c)
still_if true changed c = still_refused changed c
still_if false changed c = tt

still_by : (s : Step) (ss : List Step) (changed : Bool) (done : Done) (m : Mail) (x : Exchange) → step_due m s ≡ due.Send x.command → MustBeObeyed x.command
    → IsStill (refused s ss changed done x)
still_by (step.Change c) ss changed done m x asked must = still_if (is_changing c) changed x.code
still_by (step.Delete uid) ss changed done m x asked must = still_refused changed x.code
still_by (step.Expunge uid) ss changed done m x asked must = absurd (subst MustBeObeyed (sent_is x.command (command.Expunge uid) (sym asked)) must)
  where
    sent : Due → Command
    sent (due.Send c) = c
    sent _ = command.Capability

    sent_is : (c d : Command) → due.Send c ≡ due.Send d → c ≡ d
    sent_is c d e = ap sent e
still_by (step.Select folder mark) ss changed done m x asked must = tt
still_by step.Unselect ss changed done m x asked must = tt
still_by (step.List name special_use) ss changed done m x asked must = tt
still_by (step.SelectMade name) ss changed done m x asked must = tt

still_after : (k : Bool) (s : Step) (ss : List Step) (changed : Bool) (done : Done) (m : Mail) (x : Exchange) (after : Mail) → k ≡ false
    → step_due m s ≡ due.Send x.command → MustBeObeyed x.command → IsStill (doing_after k s ss changed done m x after)
still_after true s ss changed done m x after e asked must = absurd (cc)
still_after false s ss changed done m x after e asked must = still_by s ss changed done m x asked must

still_stage : (stage : ItemStage) (m : Mail) (x : Exchange) (after : Mail) → item_due stage m ≡ due.Send x.command → x.status ≢ status.Ok → MustBeObeyed x.command
    → IsStill (stage_after stage m x after)
still_stage (Doing s ss changed done) m x after asked fails must = still_after (is_ok x.status) s ss changed done m x after (is_not_ok x.status fails) asked must
still_stage (Settled done) m x after asked fails must = tt
still_stage Partly m x after asked fails must = tt
still_stage (Failing w) m x after asked fails must = tt

none_due : (stage : ItemStage) (m : Mail) (c : Command) → IsStill stage → item_due stage m ≡ due.Send c → ⊥
none_due (Doing s ss changed done) m c still e = still
none_due (Settled done) m c still e = absurd (cc)
none_due Partly m c still e = absurd (cc)
none_due (Failing w) m c still e = absurd (cc)

none_more : (s : ItemState) (more : List Exchange) → IsStill s.stage → Answers s more → more ≡ []
none_more s [] still answers = refl
none_more s (x ∷ xs) still answers = absurd (none_due s.stage s.mail x.command still answers.0)

pub no_more : (s : ItemState) (x : Exchange) (more : List Exchange) → Answers s (x ∷ more) → x.status ≢ status.Ok → MustBeObeyed x.command → more ≡ []
no_more s x more answers fails must =
    none_more (item_step s x) more (still_stage s.stage s.mail x (told s.mail x) answers.0 fails must) answers.1
