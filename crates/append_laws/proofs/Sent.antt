-- How many APPENDs the store takes octets of for an item.
use Rattle.std.proofs.Common.{arith, ◌≡◌, ◌≤◌, ◌+◌, ◌++◌, ℕ, Bool, true, false, List, [], ◌∷◌, None, if◌then◌else◌, refl, ◌∙◌}
use Rattle.gate_world.specs.declared.event.Event.{Event}
use Rattle.imap_types.specs.declared.code.Code.TheVariants as code
use Rattle.imap_types.specs.declared.command.Command.{Command}
use Rattle.imap_types.specs.declared.response.Status.TheVariants as status
use Rattle.told_folder.specs.declared.exchange.Exchange.{Exchange}
use Rattle.told_mail.specs.Mail.{Mail}
use Rattle.imap_client.specs.LinkLife.{LinkLife, ClientState}
use Rattle.imap_client.specs.Plans.{Ran, ends_torn}
use Rattle.imap_client.specs.declared.plan.Due.{Due}
use Rattle.imap_client.specs.declared.plan.Due.TheVariants as due
use Rattle.set_jobs.specs.declared.job.Job.{Job}
use Rattle.set_items.specs.Commands.{append_count, appends_in, appends_of}
use Rattle.set_items.specs.Items.{Answers, ItemState, item_at, item_due, item_plan, item_start, item_step}
use Rattle.set_items.specs.Talks.{RunsSteps, ending_of}
use Rattle.append_laws.specs.Sent.{due_appends, appends_sent}

-- what is proved of the exchanges of items
abbrev pub AppendOnce : Type 0
AppendOnce = (job : Job) (m : Mail) (xs : List Exchange) → Answers (item_start job m) xs → appends_in xs ≤ appends_of job.steps

abbrev pub AreAnswers : Type 0
AreAnswers = (s : ItemState) (life after : LinkLife) (xs : List Exchange) (events : List Event) → Ran (item_plan s) life xs after events → Answers s xs

pub appends_more : (xs : List Exchange) (x : Exchange) → appends_in (xs ++ x ∷ []) ≡ appends_in xs + append_count x.command
appends_more [] x = omega arith
appends_more (y ∷ ys) x = omega (arith, appends_more ys x)

answers_more : (s : ItemState) (xs : List Exchange) (x : Exchange) → Answers s xs → item_due (item_at s xs).stage (item_at s xs).mail ≡ due.Send x.command
    → Answers s (xs ++ x ∷ [])
answers_more s [] x a asked = (asked, tt)
answers_more s (y ∷ ys) x a asked = (a.0, answers_more (item_step s y) ys x a.1 asked)

-- an exchange of this command
might : Command → Exchange
might c = record { command = c; selected = None; responses = []; status = status.Ok; code = code.Absent }

might_count : (c : Command) → append_count (might c).command ≡ append_count c
unfolding might
might_count c = refl

might_is : (c : Command) → due.Send c ≡ due.Send (might c).command
unfolding might
might_is c = refl

-- the APPEND that is due counts as well: had it been completed, it would be one of those that an item has
due_most : AppendOnce → (job : Job) (m : Mail) (xs : List Exchange) (d : Due) → item_plan (item_start job m) xs ≡ d → Answers (item_start job m) xs
    → appends_in xs + due_appends d ≤ appends_of job.steps
due_most once job m xs (due.Send c) is so =
    let all : appends_in (xs ++ might c ∷ []) ≤ appends_of job.steps =
    once job m (xs ++ might c ∷ []) (answers_more (item_start job m) xs (might c) so (is ∙ might_is c)) in
    omega (arith, all, appends_more xs (might c), might_count c)
due_most once job m xs due.Done is so = let all : appends_in xs ≤ appends_of job.steps = once job m xs so in omega (arith, all)
due_most once job m xs (due.Fails why) is so = let all : appends_in xs ≤ appends_of job.steps = once job m xs so in omega (arith, all)

torn_most : (torn : Bool) (n k l : ℕ) → n + k ≤ l → n + (if torn then k else 0) ≤ l
torn_most true n k l most = most
torn_most false n k l most = omega (arith, most)

-- as many as its steps have
pub sent_most : AppendOnce → AreAnswers → {job : Job} {before : Mail} {life left : LinkLife} {client : ClientState} {events : List Event} (call : List Exchange)
    (runs : RunsSteps job before life left client events) → appends_sent (ending_of call runs) ≤ appends_of job.steps
sent_most once answers {job = job} {before = before} {life = life} call runs =
    torn_most (ends_torn runs.follows.ends) (appends_in runs.exchanges) (due_appends (item_plan (item_start job before) runs.exchanges)) (appends_of job.steps)
    (due_most once job before runs.exchanges (item_plan (item_start job before) runs.exchanges) refl
    (answers (item_start job before) life runs.follows.after runs.exchanges runs.follows.so_far runs.follows.ran))
