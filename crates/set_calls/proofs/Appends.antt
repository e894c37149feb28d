-- How many APPENDs are completed for the items of a call.
use Rattle.std.proofs.Common.{◌≡◌, ◌≤◌, ◌+◌, ◌++◌, ℕ, List, [], ◌∷◌, Result, sym, ◌∙◌, ap, subst, arith}
use Rattle.std.proofs.lemmas.List.{map-append}
use Rattle.gate_world.specs.declared.event.Event.{Event}
use Rattle.told_folder.specs.declared.exchange.Exchange.{Exchange}
use Rattle.told_mail.specs.Mail.{Mail}
use Rattle.imap_client.specs.LinkLife.{LinkLife}
use Rattle.imap_client.specs.Plans.{Ran}
use Rattle.set_jobs.specs.declared.done.Done.{Done}
use Rattle.set_jobs.specs.declared.job.Job.{Job}
use Rattle.set_order.specs.Ordered.{Item}
use Rattle.set_items.specs.Commands.{appends_in, appends_of}
use Rattle.set_items.specs.declared.item.ItemEnd.{ItemEnd}
use Rattle.set_items.specs.Items.{Answers, ItemState, item_plan, item_start}
use Rattle.set_calls.specs.Calls.{SetCall, CallState, DoesItems, NoItems, MoreItems, RunsItems, AllDone, Stopped, Wanting, StepsItem, TakesItem, Refused, Stepped, items_of}
use Rattle.set_calls.specs.Promises.{ChecksAppend, creation_count, creations_in}

-- what is proved of items
abbrev pub AppendOnce : Type 0
AppendOnce = (job : Job) (m : Mail) (xs : List Exchange) → Answers (item_start job m) xs → appends_in xs ≤ appends_of job.steps

abbrev pub AreAnswers : Type 0
AreAnswers = (s : ItemState) (life after : LinkLife) (xs : List Exchange) (events : List Event) → Ran (item_plan s) life xs after events → Answers s xs

appends_append : (xs ys : List Exchange) → appends_in (xs ++ ys) ≡ appends_in xs + appends_in ys
appends_append [] ys = omega arith
appends_append (x ∷ xs) ys = omega (arith, appends_append xs ys)

creations_append : (is js : List Item) → creations_in (is ++ js) ≡ creations_in is + creations_in js
creations_append [] js = omega arith
creations_append (i ∷ is) js = omega (arith, creations_append is js)

-- one item more
creations_more : (done : List (Item × Done)) (item : Item) (came : Done) → creations_in (items_of (done ++ (item, came) ∷ [])) ≡ creations_in (items_of done) + creation_count item
creations_more done item came =
    ap creations_in (map-append (λ (e : Item × Done). e.0) done ((item, came) ∷ [])) ∙ omega (arith, creations_append (items_of done) (item ∷ []))

module _ (once : AppendOnce) (answers : AreAnswers) where
  steps_append : (item : Item) (job : Job) (before after : CallState) (ends : ItemEnd) (events : List Event) (n : ℕ) → appends_of job.steps ≤ n
      → StepsItem item job before ends events after → appends_in after.exchanges ≤ appends_in before.exchanges + n
  steps_append item job before after ends events n most steps =
      let runs = steps.does.runs in
      let own : appends_in runs.exchanges ≤ appends_of job.steps =
      once job before.mail runs.exchanges (answers (item_start job before.mail) before.life runs.follows.after runs.exchanges runs.follows.so_far runs.follows.ran) in
      let all : appends_in after.exchanges ≡ appends_in before.exchanges + appends_in runs.exchanges =
      ap appends_in steps.exchanges_are ∙ appends_append before.exchanges runs.exchanges in
      omega (arith, own, all, most)

  item_appends : (c : SetCall) → ChecksAppend c → (item : Item) (before after : CallState) (done : Done) (events : List Event) → TakesItem c item before done events after
      → appends_in after.exchanges ≤ appends_in before.exchanges + creation_count item
  item_appends c fit item before after done events (Refused drawn e is came events_are same) = let n : appends_in after.exchanges ≡ appends_in before.exchanges = ap (λ (s : CallState). appends_in s.exchanges) same in omega (arith, n)
  item_appends c fit item before after done events (Stepped drawn job doing is steps events_are) =
      steps_append item job before after _ doing (creation_count item) (fit _ item drawn job is) steps

  course_appends : (c : SetCall) → ChecksAppend c → (before after : CallState) (done : List (Item × Done)) (events : List Event) → DoesItems c before done events after
      → appends_in after.exchanges ≤ appends_in before.exchanges + creations_in (items_of done)
  course_appends c fit before after done events NoItems = omega arith
  course_appends c fit before after _ _ (MoreItems {done = done} {events = events} {mid = mid} next course) =
      let so_far : appends_in mid.exchanges ≤ appends_in before.exchanges + creations_in (items_of done) = course_appends c fit before mid done events course in
      let more : appends_in next.after.exchanges ≤ appends_in mid.exchanges + creation_count next.item = item_appends c fit next.item mid next.after next.done next.events next.takes in
      omega (arith, so_far, more, creations_more done next.item next.done)

  pub call_appends : (c : SetCall) (items : List Item) (before after : CallState) (result : Result (List (Item × Done)) ItemEnd) (events : List Event) → ChecksAppend c
      → RunsItems c items before result events after → appends_in after.exchanges ≤ appends_in before.exchanges + creations_in items
  call_appends c items before after result events fit (AllDone done course all ok) =
      subst (λ (is : List Item). appends_in after.exchanges ≤ appends_in before.exchanges + creations_in is) all (course_appends c fit before after done events course)
  call_appends c items before after result events fit (Wanting done later earlier drawn course draws whole are is) =
      let so_far : appends_in after.exchanges ≤ appends_in before.exchanges + creations_in (items_of done) = course_appends c fit before after done earlier course in
      let all : creations_in items ≡ creations_in (items_of done) + creations_in later = ap creations_in (sym whole) ∙ creations_append (items_of done) later in
      omega (arith, so_far, all)
  call_appends c items before after result events fit (Stopped done item later mid so_far last ends course stop whole are is) =
      let earlier : appends_in mid.exchanges ≤ appends_in before.exchanges + creations_in (items_of done) = course_appends c fit before mid done so_far course in
      let own : appends_in after.exchanges ≤ appends_in mid.exchanges + creation_count item =
      steps_append item stop.job mid after ends stop.doing (creation_count item) (fit _ item stop.drawn stop.job stop.is_prepared) stop.steps in
      let all : creations_in items ≡ creations_in (items_of done) + (creation_count item + creations_in later) = ap creations_in (sym whole) ∙ creations_append (items_of done) (item ∷ later) in
      omega (arith, earlier, own, all)
