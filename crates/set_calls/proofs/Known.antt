-- The one item of a call whose steps are known.
use Rattle.std.proofs.Common.{◌≡◌, ◌≢◌, ◌+◌, ℕ, Bool, List, [], ◌∷◌, None, Result, Ok, Err, arith, refl, sym, ap, subst}
use Rattle.gate_world.specs.Causes.{RoseBy}
use Rattle.gate_world.specs.declared.event.Event.{Event}
use Rattle.told_folder.specs.declared.exchange.Exchange.{Exchange}
use Rattle.told_mail.specs.Told.{Told}
use Rattle.imap_client.specs.LinkLife.{LinkLife, ClientState, Stands}
use Rattle.set_jobs.specs.declared.done.Done.{Done}
use Rattle.set_jobs.specs.declared.done.Done.TheVariants.{Not}
use Rattle.set_jobs.specs.declared.done.SetError.{SetError}
use Rattle.set_jobs.specs.declared.job.Job.{Job}
use Rattle.set_order.specs.Ordered.{Item}
use Rattle.set_methods.specs.Checks.{Checks, KnownSteps, Rules}
use Rattle.set_methods.specs.declared.checks.Passed.TheVariants.{Steps}
use Rattle.set_items.specs.declared.item.ItemEnd.TheVariants.{Comes, OutOfMemory}
use Rattle.set_items.specs.Talks.{AllReadKnown}
use Rattle.set_calls.specs.Calls.{SetCall, CallState, IsPrepared, StepsItem, Refused, Stepped, NoItems, MoreItems, RunsItems, AllDone, Stopped, call_begun, given_at}
use Rattle.set_calls.specs.declared.call.CallEnd.{CallEnd}
use Rattle.set_calls.specs.declared.call.CallEnd.TheVariants as ends
use Rattle.set_calls.specs.reading.Calling.{Leaves, call_end, came_end, one_came}

module _ (c : SetCall) (item : Item) (s : CallState) where
  -- by what is known it is prepared
  known_job : (job : Job) → c.rules ≡ KnownSteps (Ok job) → IsPrepared c s item None (Ok job)
  known_job job rules = subst (λ (r : Rules). Checks r (given_at c s) item (Ok (Steps job))) (sym rules) refl

  known_error : (e : SetError) → c.rules ≡ KnownSteps (Err e) → IsPrepared c s item None (Err e)
  known_error e rules = subst (λ (r : Rules). Checks r (given_at c s) item (Err e)) (sym rules) refl

  pub refused : (e : SetError) → c.rules ≡ KnownSteps (Err e) → RunsItems c (item ∷ []) s (Ok ((item, Not e) ∷ [])) [] s
  refused e rules =
      AllDone ((item, Not e) ∷ [])
      (MoreItems (record { item = item; done = Not e; events = []; after = s; takes = Refused None e (known_error e rules) refl refl refl }) NoItems) refl refl

  end_is : (e : CallEnd) (done : Done) → call_end e ≢ Comes done
  end_is (ends.Fails e) done = λ is. cc
  end_is ends.Memory done = λ is. cc

  pub stepped : (job : Job) (result : Result Done CallEnd) (events : List Event) (after : CallState) → c.rules ≡ KnownSteps (Ok job)
      → StepsItem item job s (came_end result) events after → RunsItems c (item ∷ []) s (one_came item result) events after
  stepped job (Ok done) events after rules steps =
      AllDone ((item, done) ∷ [])
      (MoreItems (record { item = item; done = done; events = events; after = after; takes = Stepped None job events (known_job job rules) steps refl }) NoItems) refl refl
  stepped job (Err e) events after rules steps =
      Stopped [] item [] s [] events (call_end e) NoItems
      (record { drawn = None; job = job; doing = events; is_prepared = known_job job rules; steps = steps; events_are = refl; not_done = end_is e }) refl refl refl

-- what is left after it
pub record Left (item : Item) (client : ClientState) (mirror told_now : Told) (came : Result Done CallEnd) (was now : ℕ) (after : CallState) : Type 0 where
  pub stands : Stands client after.life
  pub mail_is : after.mail ≡ told_now.mail
  pub counted : one_came item came ≢ Err OutOfMemory → AllReadKnown mirror.mail after.exchanges → told_now.changes ≡ mirror.changes
  pub rose : RoseBy after.lost was now

not_memory : (item : Item) (came : Result Done CallEnd) → one_came item came ≢ Err OutOfMemory → came ≢ Err ends.Memory
not_memory item came other is = other (ap (one_came item) is)

no_more_lost : (m n was now : ℕ) → m ≡ 0 + n → RoseBy n was now → RoseBy m was now
no_more_lost m n was now is rose = omega (arith, is, rose)

pub leaves : (item : Item) (client : ClientState) (mirror told_now : Told) (changed : Bool) (came : Result Done CallEnd) (was now : ℕ) (life : LinkLife) (after : CallState)
    → Leaves client mirror told_now changed came was now (call_begun mirror.mail life) after → Left item client mirror told_now came was now after
leaves item client mirror told_now changed came was now life after l =
    record {
      stands = l.stands;
      mail_is = l.mail_is;
      counted = λ other all. l.counted (not_memory item came other) (subst (λ (xs : List Exchange). AllReadKnown mirror.mail xs) l.own_is all);
      rose = no_more_lost after.lost l.lost was now l.lost_is l.rose;
    }

-- nothing was asked
pub left_none : (item : Item) (client : ClientState) (mirror : Told) (e : SetError) (was : ℕ) (life : LinkLife) → Stands client life
    → Left item client mirror mirror (Ok (Not e)) was was (call_begun mirror.mail life)
left_none item client mirror e was life stands =
    record { stands = stands; mail_is = refl; counted = λ other all. refl; rose = omega arith }
