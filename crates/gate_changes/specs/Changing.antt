-- The items of a changing call over what the machine knows, then one commit (RFC 8620 sections 3.6.2 and 5.3).
use Rattle.std.specs.Prelude.{◌≡◌, ◌++◌, ℕ, false, List, [], Option, Some, None, Result, Ok, Err}
use Rattle.gate_world.specs.declared.event.Event.{Event}
use Rattle.imap_exchange.specs.Answering.{HangsUp}
use Rattle.imap_client.specs.LinkLife.{LinkLife, hung_up}
use Rattle.jmap_arguments.specs.declared.method_error.MethodError.{MethodError}
use Rattle.jmap_arguments.specs.declared.method_error.MethodError.TheVariants.{ServerUnavailable, ServerPartialFail, ServerFail}
use Rattle.gate_machine.specs.Beginning.{Settles}
use Rattle.gate_machine.specs.Progress.{Progress, is_up, out_of_memory}
use Rattle.gate_machine.specs.declared.mail_status.MailFailure.TheVariants as failure
use Rattle.gate_machine.specs.declared.mail_status.MailStatus.TheVariants as standing
use Rattle.set_jobs.specs.declared.done.Done.{Done}
use Rattle.set_order.specs.Ordered.{Item}
use Rattle.set_methods.specs.Checks.{ImportRules, Rules}
use Rattle.set_items.specs.declared.item.ItemEnd.TheVariants.{Ends, OutOfMemory}
use Rattle.set_calls.specs.Calls.{SetCall}
use Rattle.gate_changes.specs.Importing.{DoesImports}
use Rattle.gate_changes.specs.Items.{DoesItemsOver, ItemsCame}

-- items whose steps are known, or made of what is drawn, once they pass their checks
abbrev pub AreInRow : Rules → Type 0
AreInRow (ImportRules uploads) = ⊥
AreInRow rules = Unit {0}

-- The items of a call are done: all of them in a row; or, where they are imports, each once its body was asked.
pub data DoesCourse (call : SetCall) (items : List Item) (before : Progress) (came : ItemsCame) (events : List Event) (after : Progress) : Type 0 where
  InRow : AreInRow call.rules → DoesItemsOver call items before came events after → DoesCourse call items before came events after
  OneByOne : (uploads : List (List ℕ)) → call.rules ≡ ImportRules uploads → DoesImports call uploads false before items came events after
      → DoesCourse call items before came events after

-- it isn't one that failed in part, nor one for which there was no memory
abbrev pub GoesToCommit : ItemsCame → Type 0
GoesToCommit (Ok done) = Unit {0}
GoesToCommit (Err (Ends ServerUnavailable)) = Unit {0}
GoesToCommit (Err e) = ⊥

-- what a call comes to whose commit succeeds
abbrev pub where_committed : ItemsCame → Result (List (Item × Done)) MethodError
where_committed (Ok done) = Ok done
where_committed (Err e) = Err ServerUnavailable

-- No more is done in the life, which is hung up.
abbrev pub hung : Option LinkLife → Option LinkLife
hung None = None
hung (Some life) = Some (hung_up life)

-- after this each later call of the request that needs the mail is answered serverUnavailable
abbrev pub broken_off : Progress → Progress
broken_off p = record p { standing = standing.Unserved failure.Broken; left = hung p.left }

-- What a changing call that is let through comes to. Where it failed in part there is no commit; else there is one, also where an item ended the call as
-- the store wasn't there.
pub data ChangesMail (call : SetCall) (items : List Item) (before : Progress) (result : Result (List (Item × Done)) MethodError) (events : List Event)
    (after : Progress) : Type 0 where
  Committed : (came : ItemsCame) (mid : Progress) → DoesCourse call items before came events mid → GoesToCommit came → Settles mid [] after
      → after.standing ≡ standing.Stands → result ≡ where_committed came → ChangesMail call items before result events after
  -- a place would pass the last one, and the machine isn't ready
  SpentBy : (came : ItemsCame) (mid spent : Progress) (doing ending : List Event) → DoesCourse call items before came doing mid → GoesToCommit came
      → Settles mid [] spent → spent.standing ≡ standing.Unserved failure.Spent → HangsUp (is_up spent.left) ending → events ≡ doing ++ ending
      → after ≡ broken_off spent → result ≡ Err ServerFail → ChangesMail call items before result events after
  FailedInPart : (mid : Progress) (doing ending : List Event) → DoesCourse call items before (Err (Ends ServerPartialFail)) doing mid
      → HangsUp (is_up mid.left) ending → events ≡ doing ++ ending → after ≡ broken_off mid → result ≡ Err ServerPartialFail
      → ChangesMail call items before result events after

-- Memory runs out: in the items, or in the commit.
pub data LacksChange (call : SetCall) (items : List Item) (before : Progress) (events : List Event) (after : Progress) : Type 0 where
  InItems : (mid : Progress) → DoesCourse call items before (Err OutOfMemory) events mid → after ≡ out_of_memory mid
      → LacksChange call items before events after
  InCommit : (came : ItemsCame) (mid : Progress) → DoesCourse call items before came events mid → GoesToCommit came → Settles mid [] after
      → after.standing ≡ standing.OutOfMemory → LacksChange call items before events after
