-- What holds of nothing, of what one call asks, and of one part after another, holds of all calls.
use Rattle.std.proofs.Common.{◌≡◌, ◌++◌, ℕ, List, [], Result, sym, ap, subst}
use Rattle.gate_world.specs.declared.event.Event.{Event}
use Rattle.serde_json.specs.Data.{Data}
use Rattle.email_bodies.specs.Asking.{BodyAsk}
use Rattle.jmap_arguments.specs.declared.method_error.MethodError.{MethodError}
use Rattle.jmap_arguments.specs.declared.using.Using.{Using}
use Rattle.result_references.specs.Call.{CallData}
use Rattle.gate_machine.specs.Fetching.{CallsAsk, AllAsked}
use Rattle.gate_machine.specs.Progress.{Progress}
use Rattle.set_arguments.specs.declared.set_method.SetMethod.{SetMethod}
use Rattle.set_calls.specs.Calls.{SetCall}
use Rattle.set_jobs.specs.declared.done.Done.{Done}
use Rattle.set_order.specs.Ordered.{Item}
use Rattle.gate_changes.specs.Answering as answering
use Rattle.gate_changes.specs.Answering.{DoesChange, LacksAnswer}
use Rattle.gate_changes.specs.Changing.{ChangesMail, LacksChange}
use Rattle.gate_calls.specs.ItemChecks.{item_checks}
use Rattle.gate_calls.specs.Mailings.{Mailing}
use Rattle.gate_calls.specs.Calling.{Asked, CallsState, DoesCall, Reads, Changes, DoesCalls, NoCalls, MoreCalls, ReadsInVain, ChangesInVain, LacksNext, AfterLast, InCall, LacksCalls}

module _ (R : Progress → List Event → Progress → Type 0) (nothing : (p : Progress) → R p [] p)
    (asks : (p : Progress) (tried : List BodyAsk) (events : List Event) (q : Progress) → CallsAsk p tried events q → R p events q)
    (changes : (call : SetCall) (items : List Item) (p : Progress) (result : Result (List (Item × Done)) MethodError) (events : List Event) (q : Progress)
    → ChangesMail call items p result events q → R p events q)
    (lacks_change : (call : SetCall) (items : List Item) (p : Progress) (events : List Event) (q : Progress) → LacksChange call items p events q → R p events q)
    (both : (p q r : Progress) (es fs : List Event) → R p es q → R q fs r → R p (es ++ fs) r) where
  pub none_through : (p q : Progress) (events : List Event) → events ≡ [] → q ≡ p → R p events q
  none_through p q events none is = subst (λ (l : List Event). R p l q) (sym none) (subst (λ (x : Progress). R p [] x) (sym is) (nothing p))

  -- a call that changes mail
  change_through : {uploads : List (List ℕ)} {m : SetMethod} {d : Data} {mail : Mailing} {s t : CallsState} {result : Result Data MethodError} {events : List Event}
      → DoesChange (item_checks uploads) m d mail s result events t → R s.progress events t.progress
  change_through {s = s} {t = t} {events = events} (answering.Refused e is result_is no_events same) =
      none_through s.progress t.progress events no_events (ap (λ (x : CallsState). x.progress) same)
  change_through {s = s} {t = t} {events = events} (answering.Untold a e is mail_is result_is no_events same) =
      none_through s.progress t.progress events no_events (ap (λ (x : CallsState). x.progress) same)
  change_through {s = s} {t = t} {events = events} (answering.Asked a h is mail_is (answering.Mismatch current result_is no_events same)) =
      none_through s.progress t.progress events no_events (ap (λ (x : CallsState). x.progress) same)
  change_through {s = s} {t = t} {events = events} (answering.Asked a h is mail_is (answering.Changes items came current items_are does answers)) =
      changes _ items s.progress came events t.progress does

  lacking_change : {uploads : List (List ℕ)} {m : SetMethod} {d : Data} {mail : Mailing} {s : CallsState} {events : List Event} {q : Progress} → LacksAnswer (item_checks uploads) m d mail s events q
      → R s.progress events q
  lacking_change {s = s} {events = events} {q = q} (answering.Unread no_events same) = none_through s.progress q events no_events same
  lacking_change {s = s} {events = events} {q = q} (answering.LacksIn a h is mail_is (answering.BeforeItems no_events same)) =
      none_through s.progress q events no_events same
  lacking_change {s = s} {events = events} {q = q} (answering.LacksIn a h is mail_is (answering.Meanwhile items current items_are lacks)) =
      lacks_change _ items s.progress events q lacks
  lacking_change {s = s} {events = events} {q = q} (answering.LacksIn a h is mail_is (answering.Unanswered items came current items_are does)) =
      changes _ items s.progress came events q does

  pub one_through : {uses : Using} {uploads : List (List ℕ)} {earlier : List CallData} {call : CallData} {s t : CallsState} {asked : List Asked} {result : Result Data MethodError}
      {events : List Event} → DoesCall uses uploads earlier call s asked result events t → R s.progress events t.progress
  one_through {s = s} {t = t} {events = events} (Reads bodies answers those is created) = asks s.progress bodies events t.progress (AllAsked those)
  one_through {s = s} {t = t} {result = result} {events = events} (Changes m d h named resolved told does asks_are) = change_through does

  pub calls_through : {uses : Using} {uploads : List (List ℕ)} {s t : CallsState} {calls responses : List CallData} {asked : List Asked} {events : List Event}
      → DoesCalls uses uploads s calls asked responses events t → R s.progress events t.progress
  calls_through {s = s} NoCalls = nothing s.progress
  calls_through {s = s} (MoreCalls {events = events} {mid = mid} next rest) =
      both s.progress mid.progress next.after.progress events next.events (calls_through rest) (one_through next.does)

  next_through : {uses : Using} {uploads : List (List ℕ)} {earlier later : List CallData} {mid : CallsState} {events : List Event} {q : Progress}
      → LacksNext uses uploads earlier mid events q later → R mid.progress events q
  next_through {mid = mid} {events = events} {q = q} (AfterLast none is) = none_through mid.progress q events none is
  next_through {mid = mid} {events = events} {q = q} (InCall (ReadsInVain tried those due)) = asks mid.progress tried events q those
  next_through {mid = mid} {events = events} {q = q} (InCall (ChangesInVain m d h named resolved told lacks)) = lacking_change lacks

  pub lacks_through : {uses : Using} {uploads : List (List ℕ)} {calls : List CallData} {s : CallsState} {events : List Event} {q : Progress}
      → LacksCalls uses uploads s calls events q → R s.progress events q
  lacks_through {s = s} {q = q} lacks =
      subst (λ (l : List Event). R s.progress l q) (sym lacks.whole)
      (both s.progress lacks.mid.progress q lacks.answering lacks.lacking (calls_through lacks.does) (next_through lacks.lacks))
