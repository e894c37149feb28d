-- Each NO of the small store is honest.
use Rattle.std.proofs.Common.{◌≡◌, Option, Some, None, ℕ, ◌<◌, List, [], ◌∷◌, refl, arith, All}
use Rattle.std.proofs.lemmas.List.Elements.{All-from_recursion, All-nil}
use Rattle.imap_types.specs.declared.code.Code.TheVariants as code
use Rattle.imap_types.specs.declared.command.Command.{Command}
use Rattle.imap_types.specs.declared.command.Command.TheVariants as command
use Rattle.honest_store.specs.WellFormed.{IsStoreMail}
use Rattle.honest_store.specs.Others.{NoStep}
use Rattle.honest_store.specs.Responses.{MayAnswer}
use Rattle.honest_store.specs.StoreMail.{StoreMail}
use Rattle.honest_store.specs.TrueResponses.{TellsTruly, NoMore, Tells}
use Rattle.honest_store.specs.Sessions.{StoreSession}
use Rattle.honest_store.specs.Honest.{MayRefuse, after_no, Honest}
use Rattle.small_answers.specs.Causes.{RefusalCause, NotThere, IsThere, IsInbox, HasChildren, NothingSelected, NoMessage, NameTooLong, FlagsTooLong, NumberSpent}
use Rattle.small_answers.specs.Answers.{no_answer, refusal_responses}
use Rattle.small_answers.specs.ToldResponses.{closed_responses, ok_response}

nothing_below : (k : ℕ) → k < 0 → ⊥
nothing_below k l = omega (arith, l)

-- nothing refuses CAPABILITY or ENABLE
never_capability : (s : StoreSession) → RefusalCause s command.Capability → ⊥
never_capability s (NotThere a) = nothing_below a.0 a.2
never_capability s (IsThere a) = nothing_below a.0 a.2
never_capability s (IsInbox a) = a
never_capability s (HasChildren a) = a
never_capability s (NothingSelected a e) = a
never_capability s (NoMessage a) = a
never_capability s (NameTooLong a) = nothing_below a.0 a.2
never_capability s (FlagsTooLong a) = omega (arith, a)
never_capability s (NumberSpent a) = a

never_enable : (s : StoreSession) → RefusalCause s command.Enable → ⊥
never_enable s (NotThere a) = nothing_below a.0 a.2
never_enable s (IsThere a) = nothing_below a.0 a.2
never_enable s (IsInbox a) = a
never_enable s (HasChildren a) = a
never_enable s (NothingSelected a e) = a
never_enable s (NoMessage a) = a
never_enable s (NameTooLong a) = nothing_below a.0 a.2
never_enable s (FlagsTooLong a) = omega (arith, a)
never_enable s (NumberSpent a) = a

-- only that no folder is selected refuses UNSELECT
none_selected : (s : StoreSession) → RefusalCause s command.Unselect → s.selected ≡ None
none_selected s (NotThere a) = absurd (nothing_below a.0 a.2)
none_selected s (IsThere a) = absurd (nothing_below a.0 a.2)
none_selected s (IsInbox a) = absurd a
none_selected s (HasChildren a) = absurd a
none_selected s (NothingSelected a e) = e
none_selected s (NoMessage a) = absurd a
none_selected s (NameTooLong a) = absurd (nothing_below a.0 a.2)
none_selected s (FlagsTooLong a) = absurd (omega (arith, a))
none_selected s (NumberSpent a) = absurd a

may_refuse : (s : StoreSession) (c : Command) → RefusalCause s c → MayRefuse c s.selected
may_refuse s command.Capability h = absurd (never_capability s h)
may_refuse s command.Enable h = absurd (never_enable s h)
may_refuse s command.Unselect h = none_selected s h
may_refuse s _ h = tt

-- what is told with NO may come at any time
closed_told : (was selected : Option ℕ) (mail : StoreMail) → TellsTruly NoStep selected mail (closed_responses was) mail
closed_told None selected mail = NoMore
closed_told (Some n) selected mail = Tells (ok_response code.Closed) tt tt NoMore

refusal_told : (c : Command) (was selected : Option ℕ) (mail : StoreMail) → TellsTruly NoStep selected mail (refusal_responses c was) mail
refusal_told (command.Select name known) was selected mail = closed_told was selected mail
refusal_told _ was selected mail = NoMore

closed_answers : (name : List ℕ) (known : Option (ℕ × ℕ)) (was : Option ℕ) → All (MayAnswer (command.Select name known)) (closed_responses was)
closed_answers name known None = All-nil (MayAnswer (command.Select name known))
closed_answers name known (Some n) = All-from_recursion (MayAnswer (command.Select name known)) (ok_response code.Closed ∷ []) (tt, tt)

refusal_answers : (c : Command) (was : Option ℕ) → All (MayAnswer c) (refusal_responses c was)
refusal_answers (command.Select name known) was = closed_answers name known was
refusal_answers c was = All-nil (MayAnswer c)

pub refusals_are_honest : (s : StoreSession) (c : Command) → IsStoreMail s.mail → RefusalCause s c → Honest NoStep s c (no_answer c s.selected) (after_no c s)
refusals_are_honest s c whole h = record {
  early = [];
  late = refusal_responses c s.selected;
  from = s;
  to = after_no c s;
  whole = refl;
  may_answer = refusal_answers c s.selected;
  told_early = NoMore;
  still_selected = refl;
  acts = record { may = may_refuse s c h; nothing = refl };
  well_formed = whole;
  told_late = refusal_told c s.selected (after_no c s).selected s.mail;
  stays_selected = refl;
}
