-- What is noted, and the cause by which a plan stopped.
use Rattle.std.proofs.Common.{Option, Some, None, Result, Ok, Err, ◌≡◌, ◌≢◌, ◌++◌, Bool, true, false, ℕ, List, [], ◌∷◌, fold, refl, sym, ◌∙◌, ap, subst}
use Rattle.std.proofs.lemmas.List.Sums.{fold-append}
use Rattle.std.specs.declared.alloc.AllocError.{AllocError}
use Rattle.std.specs.Option.{option_map}
use Rattle.gate_world.specs.declared.event.Event.{Event}
use Rattle.imap_types.specs.declared.command.Command.{Command}
use Rattle.told_folder.specs.declared.exchange.Exchange.{Exchange}
use Rattle.imap_exchange.specs.declared.link_end.LinkEnd.{LinkEnd}
use Rattle.imap_exchange.specs.declared.link_end.LinkEnd.TheVariants as end
use Rattle.imap_exchange.specs.Received.{Octets}
use Rattle.imap_exchange.specs.Answering.{IsCause as EndsSo}
use Rattle.imap_client.specs.declared.plan.Due.{Due}
use Rattle.imap_client.specs.declared.plan.Due.TheVariants as due
use Rattle.imap_client.specs.declared.plan.Refusal.{Refusal}
use Rattle.imap_types.specs.Commands.{command_pieces, tag_of}
use Rattle.imap_client.specs.LinkLife.{LinkLife, ClientState, next_number, selected_after, unread}
use Rattle.imap_client.specs.Plans.{Planned, Ran, Begun, Then, Follows, IsEnd, Finished, Failed, Broken, LifeHadEnded, Wanting}
use Rattle.imap_client.specs.Refusals.{refusal_end}
use Rattle.store_causes.specs.declared.cause.Breach.{Breach}
use Rattle.store_causes.specs.declared.cause.Breach.TheVariants as breach
use Rattle.store_causes.specs.declared.cause.StoreCause.{StoreCause}
use Rattle.store_causes.specs.declared.cause.StoreCause.TheVariants as reason
use Rattle.store_causes.specs.declared.notes.Notes.{Notes}
use Rattle.store_causes.specs.Causes.{DoesntFailAtOnce, asked_by, breach_of, cause_after, let_in_after, unanswered, StopsBy, LastAnswer, NoAnswer, IsOutcome, AllDone, Stopped}
use Rattle.store_causes.specs.reading.Noting.{noted, cause_at}
use Rattle.store_causes.specs.reading.Following.{Finds, Done, Stopped as FoundStopped, Wanting as FoundWanting, is_memory}

-- ---- notes

pub let_in_of : (n : Notes) (xs : List Exchange) → (fold noted n xs).let_in ≡ fold let_in_after n.let_in xs
let_in_of n [] = refl
let_in_of n (x ∷ xs) = let_in_of (noted n x) xs

pub selected_of : (n : Notes) (xs : List Exchange) → (fold noted n xs).selected ≡ fold selected_after n.selected xs
selected_of n [] = refl
selected_of n (x ∷ xs) = selected_of (noted n x) xs

cause_of_last : (n : Notes) (before : List Exchange) (x : Exchange) → (fold noted n (before ++ x ∷ [])).cause ≡ Some (cause_after (fold let_in_after n.let_in before) x)
cause_of_last n before x =
    ap (λ (m : Notes). m.cause) (fold-append noted n before (x ∷ [])) ∙ ap (λ (b : Bool). Some (cause_after b x)) (let_in_of n before)

-- ---- how a plan stopped

true_not_false : true ≡ false → ⊥
true_not_false is = cc

not_memory : (e : LinkEnd) → is_memory e ≡ false → e ≢ end.Memory
not_memory e other is = true_not_false (sym (ap is_memory is) ∙ other)

-- the last of these exchanges
record HasLast (xs : List Exchange) : Type 0 where
  before : List Exchange
  last : Exchange
  is : xs ≡ before ++ last ∷ []

last_of : {plan : Planned} {life after : LinkLife} {xs : List Exchange} {es : List Event} → DoesntFailAtOnce plan → Ran plan life xs after es → (why : Refusal)
    → plan xs ≡ due.Fails why → HasLast xs
last_of starts Begun why is = absurd (starts why is)
last_of starts (Then {heard} next ran) why is = record { before = heard; last = next.exchange; is = refl }

breach_there : (tag : List ℕ) (pieces : List (List ℕ)) (before : Octets) (gave took : List ℕ) (e : LinkEnd) → EndsSo tag pieces before gave took e → e ≢ end.Memory
    → (b : Breach) × (breach_of e ≡ Some b)
breach_there tag pieces before gave took end.Lost so other = (breach.Silent, refl)
breach_there tag pieces before gave took (end.Bad at) so other = (breach.Unreadable at, refl)
breach_there tag pieces before gave took end.Stray so other = (breach.Stray, refl)
breach_there tag pieces before gave took end.Bye so other = (breach.Bye, refl)
breach_there tag pieces before gave took end.TooMuch so other = (breach.TooMuch, refl)
breach_there tag pieces before gave took end.Memory so other = absurd (other refl)
breach_there tag pieces before gave took end.Refused so other = absurd so
breach_there tag pieces before gave took end.NoQresync so other = absurd so
breach_there tag pieces before gave took end.Lacks so other = absurd so

-- the cause that notes have is one
pub record HasCause (n : Notes) (xs : List Exchange) (now : Due) (e : LinkEnd) : Type 0 where
  pub cause : StoreCause
  pub noted_is : cause_at (fold noted n xs) now e ≡ Some cause
  pub so : StopsBy n.let_in n.selected xs now e cause

has_of_due : (n : Notes) (xs : List Exchange) {now due_is : Due} {e f : LinkEnd} → now ≡ due_is → e ≡ f → HasCause n xs due_is f → HasCause n xs now e
has_of_due n xs {now} {due_is} {e} {f} now_is e_is so =
    subst (λ (d : Due). HasCause n xs d e) (sym now_is) (subst (λ (g : LinkEnd). HasCause n xs due_is g) (sym e_is) so)

has_unanswered : (n : Notes) (xs : List Exchange) (command : Command) (e : LinkEnd) (b : Breach) → breach_of e ≡ Some b → HasCause n xs (due.Send command) e
has_unanswered n xs command e b is =
    record {
      cause = reason.Unanswered (asked_by command (fold selected_after n.selected xs)) b;
      noted_is = ap (λ (s : Option (List ℕ)). unanswered (asked_by command s) e) (selected_of n xs)
          ∙ ap (option_map (reason.Unanswered (asked_by command (fold selected_after n.selected xs)))) is;
      so = NoAnswer command e b is;
    }

has_answered : (n : Notes) (xs : List Exchange) (why : Refusal) → HasLast xs → HasCause n xs (due.Fails why) (refusal_end why)
has_answered n xs why l =
    record {
      cause = cause_after (fold let_in_after n.let_in l.before) l.last;
      noted_is = ap (λ (ys : List Exchange). (fold noted n ys).cause) l.is ∙ cause_of_last n l.before l.last;
      so = LastAnswer why l.before l.last l.is;
    }

-- an end, as a plan ends
abbrev unit_end : LinkEnd → Result (Unit {0}) LinkEnd
unit_end e = Err e

same_end : (e f : LinkEnd) → unit_end e ≡ unit_end f → e ≡ f
same_end e f is = cc

err_is : (e f : LinkEnd) {r : Result (Unit {0}) LinkEnd} → r ≡ Err e → r ≡ Err f → e ≡ f
err_is e f one other = same_end e f (sym one ∙ other)

has_at_end : {now : Due} {life left : LinkLife} {r : Result (Unit {0}) LinkEnd} {es : List Event} (n : Notes) (xs : List Exchange) (e : LinkEnd) → e ≢ end.Memory
    → ((why : Refusal) → now ≡ due.Fails why → HasLast xs) → IsEnd now life left r es → r ≡ Err e → HasCause n xs now e
has_at_end n xs e other last (Finished now_is done none left_is) is = let never = sym done ∙ is in absurd (cc never)
has_at_end n xs e other last (Failed why now_is ends hangs left_is) is = has_of_due n xs now_is (err_is e (refusal_end why) is ends) (has_answered n xs why (last why now_is))
has_at_end {life = life} n xs e other last (Broken command f now_is ends breaks) is =
    let same : e ≡ f = err_is e f is ends in
    let there = breach_there (tag_of (next_number life)) (command_pieces command (next_number life)) (unread life) breaks.speaks.gave breaks.speaks.took f breaks.cause
    (λ m. other (same ∙ m)) in
    has_of_due n xs now_is same (has_unanswered n xs command f there.0 there.1)
has_at_end n xs e other last (LifeHadEnded command now_is over ends none left_is) is =
    has_of_due n xs now_is (err_is e end.Lost is ends) (has_unanswered n xs command end.Lost breach.Silent refl)
has_at_end n xs e other last (Wanting ends hangs left_is) is = absurd (other (err_is e end.Memory is ends))

-- a plan that stopped, and not out of memory, has the cause that is noted
pub has_cause : {plan : Planned} {life left : LinkLife} {xs : List Exchange} {client : ClientState} {es : List Event} (n : Notes) (e : LinkEnd) → DoesntFailAtOnce plan → e ≢ end.Memory
    → Follows plan life left xs client (Err e) es → HasCause n xs (plan xs) e
has_cause {xs = xs} n e starts other f = has_at_end n xs e other (last_of starts f.ran) f.ends refl

abbrev cause_in : StoreCause → Option StoreCause → StoreCause
cause_in other (Some c) = c
cause_in other None = other

abbrev found_or : Option StoreCause → Result (Option StoreCause) AllocError → Option StoreCause
found_or other (Ok c) = c
found_or other (Err e) = other

outcome_by : {plan : Planned} {life left : LinkLife} {xs : List Exchange} {client : ClientState} {ended : Result (Unit {0}) LinkEnd} {r : Result (Option StoreCause) AllocError}
    {es : List Event} (n : Notes) (cause : Option StoreCause) → DoesntFailAtOnce plan → Follows plan life left xs client ended es
    → Finds (plan xs) (fold noted n xs) ended r → r ≡ Ok cause → IsOutcome n.let_in n.selected xs (plan xs) ended cause
outcome_by {plan} {xs = xs} n cause starts f Done is = subst (λ (c : Option StoreCause). IsOutcome n.let_in n.selected xs (plan xs) (Ok tt) c) (ap (found_or None) is) AllDone
outcome_by {plan} {xs = xs} n cause starts f (FoundStopped e other) is =
    let so = has_cause n e starts (not_memory e other) f in
    subst (λ (c : Option StoreCause). IsOutcome n.let_in n.selected xs (plan xs) (Err e) c) (sym so.noted_is ∙ ap (found_or None) is) (Stopped e so.cause so.so)
outcome_by n cause starts f (FoundWanting e g) is = absurd (cc is)

-- whether there is a cause, by what is found
pub outcome_of : {plan : Planned} {life left : LinkLife} {xs : List Exchange} {client : ClientState} {ended : Result (Unit {0}) LinkEnd} {es : List Event} (n : Notes)
    (cause : Option StoreCause) → DoesntFailAtOnce plan → Follows plan life left xs client ended es → Finds (plan xs) (fold noted n xs) ended (Ok cause)
    → IsOutcome n.let_in n.selected xs (plan xs) ended cause
outcome_of n cause starts f finds = outcome_by n cause starts f finds refl

-- out of memory
pub record HasEnd (ended : Result (Unit {0}) LinkEnd) : Type 0 where
  pub ending : LinkEnd
  pub is : ended ≡ Err ending

wants_by : {now : Due} {n : Notes} {ended : Result (Unit {0}) LinkEnd} {r : Result (Option StoreCause) AllocError} (f : AllocError) → Finds now n ended r → r ≡ Err f → HasEnd ended
wants_by f Done is = absurd (cc is)
wants_by f (FoundStopped e other) is = absurd (cc is)
wants_by f (FoundWanting e g) is = record { ending = e; is = refl }

pub wants_of : {now : Due} {n : Notes} {ended : Result (Unit {0}) LinkEnd} (f : AllocError) → Finds now n ended (Err f) → HasEnd ended
wants_of f finds = wants_by f finds refl

-- ---- laws

pub has_some_cause : (plan : Planned) (let_in : Bool) (selected : Option (List ℕ)) (life left : LinkLife) (xs : List Exchange) (client : ClientState) (e : LinkEnd) (es : List Event)
    → DoesntFailAtOnce plan → e ≢ end.Memory → Follows plan life left xs client (Err e) es → (c : StoreCause) × StopsBy let_in selected xs (plan xs) e c
has_some_cause plan let_in selected life left xs client e es starts other f =
    let so = has_cause (record { let_in = let_in; selected = selected; cause = None }) e starts other f in (so.cause, so.so)

-- the cause is what notes have
noted_cause : (n : Notes) {xs : List Exchange} {now : Due} {e : LinkEnd} {c : StoreCause} → StopsBy n.let_in n.selected xs now e c → cause_at (fold noted n xs) now e ≡ Some c
noted_cause n (LastAnswer why before x is) = ap (λ (ys : List Exchange). (fold noted n ys).cause) is ∙ cause_of_last n before x
noted_cause n {xs} (NoAnswer command e b is) =
    ap (λ (s : Option (List ℕ)). unanswered (asked_by command s) e) (selected_of n xs) ∙ ap (option_map (reason.Unanswered (asked_by command (fold selected_after n.selected xs)))) is

pub same_cause : (let_in : Bool) (selected : Option (List ℕ)) (xs : List Exchange) (now : Due) (e : LinkEnd) (c d : StoreCause) → StopsBy let_in selected xs now e c
    → StopsBy let_in selected xs now e d → c ≡ d
same_cause let_in selected xs now e c d one other =
    let n : Notes = record { let_in = let_in; selected = selected; cause = None } in ap (cause_in c) (sym (noted_cause n one) ∙ noted_cause n other)
