-- No epoch is drawn in a call that changes mail.
use Rattle.std.proofs.Common.{◌≡◌, ◌∙◌, ℕ, List, [], Option, Some, None, Result, refl, sym, ap, subst}
use Rattle.gate_world.specs.declared.event.Event.{Event}
use Rattle.email_bodies.specs.Asking.{BodyAsk}
use Rattle.email_bodies.specs.declared.source.MessagePlace.{MessagePlace}
use Rattle.jmap_arguments.specs.declared.method_error.MethodError.{MethodError}
use Rattle.mail_state.specs.History.{MailHistory}
use Rattle.gate_machine.specs.Beginning.{Settles, Same, Moves, Spends, Lacks}
use Rattle.gate_machine.specs.Fetching.{AsksBody, AsksBodies, CallsAsk, LacksBody}
use Rattle.gate_machine.specs.Fetching as fetching
use Rattle.gate_machine.specs.Going.{HasGoneOn, Still, On}
use Rattle.gate_machine.specs.History.{KnownMail, served_anew}
use Rattle.gate_machine.specs.Machine.{MachineState}
use Rattle.gate_machine.specs.Progress.{Progress}
use Rattle.set_jobs.specs.declared.done.Done.{Done}
use Rattle.set_order.specs.Ordered.{Item}
use Rattle.set_calls.specs.Calls.{SetCall}
use Rattle.gate_changes.specs.Changing.{DoesCourse, ChangesMail, Committed, SpentBy, FailedInPart}
use Rattle.gate_changes.specs.Items.{DoesItemsOver, ItemsCame}
use Rattle.gate_changes.proofs.Doing.{one_known}
use Rattle.gate_changes.proofs.Through.{Any, course_through}

gone_both : {g h i : MailHistory} → HasGoneOn g h → HasGoneOn h i → HasGoneOn g i
gone_both one Still = one
gone_both one (On m two next advances) = On m (gone_both one two) next advances

-- where the machine is ready, it was before, and the history that was served then has gone on
abbrev pub StaysInEpoch : MachineState → MachineState → Type 0
StaysInEpoch m n = (k : KnownMail) → n.known ≡ Some k → (j : KnownMail) × (m.known ≡ Some j) × HasGoneOn j.history k.history

pub stays_same : (m n : MachineState) → n ≡ m → StaysInEpoch m n
stays_same m n is k ready = (k, ap (λ (x : MachineState). x.known) (sym is) ∙ ready, Still)

pub stays_nowhere : (m n : MachineState) → n.known ≡ None → StaysInEpoch m n
stays_nowhere m n none k ready = absurd (cc (sym none ∙ ready))

pub stays_both : (l m n : MachineState) → StaysInEpoch l m → StaysInEpoch m n → StaysInEpoch l n
stays_both l m n one two k ready =
    let mid = two k ready in
    let first = one mid.0 mid.1 in
    (first.0, first.1, gone_both first.2 mid.2)

-- the history that is known goes on to another
pub stays_known : (m n : MachineState) (j l : KnownMail) → m.known ≡ Some j → n.known ≡ Some l → HasGoneOn j.history l.history → StaysInEpoch m n
stays_known m n j l was now gone k ready =
    (j, was, subst (λ (x : KnownMail). HasGoneOn j.history x.history) (one_known l k (sym now ∙ ready)) gone)

machine_is : (p q : Progress) → q ≡ p → q.machine ≡ p.machine
machine_is p q is = ap (λ (x : Progress). x.machine) is

settled_stays : (before after : Progress) (events : List Event) → Settles before events after → StaysInEpoch before.machine after.machine
settled_stays before after events (Same k stands known same none is) = stays_same before.machine after.machine (machine_is before after is)
settled_stays before after events (Moves new next goes room none is) =
    stays_known before.machine after.machine new.known (served_anew new.known next) new.ready (ap (λ (p : Progress). p.machine.known) is)
    (On new.known.told.mail Still goes.next goes.advances)
settled_stays before after events (Spends new spent none is) = stays_nowhere before.machine after.machine (ap (λ (p : Progress). p.machine.known) is)
settled_stays before after events (Lacks stands none is) = stays_nowhere before.machine after.machine (ap (λ (p : Progress). p.machine.known) is)

does_stay : (call : SetCall) (items : List Item) (before after : Progress) (came : ItemsCame) (events : List Event) → DoesItemsOver call items before came events after
    → StaysInEpoch before.machine after.machine
does_stay call items before after came events d =
    stays_known before.machine after.machine d.known (record d.known { told = d.told }) d.ready (ap (λ (p : Progress). p.machine.known) d.after_is) Still

body_stays : {message : MessagePlace} {p q : Progress} {body : Option (List ℕ)} {events : List Event} → AsksBody message p body events q → StaysInEpoch p.machine q.machine
body_stays {p = p} {q = q} (fetching.IsKept octets kept body_is none is) =
    stays_known p.machine q.machine kept.known _ kept.ready (ap (λ (x : Progress). x.machine.known) is) Still
body_stays {p = p} {q = q} (fetching.IsTold octets asks body_is is) =
    stays_known p.machine q.machine asks.kept.known _ asks.kept.ready (ap (λ (x : Progress). x.machine.known) is) Still
body_stays {p = p} {q = q} (fetching.Ends e asks other body_is is) =
    stays_known p.machine q.machine asks.kept.known _ asks.kept.ready (ap (λ (x : Progress). x.machine.known) is) Still
body_stays {p = p} {q = q} (fetching.HasEnded kept ended body_is none is) = stays_same p.machine q.machine (machine_is p q is)

bodies_stay : {p q : Progress} {asks : List BodyAsk} {events : List Event} → AsksBodies p asks events q → StaysInEpoch p.machine q.machine
bodies_stay {p = p} fetching.NoBodies = stays_same p.machine p.machine refl
bodies_stay {p = p} {q = q} (fetching.MoreBodies {mid = mid} next bodies) = stays_both p.machine mid.machine q.machine (bodies_stay bodies) (body_stays next.asks)

lacking_stays : {message : MessagePlace} {p q : Progress} {events : List Event} → LacksBody message p events q → StaysInEpoch p.machine q.machine
lacking_stays {p = p} {q = q} (fetching.Unasked none is) = stays_nowhere p.machine q.machine (ap (λ (x : Progress). x.machine.known) is)
lacking_stays {p = p} {q = q} (fetching.Asked asks is) = stays_nowhere p.machine q.machine (ap (λ (x : Progress). x.machine.known) is)
lacking_stays {p = p} {q = q} (fetching.NotKept octets asks is) = stays_nowhere p.machine q.machine (ap (λ (x : Progress). x.machine.known) is)

asks_stay : (p : Progress) (tried : List BodyAsk) (events : List Event) (q : Progress) → CallsAsk p tried events q → StaysInEpoch p.machine q.machine
asks_stay p tried events q (fetching.AllAsked bodies) = bodies_stay bodies
asks_stay p tried events q (fetching.RunsShort short) =
    stays_both p.machine short.mid.machine q.machine (bodies_stay short.asked) (lacking_stays short.lacks)

course_stays : (call : SetCall) (items : List Item) (before after : Progress) (came : ItemsCame) (events : List Event) → DoesCourse call items before came events after
    → StaysInEpoch before.machine after.machine
course_stays call items before after came events =
    course_through (λ p es q. StaysInEpoch p.machine q.machine) (λ p. stays_same p.machine p.machine refl) (λ p now. stays_same p.machine p.machine refl) asks_stay Any
    (λ item done. tt) (λ e came fits. tt) (λ item made ends fits. tt) (λ call items p came events q fits d. does_stay call items p q came events d)
    (λ p q r es fs. stays_both p.machine q.machine r.machine) tt

pub changes_stay : (call : SetCall) (items : List Item) (before : Progress) (result : Result (List (Item × Done)) MethodError) (events : List Event) (after : Progress)
    → ChangesMail call items before result events after → StaysInEpoch before.machine after.machine
changes_stay call items before result events after (Committed came mid does goes settles stands is) =
    stays_both before.machine mid.machine after.machine (course_stays call items before mid came events does) (settled_stays mid after [] settles)
changes_stay call items before result events after (SpentBy came mid spent doing ending does goes settles why hangs whole is error) =
    stays_both before.machine mid.machine after.machine (course_stays call items before mid came doing does)
    (stays_both mid.machine spent.machine after.machine (settled_stays mid spent [] settles) (stays_same spent.machine after.machine (machine_is _ after is)))
changes_stay call items before result events after (FailedInPart mid doing ending does hangs whole is error) =
    stays_both before.machine mid.machine after.machine (course_stays call items before mid _ doing does) (stays_same mid.machine after.machine (machine_is _ after is))
