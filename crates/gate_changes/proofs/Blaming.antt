-- Where a call that changes mail begins and ends, and what it blames.
use Rattle.std.proofs.Common.{arith, ◌≡◌, ◌≢◌, ◌∙◌, ◌+◌, ℕ, Bool, List, [], Option, None, Result, refl, sym, ap}
use Rattle.gate_world.specs.Causes.{Faults}
use Rattle.gate_world.specs.declared.event.Event.{Event}
use Rattle.email_bodies.specs.Asking.{BodyAsk}
use Rattle.email_bodies.specs.declared.source.MessagePlace.{MessagePlace}
use Rattle.jmap_arguments.specs.declared.method_error.MethodError.{MethodError}
use Rattle.gate_machine.specs.Beginning.{Settles, Same, Moves, Spends, Lacks}
use Rattle.gate_machine.specs.Fetching.{AsksBody, AsksBodies, CallsAsk, LacksBody}
use Rattle.gate_machine.specs.Fetching as fetching
use Rattle.gate_machine.specs.Progress.{Progress, blame_link}
use Rattle.gate_machine.specs.declared.mail_status.MailStatus.{MailStatus}
use Rattle.gate_machine.specs.declared.mail_status.MailStatus.TheVariants as standing
use Rattle.set_jobs.specs.declared.done.Done.{Done}
use Rattle.set_items.specs.declared.item.ItemEnd.{ItemEnd}
use Rattle.set_order.specs.Ordered.{Item}
use Rattle.set_calls.specs.Calls.{SetCall}
use Rattle.gate_changes.specs.Changing.{DoesCourse, ChangesMail, Committed, SpentBy, FailedInPart, LacksChange, InItems, InCommit}
use Rattle.gate_changes.specs.Items.{DoesItemsOver, ItemsCame}
use Rattle.gate_changes.specs.Importing.{DoesImports, TakesImport}
use Rattle.gate_changes.proofs.Through.{Any, course_begins, course_through, import_through, imports_through}

-- ---- blame

abbrev pub BlamesTheLink : Progress → Progress → Type 0
BlamesTheLink before after = (lost : ℕ) × (after.blamed ≡ blame_link lost before.blamed)

plus_none : (n : ℕ) → n ≡ n + 0
plus_none n = omega arith

plus_both : (a b c : ℕ) → (a + b) + c ≡ a + (b + c)
plus_both a b c = omega arith

none_blamed : (f : Faults) → f ≡ blame_link 0 f
none_blamed f = ap (λ (n : ℕ). let g : Faults = record f { link = n } in g) (plus_none f.link)

pub blames_none : (p q : Progress) → q.blamed ≡ p.blamed → BlamesTheLink p q
blames_none p q same = (0, same ∙ none_blamed p.blamed)

pub blames_both : (p q r : Progress) (es fs : List Event) → BlamesTheLink p q → BlamesTheLink q r → BlamesTheLink p r
blames_both p q r es fs one two = (
  one.0 + two.0,
  two.1 ∙ ap (blame_link two.0) one.1 ∙ ap (λ (n : ℕ). let g : Faults = record p.blamed { link = n } in g) (plus_both p.blamed.link one.0 two.0),
)

-- ---- bodies that are asked

body_blames : {message : MessagePlace} {p q : Progress} {body : Option (List ℕ)} {events : List Event} → AsksBody message p body events q → BlamesTheLink p q
body_blames {p = p} {q = q} (fetching.IsKept octets kept body_is none is) = blames_none p q (ap (λ (x : Progress). x.blamed) is)
body_blames (fetching.IsTold octets asks body_is is) = (_, ap (λ (x : Progress). x.blamed) is)
body_blames (fetching.Ends e asks other body_is is) = (_, ap (λ (x : Progress). x.blamed) is)
body_blames {p = p} {q = q} (fetching.HasEnded kept ended body_is none is) = blames_none p q (ap (λ (x : Progress). x.blamed) is)

bodies_blame : {p q : Progress} {asks : List BodyAsk} {events : List Event} → AsksBodies p asks events q → BlamesTheLink p q
bodies_blame {p = p} fetching.NoBodies = blames_none p p refl
bodies_blame {p = p} {q = q} (fetching.MoreBodies {mid = mid} next bodies) = blames_both p mid q [] [] (bodies_blame bodies) (body_blames next.asks)

lacking_blames : {message : MessagePlace} {p q : Progress} {events : List Event} → LacksBody message p events q → BlamesTheLink p q
lacking_blames {p = p} {q = q} (fetching.Unasked none is) = blames_none p q (ap (λ (x : Progress). x.blamed) is)
lacking_blames (fetching.Asked asks is) = (_, ap (λ (x : Progress). x.blamed) is)
lacking_blames (fetching.NotKept octets asks is) = (_, ap (λ (x : Progress). x.blamed) is)

asks_blame : (p : Progress) (tried : List BodyAsk) (events : List Event) (q : Progress) → CallsAsk p tried events q → BlamesTheLink p q
asks_blame p tried events q (fetching.AllAsked bodies) = bodies_blame bodies
asks_blame p tried events q (fetching.RunsShort short) = blames_both p short.mid q [] [] (bodies_blame short.asked) (lacking_blames short.lacks)

pub does_blame : {call : SetCall} {items : List Item} {before after : Progress} {came : ItemsCame} {events : List Event} → DoesItemsOver call items before came events after
    → BlamesTheLink before after
does_blame d = (d.now.lost, ap (λ (p : Progress). p.blamed) d.after_is)

pub import_blames : {call : SetCall} {uploads : List (List ℕ)} {item : Item} {p q : Progress} {tried : List BodyAsk} {ends : ItemEnd} {events : List Event}
    → TakesImport call uploads item p tried ends events q → BlamesTheLink p q
import_blames =
    import_through (λ p es q. BlamesTheLink p q) (λ p. blames_none p p refl) (λ p now. blames_none p p refl) asks_blame Any (λ item done. tt) (λ e came fits. tt)
    (λ item made ends fits. tt) (λ call items p came events q fits d. does_blame d) blames_both tt

pub imports_blame : {call : SetCall} {uploads : List (List ℕ)} {made : Bool} {items : List Item} {p q : Progress} {came : ItemsCame} {events : List Event}
    → DoesImports call uploads made p items came events q → BlamesTheLink p q
imports_blame =
    imports_through (λ p es q. BlamesTheLink p q) (λ p. blames_none p p refl) (λ p now. blames_none p p refl) asks_blame Any (λ item done. tt) (λ e came fits. tt)
    (λ item made ends fits. tt) (λ call items p came events q fits d. does_blame d) blames_both tt

-- what stands blamed after more steps
blames_as : (before p after : Progress) → after.blamed ≡ p.blamed → BlamesTheLink before p → BlamesTheLink before after
blames_as before p after same blames = (blames.0, same ∙ blames.1)

pub course_blame : {call : SetCall} {items : List Item} {before after : Progress} {came : ItemsCame} {events : List Event} → DoesCourse call items before came events after
    → BlamesTheLink before after
course_blame =
    course_through (λ p es q. BlamesTheLink p q) (λ p. blames_none p p refl) (λ p now. blames_none p p refl) asks_blame Any (λ item done. tt) (λ e came fits. tt)
    (λ item made ends fits. tt) (λ call items p came events q fits d. does_blame d) blames_both tt

pub settled_blame : {before after : Progress} {events : List Event} → Settles before events after → after.blamed ≡ before.blamed
settled_blame (Same k stands known same none is) = ap (λ (p : Progress). p.blamed) is
settled_blame (Moves new next goes room none is) = ap (λ (p : Progress). p.blamed) is
settled_blame (Spends new spent none is) = ap (λ (p : Progress). p.blamed) is
settled_blame (Lacks stands none is) = ap (λ (p : Progress). p.blamed) is

pub changes_blame : (call : SetCall) (items : List Item) (before : Progress) (result : Result (List (Item × Done)) MethodError) (events : List Event) (after : Progress)
    → ChangesMail call items before result events after → BlamesTheLink before after
changes_blame call items before result events after (Committed came mid does goes settles stands is) =
    blames_as before mid after (settled_blame settles) (course_blame does)
changes_blame call items before result events after (SpentBy came mid spent doing ending does goes settles why hangs whole is error) =
    blames_as before mid after (ap (λ (p : Progress). p.blamed) is ∙ settled_blame settles) (course_blame does)
changes_blame call items before result events after (FailedInPart mid doing ending does hangs whole is error) =
    blames_as before mid after (ap (λ (p : Progress). p.blamed) is) (course_blame does)

pub lacks_blame : (call : SetCall) (items : List Item) (before : Progress) (events : List Event) (after : Progress) → LacksChange call items before events after
    → BlamesTheLink before after
lacks_blame call items before events after (InItems mid does is) = blames_as before mid after (ap (λ (p : Progress). p.blamed) is) (course_blame does)
lacks_blame call items before events after (InCommit came mid does goes settles why) = blames_as before mid after (settled_blame settles) (course_blame does)

-- ---- where it begins, and where it doesn't end

pub changes_begin : (call : SetCall) (items : List Item) (before : Progress) (result : Result (List (Item × Done)) MethodError) (events : List Event) (after : Progress)
    → ChangesMail call items before result events after → before.standing ≡ standing.Stands
changes_begin call items before result events after (Committed came mid does goes settles stands is) = course_begins does
changes_begin call items before result events after (SpentBy came mid spent doing ending does goes settles why hangs whole is error) = course_begins does
changes_begin call items before result events after (FailedInPart mid doing ending does hangs whole is error) = course_begins does

not_both : (s t : MailStatus) (p : Progress) → p.standing ≡ s → p.standing ≡ t → s ≡ t
not_both s t p one two = sym one ∙ two

pub changes_end : (call : SetCall) (items : List Item) (before : Progress) (result : Result (List (Item × Done)) MethodError) (events : List Event) (after : Progress)
    → ChangesMail call items before result events after → after.standing ≢ standing.OutOfMemory
changes_end call items before result events after (Committed came mid does goes settles stands is) out =
    absurd (cc (not_both standing.Stands standing.OutOfMemory after stands out))
changes_end call items before result events after (SpentBy came mid spent doing ending does goes settles why hangs whole is error) out =
    absurd (cc (sym (ap (λ (p : Progress). p.standing) is) ∙ out))
changes_end call items before result events after (FailedInPart mid doing ending does hangs whole is error) out =
    absurd (cc (sym (ap (λ (p : Progress). p.standing) is) ∙ out))

pub lacks_begin : (call : SetCall) (items : List Item) (before : Progress) (events : List Event) (after : Progress) → LacksChange call items before events after
    → before.standing ≡ standing.Stands
lacks_begin call items before events after (InItems mid does is) = course_begins does
lacks_begin call items before events after (InCommit came mid does goes settles why) = course_begins does

pub lacks_end : (call : SetCall) (items : List Item) (before : Progress) (events : List Event) (after : Progress) → LacksChange call items before events after
    → after.standing ≡ standing.OutOfMemory
lacks_end call items before events after (InItems mid does is) = ap (λ (p : Progress). p.standing) is
lacks_end call items before events after (InCommit came mid does goes settles why) = why

settled_out : {before after : Progress} {events : List Event} → Settles before events after → after.standing ≡ standing.OutOfMemory → after.machine.known ≡ None
settled_out (Same k stands known same none is) out = absurd (cc (sym (ap (λ (p : Progress). p.standing) is ∙ stands) ∙ out))
settled_out (Moves new next goes room none is) out = absurd (cc (sym (ap (λ (p : Progress). p.standing) is ∙ new.stands) ∙ out))
settled_out (Spends new spent none is) out = absurd (cc (sym (ap (λ (p : Progress). p.standing) is) ∙ out))
settled_out (Lacks stands none is) out = ap (λ (p : Progress). p.machine.known) is

pub lacks_forget : (call : SetCall) (items : List Item) (before : Progress) (events : List Event) (after : Progress) → LacksChange call items before events after
    → after.machine.known ≡ None
lacks_forget call items before events after (InItems mid does is) = ap (λ (p : Progress). p.machine.known) is
lacks_forget call items before events after (InCommit came mid does goes settles why) = settled_out settles why
