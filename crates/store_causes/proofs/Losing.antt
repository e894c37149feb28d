-- Causes by which the link was lost.
use Rattle.std.proofs.Common.{Option, Some, Result, Ok, Err, IfOk, ◌≡◌, ◌≤◌, Bool, true, false, ℕ, List, refl, sym, ◌∙◌, ap, subst, if◌then◌else◌, arith}
use Rattle.std.specs.declared.alloc.AllocError.{AllocError}
use Rattle.gate_world.specs.Causes.{Faults, LinkAlone, NoFault, Rose}
use Rattle.imap_types.specs.declared.command.Command.{Command}
use Rattle.imap_types.specs.declared.command.Command.TheVariants as command
use Rattle.told_folder.specs.declared.exchange.Exchange.{Exchange}
use Rattle.imap_exchange.specs.declared.link_end.LinkEnd.{LinkEnd}
use Rattle.imap_exchange.specs.declared.link_end.LinkEnd.TheVariants as end
use Rattle.imap_client.specs.Connecting.{is_ok}
use Rattle.imap_client.specs.declared.plan.Due.{Due}
use Rattle.imap_client.specs.declared.plan.Due.TheVariants as due
use Rattle.store_causes.specs.declared.cause.StoreCause.{StoreCause}
use Rattle.store_causes.specs.declared.cause.StoreCause.TheVariants as cause
use Rattle.store_causes.specs.declared.check.Checked.{Checked}
use Rattle.store_causes.specs.declared.notes.Notes.{Notes}
use Rattle.store_causes.specs.Causes.{asked_by, cause_after, cause_of_ok, loses_link}
use Rattle.store_causes.specs.reading.Noting.{cause_at, noted}
use Rattle.store_causes.specs.reading.Following.{GreetingFinds, unanswered_greeting}

-- no answer loses the link
ok_keeps : (b : Bool) (c : Command) (x : Exchange) → loses_link (Some (cause_of_ok b c x)) ≡ false
ok_keeps true command.Capability x = refl
ok_keeps false command.Capability x = refl
ok_keeps b command.Enable x = refl
ok_keeps b (command.Select name known) x = refl
ok_keeps b _ x = refl

answer_keeps : (b : Bool) (x : Exchange) → loses_link (Some (cause_after b x)) ≡ false
answer_keeps b x =
    elim (is_ok x.status) as (λ t. loses_link (Some (if t then cause_of_ok b x.command x else cause.Refused (asked_by x.command x.selected))) ≡ false) [
      | true ↦ ok_keeps b x.command x
      | false ↦ refl
    ]

pub noted_keeps : (n m : Notes) (x : Exchange) → m ≡ noted n x → loses_link m.cause ≡ false
noted_keeps n m x is = ap (λ (o : Notes). loses_link o.cause) is ∙ answer_keeps n.let_in x

pub same_keeps : (n m : Notes) → m ≡ n → loses_link n.cause ≡ false → loses_link m.cause ≡ false
same_keeps n m is keeps = ap (λ (o : Notes). loses_link o.cause) is ∙ keeps

never : (c : Option StoreCause) → loses_link c ≡ false → loses_link c ≡ true → (e : LinkEnd) → e ≡ end.Lost
never c keeps loses e = absurd (let both : false ≡ true = sym keeps ∙ loses in cc)

-- where what is noted loses no link, the cause does only where the link was lost
pub loses_lost : (n : Notes) (now : Due) (e : LinkEnd) → loses_link n.cause ≡ false → loses_link (cause_at n now e) ≡ true → e ≡ end.Lost
loses_lost n due.Done e keeps loses = never n.cause keeps loses e
loses_lost n (due.Fails why) e keeps loses = never n.cause keeps loses e
loses_lost n (due.Send c) end.Lost keeps loses = refl
loses_lost n (due.Send c) (end.Bad at) keeps loses = absurd (cc loses)
loses_lost n (due.Send c) end.Stray keeps loses = absurd (cc loses)
loses_lost n (due.Send c) end.Bye keeps loses = absurd (cc loses)
loses_lost n (due.Send c) end.TooMuch keeps loses = absurd (cc loses)
loses_lost n (due.Send c) end.Refused keeps loses = absurd (cc loses)
loses_lost n (due.Send c) end.NoQresync keeps loses = absurd (cc loses)
loses_lost n (due.Send c) end.Lacks keeps loses = absurd (cc loses)
loses_lost n (due.Send c) end.Memory keeps loses = absurd (cc loses)

-- the same of the cause that is taken out of the notes
pub taken_lost : (n : Notes) (now : Due) (e : LinkEnd) (taken : Option StoreCause) → loses_link n.cause ≡ false → taken ≡ cause_at n now e → loses_link taken ≡ true → e ≡ end.Lost
taken_lost n now e taken keeps is loses = loses_lost n now e keeps (sym (ap loses_link is) ∙ loses)

-- ---- what is found

-- the count rose if the link was lost
abbrev pub BlamesLink : Result Checked AllocError → Faults → Faults → Type 0
BlamesLink result was now = IfOk result (λ k. loses_link k.cause ≡ true → Rose was.link now.link)

rose_before : (was mid now : ℕ) → was ≤ mid → Rose mid now → Rose was now
rose_before was mid now before rose = omega (arith, before, rose)

pub lost_after : (r : Result Checked AllocError) (was mid now : Faults) → LinkAlone was mid → BlamesLink r mid now → BlamesLink r was now
lost_after (Ok k) was mid now alone so = λ loses. rose_before was.link mid.link now.link alone.link (so loses)
lost_after (Err f) was mid now alone so = tt

pub lost_before : (r : Result Checked AllocError) (was mid now : Faults) → NoFault mid now → BlamesLink r was mid → BlamesLink r was now
lost_before r was mid now same so = subst (λ (f : Faults). BlamesLink r was f) (sym same) so

-- the greeting is lost only where the link was
not_so : (k : Checked) (c : StoreCause) (R : Type 0) → loses_link (Some c) ≡ false → k.cause ≡ Some c → loses_link k.cause ≡ true → R
not_so k c R keeps is loses = absurd (let both : false ≡ true = sym keeps ∙ sym (ap loses_link is) ∙ loses in cc)

abbrev pub greeting_ended : LinkEnd → Result Bool LinkEnd
greeting_ended e = Err e

pub greeting_lost : (password : List ℕ) (e : LinkEnd) (unread : List ℕ) (r : Result Checked AllocError) (was now : Faults) → GreetingFinds password (unanswered_greeting e) unread r
    → (greeting_ended e ≡ greeting_ended end.Lost → Rose was.link now.link) → BlamesLink r was now
greeting_lost password e unread (Err f) was now finds lost = tt
greeting_lost password end.Lost unread (Ok k) was now finds lost = λ loses. lost refl
greeting_lost password (end.Bad at) unread (Ok k) was now finds lost = λ loses. not_so k _ (Rose was.link now.link) refl finds.cause_is loses
greeting_lost password end.Stray unread (Ok k) was now finds lost = λ loses. not_so k _ (Rose was.link now.link) refl finds.cause_is loses
greeting_lost password end.Bye unread (Ok k) was now finds lost = λ loses. not_so k _ (Rose was.link now.link) refl finds.cause_is loses
greeting_lost password end.TooMuch unread (Ok k) was now finds lost = λ loses. not_so k _ (Rose was.link now.link) refl finds.cause_is loses
greeting_lost password end.Refused unread (Ok k) was now finds lost = absurd finds
greeting_lost password end.NoQresync unread (Ok k) was now finds lost = absurd finds
greeting_lost password end.Lacks unread (Ok k) was now finds lost = absurd finds
greeting_lost password end.Memory unread (Ok k) was now finds lost = absurd finds
