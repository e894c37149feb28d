-- What is told of octets that can't be read.
use Rattle.std.proofs.Common.{Option, Some, None, Result, Err, IfErr, ◌≡◌, Bool, true, false, ℕ, List, drop, refl, sym, ◌∙◌, ap, subst, fold, if◌then◌else◌}
use Rattle.std.proofs.Math.Seq.{drop-append_seam}
use Rattle.std.specs.declared.alloc.AllocError.{AllocError}
use Rattle.std.specs.Option.{option_map}
use Rattle.imap_types.specs.declared.command.Command.{Command}
use Rattle.imap_types.specs.declared.command.Command.TheVariants as command
use Rattle.told_folder.specs.declared.exchange.Exchange.{Exchange}
use Rattle.imap_exchange.specs.declared.link_end.LinkEnd.{LinkEnd}
use Rattle.imap_exchange.specs.declared.link_end.LinkEnd.TheVariants as end
use Rattle.imap_client.specs.Connecting.{is_ok}
use Rattle.imap_client.specs.LinkLife.{selected_after}
use Rattle.imap_client.specs.Unread.{IsUnreadFrom, LeavesUnread}
use Rattle.imap_client.specs.declared.plan.Due.{Due}
use Rattle.store_causes.specs.declared.cause.Asked.{Asked}
use Rattle.store_causes.specs.declared.cause.StoreCause.{StoreCause}
use Rattle.store_causes.specs.declared.cause.StoreCause.TheVariants as cause
use Rattle.store_causes.specs.Beginnings.{beginning_after, beginning_told}
use Rattle.store_causes.specs.Causes.{asked_by, cause_after, cause_of_ok, unanswered, StopsBy, LastAnswer, NoAnswer, IsOutcome, AllDone, Stopped}
use Rattle.store_causes.specs.Checks.{CanWant}
use Rattle.store_causes.specs.reading.Following.{beginning_by, is_unreadable, GreetingFinds}

-- what stayed unread, by the cause, is told as what the store gave
abbrev pub ToldSo : List ℕ → Option StoreCause → List ℕ → List ℕ → Type 0
ToldSo password c gave unread = beginning_by password c unread ≡ beginning_told password c gave

from_there : (at : ℕ) (gave unread : List ℕ) → IsUnreadFrom at gave unread → unread ≡ drop at gave
from_there at gave unread (read, is, place) =
    sym (drop-append_seam read unread) ∙ (λ i. drop (place i) (sym is i))

-- where nothing is answered
pub told_by_end : (password : List ℕ) (a : Asked) (e : LinkEnd) (gave unread : List ℕ) → LeavesUnread e gave unread → ToldSo password (unanswered a e) gave unread
told_by_end password a (end.Bad at) gave unread leaves = ap (beginning_after a password) (from_there at gave unread leaves)
told_by_end password a end.Lost gave unread leaves = refl
told_by_end password a end.Stray gave unread leaves = refl
told_by_end password a end.Bye gave unread leaves = refl
told_by_end password a end.TooMuch gave unread leaves = refl
told_by_end password a end.Memory gave unread leaves = refl
told_by_end password a end.Refused gave unread leaves = refl
told_by_end password a end.NoQresync gave unread leaves = refl
told_by_end password a end.Lacks gave unread leaves = refl

-- an answer can be read
ok_told : (password : List ℕ) (b : Bool) (c : Command) (x : Exchange) (gave unread : List ℕ) → ToldSo password (Some (cause_of_ok b c x)) gave unread
ok_told password true command.Capability x gave unread = refl
ok_told password false command.Capability x gave unread = refl
ok_told password b command.Enable x gave unread = refl
ok_told password b (command.Select name known) x gave unread = refl
ok_told password b _ x gave unread = refl

answer_told : (password : List ℕ) (b : Bool) (x : Exchange) (gave unread : List ℕ) → ToldSo password (Some (cause_after b x)) gave unread
answer_told password b x gave unread =
    elim (is_ok x.status) as (λ t. ToldSo password (Some (if t then cause_of_ok b x.command x else cause.Refused (asked_by x.command x.selected))) gave unread) [
      | true ↦ ok_told password b x.command x gave unread
      | false ↦ refl
    ]

stop_told : {let_in : Bool} {selected : Option (List ℕ)} {xs : List Exchange} {now : Due} {e : LinkEnd} {c : StoreCause} (password gave unread : List ℕ)
    → StopsBy let_in selected xs now e c → LeavesUnread e gave unread → ToldSo password (Some c) gave unread
stop_told password gave unread (LastAnswer why before x is) leaves = answer_told password _ x gave unread
stop_told {selected = selected} {xs} password gave unread (NoAnswer command e b is) leaves =
    let a : Asked = asked_by command (fold selected_after selected xs) in
    subst (λ (c : Option StoreCause). ToldSo password c gave unread) (ap (option_map (cause.Unanswered a)) is) (told_by_end password a e gave unread leaves)

-- whatever stopped a plan, or where all is done
pub outcome_told : {let_in : Bool} {selected : Option (List ℕ)} {xs : List Exchange} {now : Due} {ended : Result (Unit {0}) LinkEnd} {c : Option StoreCause}
    (password gave unread : List ℕ) → IsOutcome let_in selected xs now ended c → IfErr ended (λ (e : LinkEnd). LeavesUnread e gave unread) → ToldSo password c gave unread
outcome_told password gave unread AllDone leaves = refl
outcome_told password gave unread (Stopped e c so) leaves = stop_told password gave unread so leaves

-- ---- a greeting

-- memory can run out for octets that can't be read
pub can_want : (a : Asked) (e : LinkEnd) → is_unreadable (unanswered a e) ≡ true → CanWant e
can_want a (end.Bad at) is = tt
can_want a end.Memory is = tt
can_want a end.Lost is = absurd (cc is)
can_want a end.Stray is = absurd (cc is)
can_want a end.Bye is = absurd (cc is)
can_want a end.TooMuch is = absurd (cc is)
can_want a end.Refused is = absurd (cc is)
can_want a end.NoQresync is = absurd (cc is)
can_want a end.Lacks is = absurd (cc is)

pub greeting_wants : (password : List ℕ) (found : Option StoreCause) (unread : List ℕ) (f : AllocError) → is_unreadable found ≡ true
    → GreetingFinds password found unread (Err f)
greeting_wants password (Some c) unread f is = is
greeting_wants password None unread f is = tt
