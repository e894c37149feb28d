-- Exchanges that tell what they told before, and exchanges that tell nothing.
use Rattle.std.proofs.Common.{◌≡◌, ℕ, true, false, List, Option, Some, None, refl, sym, ◌∙◌, ap, if◌then◌else◌}
use Rattle.imap_types.specs.declared.code.Code.{Code}
use Rattle.imap_types.specs.declared.command.Command.{Command}
use Rattle.imap_types.specs.declared.command.Command.TheVariants as command
use Rattle.imap_types.specs.declared.response.Response.{Response}
use Rattle.imap_types.specs.declared.response.Status.{Status}
use Rattle.imap_types.specs.declared.response.Status.TheVariants as status
use Rattle.told_folder.specs.declared.exchange.Exchange.{Exchange}
use Rattle.told_folder.proofs.KeyedLemmas.{some_is_not_none}
use Rattle.told_mail.specs.Exchanges.{tell, tell_as, tell_ok}
use Rattle.told_mail.specs.Mail.{Mail}
use Rattle.told_changes.specs.declared.landing.Landing.{Landing}
use Rattle.told_changes.specs.Landings.{landing, landing_in, contradiction, contradiction_as, contradiction_at, is_contradicted, target_of, told_landing, told_landing_as, unless_contradicted}
use Rattle.told_changes.specs.Changes.{changed_by, landed}
use Rattle.told_changes.specs.Told.{told, told_as, told_landed, told_then, landed_by, is_changing}

-- ---- commands that read

none_landed : (m : Mail) (c : Command) (rs : List Response) (code : Code) → is_changing c ≡ false → landing_in m.next_mark c rs code (target_of m c) ≡ None
none_landed m (command.Move uid name) rs code is = absurd (cc)
none_landed m (command.Append name flags date message) rs code is = absurd (cc)
none_landed m _ rs code is = refl

pub none_changed : (m : Mail) (c : Command) (rs : List Response) (selected : Option (List ℕ)) → is_changing c ≡ false → changed_by m c rs selected ≡ m
none_changed m (command.Store uid add flags) rs selected is = absurd (cc)
none_changed m (command.Rename from to) rs selected is = absurd (cc)
none_changed m (command.Delete name) rs selected is = absurd (cc)
none_changed m (command.Subscribe name on) rs selected is = absurd (cc)
none_changed m _ rs selected is = refl

pub reading_same : (m : Mail) (x : Exchange) → is_changing x.command ≡ false → told m x ≡ tell m x
reading_same m x is = by x.status
  where
    by : (s : Status) → told_as s m x ≡ tell_as s m x
    by status.Ok =
        ap (told_landed m x) (none_landed m x.command x.responses x.code is)
        ∙ none_changed (tell_ok m x.command x.responses x.selected) x.command x.responses x.selected is
    by _ = refl

-- ---- contradictions

contradicted_at : (m : Mail) (x : Exchange) (o : Option Landing) (l : Landing) → contradiction_at m x.command o ≡ Some l → told_landed m x o ≡ m
contradicted_at m x None l e = absurd (cc)
contradicted_at m x (Some k) l e =
    elim (is_contradicted m (target_of m x.command) k) as (λ b. (if b then Some k else None) ≡ Some l → (if b then m else told_then (landed m x.command x.selected k) x) ≡ m) [
      | true ↦ λ f. refl
      | false ↦ λ f. absurd (cc)
    ] e

pub contradicted_none : (m : Mail) (x : Exchange) (l : Landing) → contradiction m x ≡ Some l → told m x ≡ m
contradicted_none m x l e = by x.status e
  where
    by : (s : Status) → contradiction_as s m x ≡ Some l → told_as s m x ≡ m
    by status.Ok f = contradicted_at m x (landing m x) l f
    by _ f = refl

-- ---- what goes into a mirror, step by step

parts_at : (m : Mail) (x : Exchange) (o : Option Landing) → contradiction_at m x.command o ≡ None
    → told_landed m x o ≡ told_then (landed_by m x (unless_contradicted m x.command o)) x
parts_at m x None e = refl
parts_at m x (Some l) e =
    elim (is_contradicted m (target_of m x.command) l) as (λ b. (if b then Some l else None) ≡ None
    → (if b then m else told_then (landed m x.command x.selected l) x) ≡ told_then (landed_by m x (if b then None else Some l)) x) [
      | true ↦ λ f. absurd (some_is_not_none l f)
      | false ↦ λ f. refl
    ] e

-- an exchange that is OK and contradicts nothing tells where its message went, and then the rest
pub told_parts : (m : Mail) (x : Exchange) → x.status ≡ status.Ok → contradiction m x ≡ None → told m x ≡ told_then (landed_by m x (told_landing m x)) x
told_parts m x ok none =
    ap (λ s. told_as s m x) ok
    ∙ (parts_at m x (landing m x) (sym (ap (λ s. contradiction_as s m x) ok) ∙ none)
    ∙ ap (λ o. told_then (landed_by m x o) x) (sym (ap (λ s. told_landing_as s m x) ok)))

-- a command that reads puts no message anywhere
pub none_told : (m : Mail) (x : Exchange) → is_changing x.command ≡ false → told_landing m x ≡ None
none_told m x is = by x.status
  where
    by : (s : Status) → told_landing_as s m x ≡ None
    by status.Ok = ap (unless_contradicted m x.command) (none_landed m x.command x.responses x.code is)
    by _ = refl

-- what goes into a mirror in three steps is what the exchange tells
pub told_whole : (m a b k : Mail) (x : Exchange) → x.status ≡ status.Ok → contradiction m x ≡ None → a ≡ landed_by m x (told_landing m x) → b ≡ tell a x
    → k ≡ changed_by b x.command x.responses x.selected → k ≡ told m x
told_whole m a b k x ok none one two three =
    let responses : b ≡ tell_ok (landed_by m x (told_landing m x)) x.command x.responses x.selected =
    two ∙ (ap (λ s. tell_as s a x) ok ∙ ap (λ (z : Mail). tell_ok z x.command x.responses x.selected) one) in
    three ∙ (ap (λ (z : Mail). changed_by z x.command x.responses x.selected) responses ∙ sym (told_parts m x ok none))

-- an exchange without OK tells nothing
pub told_other : (m : Mail) (x : Exchange) → (x.status ≡ status.Ok → ⊥) → told m x ≡ m
told_other m x other = by x.status refl
  where
    by : (s : Status) → x.status ≡ s → told_as s m x ≡ m
    by status.Ok e = absurd (other e)
    by _ e = refl
