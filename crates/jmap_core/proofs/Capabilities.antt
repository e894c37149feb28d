-- What is noted of names is which capabilities stand among them.
use Rattle.std.proofs.Common.{◌≡◌, ◌⊎◌, inl, inr, ℕ, List, [], ◌∷◌, Bool, true, false, ◌||◌, if◌then◌else◌, Option, Some, None, refl, sym, ap, ◌∙◌, subst, length, nat_lt, Result}
use Rattle.std.proofs.Common.{Ok, Err, ◌<◌, ◌≤◌}
use Rattle.std.specs.List.{list_all}
use Rattle.std.specs.Str.{bytes_eq}
use Rattle.std.proofs.Math.Bool.{or-true, or-false}
use Rattle.octets.proofs.Steps.{is_or_not}
use Rattle.std.proofs.lemmas.Bool.{le-ltb, lt-ltb}
use Rattle.std.proofs.lemmas.Option.{none-some, same_Some}
use Rattle.jmap_arguments.specs.Arguments.{is_among}
use Rattle.jmap_core.specs.Request.{Form, RequestData, admitted, is_capability, core_capability, mail_capability, using_of}
use Rattle.jmap_core.specs.reading.Forms.{noted, known_capabilities}
use Rattle.jmap_arguments.specs.declared.using.Using.{Using}
use Rattle.jmap_core.specs.declared.request.LimitName.TheVariants.{MaxCallsInRequest}
use Rattle.jmap_core.specs.declared.request.RequestError.{RequestError}
use Rattle.jmap_core.specs.declared.request.RequestError.TheVariants.{UnknownCapability, Limit}

-- the capabilities that are used, with those of s
abbrev used_with : List (List ℕ) → Using → Option Using
used_with names s = if list_all is_capability names then Some
    (record { core = s.core || is_among core_capability names; mail = s.mail || is_among mail_capability names }) else None

abbrev UsesAll : List (List ℕ) → Type 0
UsesAll names = (s : Using) → noted s names ≡ used_with names s

uses-one : (n : List ℕ) (names : List (List ℕ)) → UsesAll names → (n ≡ core_capability) ⊎ (bytes_eq n core_capability ≡ false) → (n ≡ mail_capability)
    ⊎ (bytes_eq n mail_capability ≡ false) → UsesAll (n ∷ names)
uses-one n names rest (inl is) is_mail = let P : List ℕ → Type 0 = λ m. UsesAll (m ∷ names) in subst P (sym is) (λ s. rw (or-true s.core) (rest (record s { core = true })))
uses-one n names rest (inr no_core) (inl is) = let P : List ℕ → Type 0 = λ m. UsesAll (m ∷ names) in subst P (sym is) (λ s. rw (or-true s.mail) (rest (record s { mail = true })))
uses-one n names rest (inr no_core) (inr no_mail) = λ s. rw (no_core, no_mail) refl

noted-capabilities : (names : List (List ℕ)) → UsesAll names
noted-capabilities [] = λ s. rw (or-false s.core, or-false s.mail) refl
noted-capabilities (n ∷ names) = uses-one n names (noted-capabilities names) (is_or_not n _) (is_or_not n _)

-- what is noted of names is which capabilities stand among them, where all of them are capabilities
pub known-is : (names : List (List ℕ)) → known_capabilities names ≡ (if list_all is_capability names then Some (using_of names) else None)
known-is names = noted-capabilities names (record { core = false; mail = false })

-- ---- the checks of a form, by what is known of its capabilities

abbrev known_if : Form → Bool → Option Using
known_if form b = if b then Some (using_of form.uses) else None

abbrev admitted_if : Form → Bool → Result RequestData RequestError
admitted_if form b = if b then (if nat_lt 16 (length form.calls) then Err (Limit MaxCallsInRequest)
    else Ok (record { uses = using_of form.uses; calls = form.calls; created = form.created })) else Err UnknownCapability

unknown_if : (form : Form) (b : Bool) → known_if form b ≡ None → admitted_if form b ≡ Err UnknownCapability
unknown_if form true is = absurd (none-some _ (sym is))
unknown_if form false is = refl

many_if : (form : Form) (b : Bool) (u : Using) → known_if form b ≡ Some u → 16 < length form.calls → admitted_if form b ≡ Err (Limit MaxCallsInRequest)
many_if form true u is many = rw (lt-ltb 16 (length form.calls) many) refl
many_if form false u is many = absurd (none-some u is)

fit_if : (form : Form) (b : Bool) (u : Using) → known_if form b ≡ Some u → length form.calls ≤ 16
    → admitted_if form b ≡ Ok (record { uses = u; calls = form.calls; created = form.created })
fit_if form true u is fit = rw (le-ltb 16 (length form.calls) fit)
    (ap (λ (v : Using). let r : RequestData = record { uses = v; calls = form.calls; created = form.created } in let o : Result RequestData RequestError = Ok r in o)
    (same_Some _ _ is))
fit_if form false u is fit = absurd (none-some u is)

-- a form that names another capability is refused for that
pub admitted-unknown : (form : Form) → None ≡ known_capabilities form.uses → admitted form ≡ Err UnknownCapability
admitted-unknown form is = unknown_if form (list_all is_capability form.uses) (sym (is ∙ known-is form.uses))

-- a form that names no other capability, and has more than 16 calls, is refused for those
pub admitted-many : (form : Form) (u : Using) → Some u ≡ known_capabilities form.uses → 16 < length form.calls → admitted form ≡ Err (Limit MaxCallsInRequest)
admitted-many form u is many = many_if form (list_all is_capability form.uses) u (sym (is ∙ known-is form.uses)) many

-- a form that names no other capability, and has at most 16 calls, is a request
pub admitted-fit : (form : Form) (u : Using) → Some u ≡ known_capabilities form.uses → length form.calls ≤ 16
    → admitted form ≡ Ok (record { uses = u; calls = form.calls; created = form.created })
admitted-fit form u is fit = fit_if form (list_all is_capability form.uses) u (sym (is ∙ known-is form.uses)) fit
