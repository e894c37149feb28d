-- What a call gave, and what is meant by the bodies that were asked.
use Rattle.std.proofs.Common.{◌≡◌, ◌≢◌, ◌⊎◌, ℕ, List, [], refl, sym, ap, inl, inr, Option, Result, Ok, Err, subst}
use Rattle.serde_json.specs.declared.value.Value.{Value}
use Rattle.serde_json.specs.Data.{Data}
use Rattle.serde_json.specs.View.{view}
use Rattle.email_bodies.specs.Asking.{NoneAsked}
use Rattle.email_bodies.specs.declared.source.MessagePlace.{MessagePlace}
use Rattle.email_bodies.proofs.Joins.{vain_at_once}
use Rattle.email_get.specs.Asked.{AsksAndMeets, FailsAfter}
use Rattle.jmap_arguments.specs.Outcome.{Agrees, IsJust, Meets}
use Rattle.jmap_arguments.specs.declared.method_error.MethodError.{MethodError}
use Rattle.jmap_arguments.specs.declared.method_error.MethodError.TheVariants.{Memory}
use Rattle.jmap_arguments.specs.declared.method_error.MethodError.TheVariants as error
use Rattle.gate_calls.specs.declared.method.Method.{Method}
use Rattle.gate_calls.specs.Mailings.{MailAndUploads}
use Rattle.gate_calls.specs.Methods.{AtOnce, RepliesTo, unless_refused}

-- ---- results

-- where one result is meant
pub agrees_meets : (due : Result Data MethodError) (result : Result Value MethodError) → Agrees Memory view result due → Meets Memory view result (λ r. r ≡ due)
agrees_meets due (Ok value) is = sym is
agrees_meets due (Err e) (inl out) = inl out
agrees_meets due (Err e) (inr is) = inr (sym is)

-- so does one that is just what is due
pub just_meets : (due : Result Data MethodError) (result : Result Value MethodError) → IsJust view result due → Meets Memory view result (λ r. r ≡ due)
just_meets due (Ok value) is = sym is
just_meets due (Err e) is = inr (sym is)

-- what is meant may be more
pub meant_more : (P Q : Result Data MethodError → Type 0) (result : Result Value MethodError) → ((r : Result Data MethodError) → P r → Q r) → Meets Memory view result P
    → Meets Memory view result Q
meant_more P Q (Ok value) so meets = so (Ok (view value)) meets
meant_more P Q (Err e) so (inl out) = inl out
meant_more P Q (Err e) so (inr meets) = inr (so (Err e) meets)

-- a refusal that is the one that is due agrees with it
pub is_refusal : (due refused : Result (Unit {0}) MethodError) → refused ≡ due → Agrees Memory (λ u. u) refused due
is_refusal due (Ok u) is = sym is
is_refusal due (Err e) is = inr (sym is)

-- the error, where the arguments aren't refused
pub not_refused : (due : Result (Unit {0}) MethodError) (u : Unit {0}) (e : MethodError) → Agrees Memory (λ (x : Unit {0}). x) (Ok u) due
    → Meets Memory view (Err e) (λ r. r ≡ unless_refused due e)
not_refused due u e is = inr (sym (ap (λ (r : Result (Unit {0}) MethodError). unless_refused r e) is))

-- the refusal
pub is_refused : (due : Result (Unit {0}) MethodError) (e refusal : MethodError) → Agrees Memory (λ (x : Unit {0}). x) (Err refusal) due
    → Meets Memory view (Err refusal) (λ r. r ≡ unless_refused due e)
is_refused due e refusal (inl out) = inl out
is_refused due e refusal (inr is) = inr (sym (ap (λ (r : Result (Unit {0}) MethodError). unless_refused r e) is))

-- a reply without mail, of the method that was asked
pub without : (m asked : Method) (over : MailAndUploads) (d : Data) (result : Result Value MethodError) → asked ≡ m
    → Meets Memory view result (λ r. RepliesTo m over d [] r)
    → Meets Memory view result (λ r. RepliesTo asked over d [] r)
without m asked over d result is meets = subst (λ (k : Method). Meets Memory view result (λ r. RepliesTo k over d [] r)) (sym is) meets

-- one for which no body is asked
pub once : (P : Result Data MethodError → Type 0) (result : Result Value MethodError) → Meets Memory view result P → Meets Memory view result (AtOnce P [])
once P result meets = meant_more P (AtOnce P []) result (λ r is. (refl, is)) meets

pub is_memory : (e : MethodError) → (e ≡ Memory) ⊎ (e ≢ Memory)
is_memory error.Memory = inl refl
is_memory error.ServerUnavailable = inr (λ is. cc)
is_memory error.ServerFail = inr (λ is. cc)
is_memory error.ServerPartialFail = inr (λ is. cc)
is_memory error.UnknownMethod = inr (λ is. cc)
is_memory error.InvalidArguments = inr (λ is. cc)
is_memory error.InvalidResultReference = inr (λ is. cc)
is_memory error.AccountNotFound = inr (λ is. cc)
is_memory error.RequestTooLarge = inr (λ is. cc)
is_memory error.StateMismatch = inr (λ is. cc)
is_memory error.CannotCalculateChanges = inr (λ is. cc)
is_memory error.AnchorNotFound = inr (λ is. cc)
is_memory error.UnsupportedFilter = inr (λ is. cc)
is_memory error.UnsupportedSort = inr (λ is. cc)
is_memory error.TooManyChanges = inr (λ is. cc)

known_meant : (e : MethodError) (P : Type 0) → e ≢ Memory → (e ≡ Memory) ⊎ P → P
known_meant e P other (inl out) = absurd (other out)
known_meant e P other (inr meant) = meant

-- ---- calls that may ask bodies

module _ {S : Type 0} (Answers : S → MessagePlace → Option (List ℕ) → S → Type 0) (Lacks : S → MessagePlace → S → Type 0) where
  -- where no body is asked
  pub at_once : {I : Type 0} {J : I → Type 0} (P : I → Result Data MethodError → Type 0) (s : S) (result : Result Value MethodError)
      → ((i : I) → J i → Meets Memory view result (P i))
      → AsksAndMeets Answers Lacks s s Memory view result (λ asks r. (i : I) → J i → AtOnce (P i) asks r)
  at_once P s (Ok value) meets = record { asks = []; asked = NoneAsked; meant = λ i j. (refl, meets i j) }
  at_once {I} {J} P s (Err e) meets = elim (is_memory e) [
    | inl lacks ↦ inl (lacks, vain_at_once Answers Lacks (FailsAfter (λ asks (r : Result Data MethodError). (i : I) → J i → AtOnce (P i) asks r)) s)
    | inr other ↦ inr (record { asks = []; asked = NoneAsked; meant = λ i j. (refl, known_meant e (P i (Err e)) other (meets i j)) })
  ]

  -- a reply of the method that was asked
  pub replies_by : {I : Type 0} (J : I → Type 0) (m asked : Method) (over : I → MailAndUploads) (d : Data) (before after : S) (result : Result Value MethodError)
      → asked ≡ m
      → AsksAndMeets Answers Lacks before after Memory view result (λ asks r. (i : I) → J i → RepliesTo m (over i) d asks r)
      → AsksAndMeets Answers Lacks before after Memory view result (λ asks r. (i : I) → J i → RepliesTo asked (over i) d asks r)
  replies_by {I} J m asked over d before after result is gives =
      subst (λ (k : Method). AsksAndMeets Answers Lacks before after Memory view result (λ asks r. (i : I) → J i → RepliesTo k (over i) d asks r)) (sym is) gives
