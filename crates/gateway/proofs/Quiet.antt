-- Which octets the events of each part of a run have.
use Rattle.std.proofs.Common.{◌≡◌, ◌++◌, ℕ, List, [], ◌∷◌, refl, ◌∙◌, ap, inl, inr, All, Result, Ok, Err}
use Rattle.std.specs.List.{flat_map}
use Rattle.std.proofs.lemmas.List.{append-nil}
use Rattle.std.proofs.lemmas.List.Concat.{flat_map-append}
use Rattle.std.proofs.lemmas.List.Elements.{All-head, All-tail}
use Rattle.gate_world.specs.declared.event.Event.{Event}
use Rattle.gate_world.specs.declared.event.Event.TheVariants.{ClientGave, ClientEnded, ClientTook, FrontFailed}
use Rattle.gate_serving.specs.declared.front.FrontError.{FrontError}
use Rattle.gate_serving.specs.declared.front.FrontError.TheVariants as error
use Rattle.gate_serving.specs.declared.front.Input.{Input}
use Rattle.gate_serving.specs.declared.front.Input.TheVariants.{Whole, Cut}
use Rattle.gate_serving.specs.Front.{input_octets, GivesInput}
use Rattle.gate_world.specs.Octets.{client_gave_in, client_took_in, IsClientGave, IsClientTook}

-- events that all have no octets of a kind
quiet : (f : Event → List ℕ) (P : Event → Type 0) → ((e : Event) → P e → f e ≡ []) → (es : List Event) → All P es → flat_map f es ≡ []
quiet f P each [] all = refl
quiet f P each (e ∷ es) all = (λ i. each e (All-head P e es all) i ++ quiet f P each es (All-tail P e es all) i)

asks_client_took : (e : Event) → IsClientGave e → client_took_in e ≡ []
asks_client_took (ClientGave octets) here = refl
asks_client_took _ never = absurd never

-- events by which the client gives octets have none that the client takes
pub asks_took_client : (es : List Event) → All IsClientGave es → flat_map client_took_in es ≡ []
asks_took_client = quiet client_took_in IsClientGave asks_client_took

-- a list before one event that has none
pub before_one : (f : Event → List ℕ) (es : List Event) (e : Event) → f e ≡ [] → flat_map f (es ++ e ∷ []) ≡ flat_map f es
before_one f es e none = flat_map-append f es (e ∷ []) ∙ ap (λ (l : List ℕ). flat_map f es ++ l) (ap (λ (l : List ℕ). l ++ []) none) ∙ append-nil (flat_map f es)

-- what a client's input has of each kind of octets
pub gives_took : (most : ℕ) (r : Result Input FrontError) (es : List Event) → GivesInput most r es → flat_map client_took_in es ≡ []
gives_took most (Ok (Whole octets)) es (asks, is, so, few) = ap (λ (l : List Event). flat_map client_took_in l) is ∙ before_one client_took_in asks ClientEnded refl
    ∙ asks_took_client asks so.kind
gives_took most (Ok (Cut octets)) es (so, many) = asks_took_client es so.kind
gives_took most (Err error.Failed) es (asks, gave, is, so, few) = ap (λ (l : List Event). flat_map client_took_in l) is ∙ before_one client_took_in asks FrontFailed refl
    ∙ asks_took_client asks so.kind
gives_took most (Err error.Memory) es (asks, gave, so, few, inl is) = ap (λ (l : List Event). flat_map client_took_in l) is ∙ asks_took_client asks so.kind
gives_took most (Err error.Memory) es (asks, gave, so, few, inr (is, short)) = ap (λ (l : List Event). flat_map client_took_in l) is
    ∙ before_one client_took_in asks ClientEnded refl ∙ asks_took_client asks so.kind

-- the octets that the client gives as its input are the input's
pub gives_gave : (most : ℕ) (input : Input) (es : List Event) → GivesInput most (Ok input) es → flat_map client_gave_in es ≡ input_octets input
gives_gave most (Whole octets) es (asks, is, so, few) = ap (λ (l : List Event). flat_map client_gave_in l) is ∙ before_one client_gave_in asks ClientEnded refl ∙ so.gave_is
gives_gave most (Cut octets) es (so, many) = so.gave_is
