-- Bodies as JSON, and lists that aren't triples.
use Rattle.std.proofs.Common.{◌≡◌, ℕ, List, [], ◌∷◌, length, Bool, true, false, if◌then◌else◌, Option, Some, None, Ok, Err, refl, ap, ◌∙◌}
use Rattle.std.specs.Option.{ok_or}
use Rattle.std.specs.Str.{IsUtf8, is_utf8}
use Rattle.std.proofs.lemmas.Str.{IsUtf8-from_is_utf8, is_utf8-from_IsUtf8}
use Rattle.serde_json.specs.Data.{Data}
use Rattle.serde_json.specs.Read.{read}
use Rattle.serde_json.specs.View.{items_view}
use Rattle.serde_json.specs.declared.value.Value.{Value}
use Rattle.jmap_core.specs.Request.{json_in, call_of_items}
use Rattle.jmap_core.specs.declared.request.RequestError.TheVariants.{NotJson}

-- a body that is UTF-8 and reads as a value is JSON, and is that value
pub is_json : (body : List ℕ) (d : Data) → IsUtf8 body → read body ≡ Some d → ok_or (json_in body) NotJson ≡ Ok d
is_json body d utf8 reads = ap (λ (t : Bool). ok_or (if t then read body else None) NotJson) (is_utf8-from_IsUtf8 body utf8) ∙ ap (λ (o : Option Data). ok_or o NotJson) reads

no_json-by : (body : List ℕ) (t : Bool) → (t ≡ true → read body ≡ None) → ok_or (if t then read body else None) NotJson ≡ Err NotJson
no_json-by body true none = ap (λ (o : Option Data). ok_or o NotJson) (none refl)
no_json-by body false none = refl

-- a body that isn't UTF-8, or reads as no value, is no JSON
pub no_json : (body : List ℕ) → (IsUtf8 body → read body ≡ None) → ok_or (json_in body) NotJson ≡ Err NotJson
no_json body none = no_json-by body (is_utf8 body) (λ is. none (IsUtf8-from_is_utf8 body is))

-- values that aren't three are no call
pub no_triple : (vs : List Value) → (length vs ≡ 3 → ⊥) → call_of_items (items_view vs) ≡ None
no_triple [] other = refl
no_triple (a ∷ []) other = refl
no_triple (a ∷ b ∷ []) other = refl
no_triple (a ∷ b ∷ c ∷ []) other = absurd (other refl)
no_triple (a ∷ b ∷ c ∷ d ∷ vs) other = refl
