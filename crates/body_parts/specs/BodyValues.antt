-- The values of the texts of a message (RFC 8621 section 4.1.4, bodyValues), by part ids.
use Rattle.std.specs.Prelude.{◌≡◌, ℕ, Bool, ◌&&◌, ◌||◌, ◌==◌, List, codes, decimal}
use Rattle.std.specs.List.{filter, list_any}
use Rattle.serde_json.specs.Data.{Data, boolean, object, Members, no_members, member, put}
use Rattle.email_properties.specs.Wanted.{BodyAsked}
use Rattle.mime_tree.specs.declared.lists.BodyLists.{BodyLists}
use Rattle.mime_tree.specs.declared.part.Part.{Part}
use Rattle.mime_tree.specs.Heads.{is_text}
use Rattle.mime_tree.specs.Roles.{is_html, leaf_number, media}
use Rattle.json_texts.specs.Texts.{text_data}
use Rattle.body_parts.specs.Cuts.{IsBounded}
use Rattle.body_parts.specs.Steps.{InTurn}
use Rattle.body_parts.specs.Texts.{HasText}

-- an EmailBodyValue
abbrev pub value_data : List ℕ → Bool → Bool → Data
value_data text problem truncated =
    object
    (member (codes "isEncodingProblem") (boolean problem)
    (member (codes "isTruncated") (boolean truncated)
    (member (codes "value") (text_data text)
    no_members)))

-- an EmailBodyValue of at most this many octets of a text, which is HTML or not
pub record IsValueData (html : Bool) (most : ℕ) (text : List ℕ) (problem : Bool) (d : Data) : Type 0 where
  pub front : List ℕ
  pub truncated : Bool
  pub is_bounded : IsBounded html most text front truncated
  pub is : d ≡ value_data front problem truncated

-- the value of a leaf of the octets b is put at its part id
pub record PutsValue (most : ℕ) (b : List ℕ) (p : Part) (before after : Members) : Type 0 where
  pub text : List ℕ
  pub problem : Bool
  pub has_text : HasText p b text problem
  pub value : Data
  pub is_value : IsValueData (is_html p) most text problem value
  pub is : after ≡ put (decimal (leaf_number p)) value before

-- ---- the values that are asked

abbrev pub is_listed : List ℕ → ℕ → Bool
is_listed numbers n = list_any (λ (m : ℕ). m == n) numbers

-- the values of all texts are fetched, or those of the leaves of textBody, or of htmlBody
abbrev pub is_fetched : BodyAsked → BodyLists → Part → Bool
is_fetched asked lists p =
    asked.all_values || (asked.text_values && is_listed lists.text (leaf_number p) || asked.html_values && is_listed lists.html (leaf_number p))

-- a leaf has a value where it is a text that is fetched
abbrev pub has_value : BodyAsked → BodyLists → Part → Bool
has_value asked lists p = is_text (media p) && is_fetched asked lists p

-- the values of these leaves of the octets b
abbrev pub AreValues : BodyAsked → BodyLists → List ℕ → List Part → Members → Type 0
AreValues asked lists b leaves values = InTurn (PutsValue asked.max_octets b) (filter (has_value asked lists) leaves) no_members values
