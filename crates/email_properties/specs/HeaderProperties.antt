-- Properties that header fields give (RFC 8621 section 4.1.3): their grammar, and the same as a function of the text.
use Rattle.std.specs.Prelude.{◌≡◌, ℕ, Bool, true, false, not, ◌&&◌, ◌==◌, if◌then◌else◌, Option, Some, None}
use Rattle.std.specs.Prelude.{List, [], ◌∷◌, ◌++◌, length, take, drop, bytes_eq, codes}
use Rattle.text_words.specs.Cuts.{IsRun, front, back}
use Rattle.text_words.specs.Octets.{is_between}
use Rattle.email_properties.specs.HeaderAsked.{HeaderAsked}
use Rattle.email_properties.specs.HeaderForms.{form_suffix, AsksForm, is_permitted}
use Rattle.email_properties.specs.declared.header_form.HeaderForm.{HeaderForm}
use Rattle.email_properties.specs.declared.header_form.HeaderForm.TheVariants.{Raw, Text, Addresses, GroupedAddresses, MessageIds, Date, Urls}

-- ---- the grammar

-- an octet of a field's name: 33 to 126 but ":"
abbrev pub is_name_octet : ℕ → Bool
is_name_octet c = is_between 33 126 c && not (c == 58)

abbrev pub all_suffix : Bool → List ℕ
all_suffix true = codes ":all"
all_suffix false = []

-- `header:`, the field's name, a form's suffix or none, and `:all` or none; the field takes the form
pub record IsHeaderProperty (h : HeaderAsked) (key : List ℕ) : Type 0 where
  pub suffix : List ℕ
  pub key_is : h.key ≡ key
  pub whole : key ≡ codes "header:" ++ (h.name ++ (suffix ++ all_suffix h.all))
  pub is_named : IsRun is_name_octet h.name
  pub asks_form : AsksForm h.form suffix
  pub takes_form : is_permitted h.name h.form ≡ true

-- ---- the same as a function: what stands after the longest name decides

-- the form that is asked, and whether all fields of the name are
abbrev pub Asked : Type 0
Asked = HeaderForm × Bool

abbrev pub ending : List ℕ → HeaderForm → Bool → List ℕ × HeaderForm × Bool
ending suffix form all = (suffix ++ all_suffix all, form, all)

abbrev pub suffixed : HeaderForm → Bool → List ℕ × HeaderForm × Bool
suffixed form all = ending (form_suffix form) form all

-- what may stand after the name, and what it asks
abbrev pub endings : List (List ℕ × HeaderForm × Bool)
endings =
    ending [] Raw false ∷ suffixed Raw false ∷ suffixed Text false ∷ suffixed Addresses false
    ∷ suffixed GroupedAddresses false ∷ suffixed MessageIds false ∷ suffixed Date false ∷ suffixed Urls false
    ∷ ending [] Raw true ∷ suffixed Raw true ∷ suffixed Text true ∷ suffixed Addresses true
    ∷ suffixed GroupedAddresses true ∷ suffixed MessageIds true ∷ suffixed Date true ∷ suffixed Urls true ∷ []

unfoldable pub asked_among : List (List ℕ × HeaderForm × Bool) → List ℕ → Option Asked
asked_among [] text = None
asked_among (e ∷ es) text = if bytes_eq e.0 text then Some (e.1, e.2) else asked_among es text

abbrev pub header_asked : List ℕ → List ℕ → Option Asked → Option HeaderAsked
header_asked key name None = None
header_asked key name (Some asked) =
    if length name == 0 then None
    else if is_permitted name asked.0 then Some (record { key = key; name = name; form = asked.0; all = asked.1 })
    else None

-- where the field stands after `header:`
abbrev pub header_of : List ℕ → List ℕ → Option HeaderAsked
header_of key field = header_asked key (front is_name_octet field) (asked_among endings (back is_name_octet field))

abbrev pub begins_with : List ℕ → List ℕ → Bool
begins_with text first = bytes_eq (take (length first) text) first

abbrev pub header_in : List ℕ → Option HeaderAsked
header_in key = if begins_with key (codes "header:") then header_of key (drop (length (codes "header:")) key) else None
