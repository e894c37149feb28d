-- Attributes of mailbox names (RFC 9051 section 7.3.1), in kept form.
use Rattle.std.specs.Prelude.{ℕ, ◌||◌, Bool, true, false, not, List, ◌∷◌, filter, codes, bytes_eq}
use Rattle.std.specs.List.{list_any}
use Rattle.imap_types.specs.Items.{kept}

-- what a store may tell today and not tomorrow, though nobody changed the folder
abbrev pub is_hint : List ℕ → Bool
is_hint a = bytes_eq a (codes "\\haschildren") || bytes_eq a (codes "\\hasnochildren") || bytes_eq a (codes "\\marked") || bytes_eq a (codes "\\unmarked")

abbrev pub lasting : List (List ℕ) → List (List ℕ)
lasting attributes = filter (λ a. not (is_hint a)) attributes

abbrev pub is_unselectable : List (List ℕ) → Bool
is_unselectable attributes = list_any (λ a. bytes_eq a (codes "\\noselect") || bytes_eq a (codes "\\nonexistent")) attributes

-- the attributes with `\subscribed`, or without it
abbrev pub subscribed : Bool → List (List ℕ) → List (List ℕ)
subscribed true attributes = kept (codes "\\subscribed" ∷ attributes)
subscribed false attributes = filter (λ a. not (bytes_eq a (codes "\\subscribed"))) attributes
