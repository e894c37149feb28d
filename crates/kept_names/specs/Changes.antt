-- What a STORE makes of flags (RFC 9051 section 6.4.6), and a SUBSCRIBE of attributes (sections 6.3.7 and 6.3.8). All are in kept form.
use Rattle.std.specs.Prelude.{ℕ, Bool, true, false, not, List, ◌∷◌, ◌++◌, filter, codes, bytes_eq}
use Rattle.std.specs.List.{list_any}
use Rattle.imap_types.specs.Items.{kept}

-- the flags of a message with those that are asked, or without them
abbrev pub flags_after : Bool → List (List ℕ) → List (List ℕ) → List (List ℕ)
flags_after true asked was = kept (was ++ asked)
flags_after false asked was = filter (λ f. not (list_any (λ g. bytes_eq f g) (kept asked))) was

-- the attributes with `\subscribed`, or without it
abbrev pub subscribed : Bool → List (List ℕ) → List (List ℕ)
subscribed true attributes = kept (codes "\\subscribed" ∷ attributes)
subscribed false attributes = filter (λ a. not (bytes_eq a (codes "\\subscribed"))) attributes
