-- What the fields of a draft may have.
use Rattle.std.specs.Prelude.{ℕ, Bool, true, false, ◌&&◌, List, [], ◌∷◌, Option, Some, None}
use Rattle.std.specs.List.{list_all}
use Rattle.std.specs.Str.{is_utf8}
use Rattle.mail_drafts.specs.Identifiers.{is_identifier}

-- a list that is there has one element at least
abbrev pub are_filled : {X : Type 0} → Option (List X) → Bool
are_filled None = true
are_filled (Some []) = false
are_filled (Some (x ∷ xs)) = true

-- identifiers of messages, one at least where there is a list
abbrev pub are_identifiers : Option (List (List ℕ)) → Bool
are_identifiers None = true
are_identifiers (Some ids) = are_filled (Some ids) && list_all is_identifier ids

-- a text in UTF-8, where there is one
abbrev pub is_text : Option (List ℕ) → Bool
is_text None = true
is_text (Some t) = is_utf8 t
