-- What identifies messages and parts (RFC 5322 section 3.6.4, RFC 2045 section 7), without its angle brackets.
use Rattle.std.specs.Prelude.{ℕ, Bool, true, not, ◌&&◌, ◌||◌, ◌==◌, nat_le, List, length, Option, Some, None}
use Rattle.std.specs.List.{list_any}
use Rattle.mail_drafts.specs.Lines.{is_line}

-- a space or an angle bracket
abbrev pub ends_identifier : ℕ → Bool
ends_identifier c = c == 32 || c == 60 || c == 62

-- one or more octets, of which none is a space, an angle bracket or a control character
abbrev pub is_identifier : List ℕ → Bool
is_identifier t = is_line t && nat_le 1 (length t) && not (list_any ends_identifier t)

abbrev pub is_identifier_or_none : Option (List ℕ) → Bool
is_identifier_or_none None = true
is_identifier_or_none (Some t) = is_identifier t
