-- Which first octets may begin a head.
use Rattle.std.specs.Prelude.{ℕ, Bool, ◌||◌, ◌&&◌, ◌==◌, nat_le, codes}
use Rattle.std.specs.List.{list_any}
use Rattle.client_front.specs.declared.line_ends.TheConstants.{CR, LF}

abbrev pub is_letter_or_digit : ℕ → Bool
is_letter_or_digit octet = (nat_le 48 octet && nat_le octet 57) || ((nat_le 65 octet && nat_le octet 90) || (nat_le 97 octet && nat_le octet 122))

abbrev pub is_mark : ℕ → Bool
is_mark octet = list_any (λ mark. mark == octet) (codes "!#$%&'*+-.^_`|~")

-- an octet of a token (RFC 9110 section 5.6.2), as a method's first, or CR or LF, since empty lines may stand before a head (RFC 9112 section 2.2)
abbrev pub can_begin : ℕ → Bool
can_begin octet = is_letter_or_digit octet || (is_mark octet || (octet == CR || octet == LF))
