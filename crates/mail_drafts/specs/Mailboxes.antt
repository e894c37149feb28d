-- Mailboxes that fields of a message name (RFC 5322 section 3.4).
use Rattle.std.specs.Prelude.{ℕ, Bool, true, not, ◌&&◌, ◌==◌, List, [], ◌∷◌, Option, Some, None}
use Rattle.std.specs.List.{list_any}
use Rattle.header_addresses.specs.declared.address.Address.{Address}
use Rattle.header_addresses.specs.Names.{IsAddressesForm}
use Rattle.message_lines.specs.Subjects.{has_word_mark}
use Rattle.mail_drafts.specs.Identifiers.{is_identifier}
use Rattle.mail_drafts.specs.Lines.{is_line}

abbrev pub is_comma : ℕ → Bool
is_comma c = c == 44

-- It ends nowhere in a list of addresses, and no encoded word begins in it: none may stand in an address (RFC 2047 section 5).
abbrev pub is_email : List ℕ → Bool
is_email t = is_identifier t && not (list_any is_comma t) && not (has_word_mark t)

-- one mailbox with this address and no name
abbrev pub unnamed : List ℕ → List Address
unnamed email = record { name = None; email = email } ∷ []

-- alone in a field it is read as that mailbox (RFC 5322 section 3.4)
abbrev pub ReadsAlone : List ℕ → Type 0
ReadsAlone email = IsAddressesForm email (Some (unnamed email))

-- a name of a mailbox or of a file, where there is one: one line
abbrev pub is_line_or_none : Option (List ℕ) → Bool
is_line_or_none None = true
is_line_or_none (Some t) = is_line t
