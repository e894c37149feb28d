-- Texts that break no line of a message (RFC 5322 section 2.1).
use Rattle.std.specs.Prelude.{◌≡◌, ℕ, Bool, true, ◌||◌, nat_le, nat_lt, List, [], ◌∷◌}
use Rattle.text_words.specs.Cuts.{Each}
use Rattle.text_words.specs.Octets.{is_between}
use Rattle.mail_drafts.specs.declared.attachment.Attachment.{Attachment}

-- an octet that stands in a line: of ASCII a printed one or the space, else one of a character in UTF-8
abbrev pub is_line_octet : ℕ → Bool
is_line_octet c = is_between 32 126 c || nat_le 128 c

-- such octets, and ends of lines: CR and LF stand in pairs alone
pub data IsLines : List ℕ → Type 0 where
  NoOctet : IsLines []
  InLine : (c : ℕ) (t : List ℕ) → is_line_octet c ≡ true → IsLines t → IsLines (c ∷ t)
  LineEnd : (t : List ℕ) → IsLines t → IsLines (13 ∷ 10 ∷ t)

abbrev pub is_octet : ℕ → Bool
is_octet c = nat_lt c 256

-- what is attached is octets
abbrev pub HaveOctets : List Attachment → Type 0
HaveOctets [] = Unit {0}
HaveOctets (a ∷ list) = Each is_octet a.bytes × HaveOctets list
