-- Addresses as they are written (RFC 5322 section 3.4).
use Rattle.std.specs.Prelude.{◌≡◌, ℕ, List, [], ◌∷◌, ◌++◌, Some, None}
use Rattle.mail_drafts.specs.declared.mailbox.Mailbox.{Mailbox}
use Rattle.message_lines.specs.declared.folding.Line.{Line}
use Rattle.message_lines.specs.Folding.{FieldPiece, plain_piece, line_after}
use Rattle.message_lines.specs.Names.{IsNameText}

-- in angle brackets, with `end` behind it
abbrev pub angle_piece : List ℕ → List ℕ → FieldPiece
angle_piece email end = plain_piece (60 ∷ (email ++ 62 ∷ end))

-- without a name an address is bare, else it stands after the name in angle brackets; `end` follows it
pub data IsAddressText (line : Line) (end : List ℕ) (m : Mailbox) : List FieldPiece → Type 0 where
  Unnamed : m.name ≡ None → IsAddressText line end m (plain_piece (m.email ++ end) ∷ [])
  Named : (name : List ℕ) (ps : List FieldPiece) → m.name ≡ Some name → IsNameText line name ps → IsAddressText line end m (ps ++ angle_piece m.email end ∷ [])

-- a comma, but for the last address
abbrev pub comma_before : List Mailbox → List ℕ
comma_before [] = []
comma_before (m ∷ list) = 44 ∷ []

-- addresses behind a line, with a comma after each but the last
pub data AreAddressTexts : Line → List Mailbox → List FieldPiece → Type 0 where
  NoAddress : (line : Line) → AreAddressTexts line [] []
  NextAddress : (line : Line) (m : Mailbox) (list : List Mailbox) (ps qs : List FieldPiece) → IsAddressText line (comma_before list) m ps
      → AreAddressTexts (line_after line ps) list qs → AreAddressTexts line (m ∷ list) (ps ++ qs)
