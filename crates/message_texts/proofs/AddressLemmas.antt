-- Addresses that are written one after another.
use Rattle.std.proofs.Common.{◌≡◌, ℕ, List, [], ◌∷◌, ◌++◌, Some, None, length, take, drop, get_or, ◌-◌, ◌≤◌, arith, sym, ap, ◌∙◌, subst}
use Rattle.std.proofs.lemmas.List.{append_assoc, take_all}
use Rattle.mail_drafts.specs.declared.mailbox.Mailbox.{Mailbox}
use Rattle.message_lines.specs.declared.folding.Line.{Line}
use Rattle.message_lines.specs.Folding.{FieldPiece, plain_piece, laid, line_after, next_line, Lays}
use Rattle.message_lines.specs.Names.{IsNameText}
use Rattle.message_lines.proofs.LineLemmas.{laid-append, line_after-append, Goes, goes_on, goes_end, AddsPiece, lays_one}
use Rattle.message_texts.specs.AddressTexts.{angle_piece, IsAddressText, Unnamed, Named, comma_before, AreAddressTexts, NoAddress, NextAddress}

-- an address without a name
pub unnamed : (line after : Line) (old new piece end : List ℕ) (m : Mailbox) → m.name ≡ None → piece ≡ m.email ++ end → AddsPiece line (plain_piece piece) old new after
    → Lays (IsAddressText line end m) line old new after
unnamed line after old new piece end m e f a =
    lays_one (IsAddressText line end m) line after old new (plain_piece (m.email ++ end)) (Unnamed e) (a.0 ∙ ap (λ (t : List ℕ). old ++ laid line (plain_piece t ∷ [])) f)
    (a.1 ∙ ap (λ (t : List ℕ). next_line line (plain_piece t)) f)

-- pieces, and one behind them
piece_behind : (First All : List FieldPiece → Type 0) (line mid after : Line) (old text new : List ℕ) (p : FieldPiece) → Lays First line old text mid → AddsPiece mid p text new after
    → ((ps : List FieldPiece) → First ps → All (ps ++ p ∷ [])) → Lays All line old new after
unfolding line_after
piece_behind First All line mid after old text new p l a all =
    let front : text ++ laid mid (p ∷ []) ≡ old ++ laid line (l.pieces ++ p ∷ []) =
    ap (λ (u : List ℕ). u ++ laid mid (p ∷ [])) l.text_is ∙ append_assoc old (laid line l.pieces) (laid mid (p ∷ []))
    ∙ ap (λ (k : Line). old ++ (laid line l.pieces ++ laid k (p ∷ []))) l.line_is ∙ ap (λ (u : List ℕ). old ++ u) (sym (laid-append line l.pieces (p ∷ []))) in
    record {
      pieces = l.pieces ++ p ∷ [];
      are = all l.pieces l.are;
      text_is = a.0 ∙ front;
      line_is = a.1 ∙ ap (λ (k : Line). next_line k p) l.line_is ∙ sym (line_after-append line l.pieces (p ∷ []));
    }

-- an address after its name
pub named : (line mid after : Line) (old text new piece end name : List ℕ) (m : Mailbox) → m.name ≡ Some name → piece ≡ 60 ∷ (m.email ++ 62 ∷ end)
    → Lays (IsNameText line name) line old text mid → AddsPiece mid (plain_piece piece) text new after → Lays (IsAddressText line end m) line old new after
named line mid after old text new piece end name m e f l a =
    piece_behind (IsNameText line name) (IsAddressText line end m) line mid after old text new (angle_piece m.email end) l
    (a.0 ∙ ap (λ (t : List ℕ). text ++ laid mid (plain_piece t ∷ [])) f, a.1 ∙ ap (λ (t : List ℕ). next_line mid (plain_piece t)) f) (λ ps is. Named name ps e is)

-- the first address of a list, and those behind it
pub first_of : (list : List Mailbox) (m : Mailbox) → 1 ≤ length list → m ≡ get_or list 0 m → list ≡ m ∷ take (length list - 1) (drop 1 list)
first_of [] m some e = absurd (omega arith)
first_of (x ∷ xs) m some e = ap (λ (y : Mailbox). y ∷ xs) (sym e) ∙ ap (λ (t : List Mailbox). m ∷ t) (sym (take_all (length (x ∷ xs) - 1) xs (omega arith)))

-- an address is written, and those behind it are left
pub address_written : (Whole : List FieldPiece → Type 0) (begun : Line) (before : List ℕ) (line after : Line) (text new end : List ℕ) (list behind : List Mailbox) (m : Mailbox)
    → Goes Whole (AreAddressTexts line list) begun before line text → list ≡ m ∷ behind → end ≡ comma_before behind → Lays (IsAddressText line end m) line text new after
    → Goes Whole (AreAddressTexts after behind) begun before after new
address_written Whole begun before line after text new end list behind m g e f l =
    goes_on Whole (AreAddressTexts line list) (AreAddressTexts after behind) begun before line after text new l.pieces g l.text_is l.line_is
    (λ qs a. subst (λ (ms : List Mailbox). AreAddressTexts line ms (l.pieces ++ qs)) (sym e)
    (NextAddress line m behind l.pieces qs (subst (λ (t : List ℕ). IsAddressText line t m l.pieces) f l.are) (subst (λ (k : Line). AreAddressTexts k behind qs) l.line_is a)))

-- no address is left
pub addresses_end : (Whole : List FieldPiece → Type 0) (begun : Line) (before : List ℕ) (line : Line) (text : List ℕ) (list : List Mailbox)
    → Goes Whole (AreAddressTexts line list) begun before line text → list ≡ [] → Lays Whole begun before text line
addresses_end Whole begun before line text list g e =
    goes_end Whole (AreAddressTexts line list) begun before line text g (subst (λ (ms : List Mailbox). AreAddressTexts line ms []) (sym e) (NoAddress line))
