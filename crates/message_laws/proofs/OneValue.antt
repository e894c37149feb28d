-- A value is written as one row of pieces.
use Rattle.std.proofs.Common.{◌≡◌, ℕ, List, [], ◌∷◌, ◌++◌, refl, sym, ap, ◌∙◌, subst, arith}
use Rattle.std.proofs.lemmas.List.{append_cancel_left}
use Rattle.header_words.proofs.WordLemmas.{same_length}
use Rattle.header_dates.specs.declared.date.Clock.{Clock}
use Rattle.header_dates.specs.declared.date.Day.{Day}
use Rattle.header_dates.specs.declared.date.Moment.{Moment}
use Rattle.mail_drafts.specs.declared.mailbox.Mailbox.{Mailbox}
use Rattle.message_lines.specs.declared.folding.Line.{Line}
use Rattle.message_lines.specs.Folding.{FieldPiece, plain_piece, next_line, line_after}
use Rattle.message_lines.specs.Ids.{AreIdTexts}
use Rattle.message_lines.specs.Names.{IsNameText, PlainName, EncodedName}
use Rattle.message_lines.specs.Subjects.{shown_subject, IsSubject, PlainSubject, EncodedSubject}
use Rattle.message_lines.specs.Words.{word_piece, room_behind, Fits, FitsBest, IsNextPiece, Behind, Below, AreWordsBehind, NoWord, NextWord}
use Rattle.message_texts.specs.AddressTexts.{angle_piece, IsAddressText, Unnamed, Named, comma_before, AreAddressTexts, NoAddress, NextAddress}
use Rattle.message_texts.specs.DateTexts.{date_text, IsDateOf, IsDateText}
use Rattle.message_laws.proofs.OneDate.{one_local_time}

-- ---- encoded words

record SamePiece (p q r s : List ℕ) : Type 0 where
  piece : p ≡ q
  rest : r ≡ s

one_best : (room : ℕ) (p q r s text : List ℕ) → FitsBest room p r text → FitsBest room q s text → SamePiece p q r s
one_best room p q r s text a b =
    let e : p ++ r ≡ q ++ s = sym a.is.whole ∙ b.is.whole in
    let m = a.longest q s b.is in
    let n = b.longest p r a.is in
    let f = same_length p q r s e (omega arith) in
    record { piece = f; rest = append_cancel_left q r s (ap (λ (u : List ℕ). u ++ r) (sym f) ∙ e) }

one_piece : (line : Line) (p q r s text : List ℕ) → IsNextPiece line p r text → IsNextPiece line q s text → SamePiece p q r s
one_piece line p q r s text (Behind a) (Behind b) = one_best (room_behind line.width) p q r s text a b
one_piece line p q r s text (Behind a) (Below none b) = absurd (none p r a.is)
one_piece line p q r s text (Below none a) (Behind b) = absurd (none q s b.is)
one_piece line p q r s text (Below none a) (Below also b) = one_best (room_behind 0) p q r s text a b

-- a piece isn't empty
fits_some : (room : ℕ) (p r : List ℕ) → Fits room p r [] → ⊥
fits_some room [] r f = absurd (f.some refl)
fits_some room (c ∷ p) r f = absurd (let e : [] ≡ c ∷ (p ++ r) = f.whole in cc)

next_some : (line : Line) (p r : List ℕ) → IsNextPiece line p r [] → ⊥
next_some line p r (Behind a) = fits_some (room_behind line.width) p r a.is
next_some line p r (Below none a) = fits_some (room_behind 0) p r a.is

pub one_words : (line : Line) (text : List ℕ) (ps qs : List FieldPiece) → AreWordsBehind line text ps → AreWordsBehind line text qs → ps ≡ qs
one_words _ _ _ _ (NoWord line) (NoWord _) = refl
one_words _ _ _ _ (NoWord line) (NextWord _ p r _ qs n b) = absurd (next_some line p r n)
one_words _ _ _ _ (NextWord line p r _ ps n a) (NoWord _) = absurd (next_some line p r n)
one_words _ _ _ _ (NextWord line p r text ps n a) (NextWord _ q s _ qs m b) =
    let o = one_piece line p q r s text n m in
    let c : AreWordsBehind (next_line line (word_piece p)) r qs =
    subst (λ (u : List ℕ). AreWordsBehind (next_line line (word_piece u)) r qs) (sym o.piece) (subst (λ (u : List ℕ). AreWordsBehind (next_line line (word_piece q)) u qs) (sym o.rest) b) in
    ap (λ (us : List FieldPiece). word_piece p ∷ us) (one_words (next_line line (word_piece p)) r ps qs a c) ∙ ap (λ (u : List ℕ). word_piece u ∷ qs) o.piece

-- ---- names, subjects, addresses

pub one_name : (line : Line) (name : List ℕ) (ps qs : List FieldPiece) → IsNameText line name ps → IsNameText line name qs → ps ≡ qs
one_name line name _ _ (PlainName e) (PlainName f) = refl
one_name line name _ _ (PlainName e) (EncodedName qs f b) = absurd cc
one_name line name _ _ (EncodedName ps e a) (PlainName f) = absurd cc
one_name line name _ _ (EncodedName ps e a) (EncodedName qs f b) = one_words line name ps qs a b

pub one_subject : (line : Line) (s : List ℕ) (ps qs : List FieldPiece) → IsSubject line s ps → IsSubject line s qs → ps ≡ qs
one_subject line s _ _ (PlainSubject e) (PlainSubject f) = refl
one_subject line s _ _ (PlainSubject e) (EncodedSubject qs f b) = absurd cc
one_subject line s _ _ (EncodedSubject ps e a) (PlainSubject f) = absurd cc
one_subject line s _ _ (EncodedSubject ps e a) (EncodedSubject qs f b) = one_words line (shown_subject s) ps qs a b

one_address : (line : Line) (end : List ℕ) (m : Mailbox) (ps qs : List FieldPiece) → IsAddressText line end m ps → IsAddressText line end m qs → ps ≡ qs
one_address line end m _ _ (Unnamed e) (Unnamed f) = refl
one_address line end m _ _ (Unnamed e) (Named name qs f b) = absurd cc
one_address line end m _ _ (Named name ps e a) (Unnamed f) = absurd cc
one_address line end m _ _ (Named name ps e a) (Named other qs f b) =
    let same : name ≡ other = cc in
    ap (λ (us : List FieldPiece). us ++ angle_piece m.email end ∷ []) (one_name line name ps qs a (subst (λ (u : List ℕ). IsNameText line u qs) (sym same) b))

pub one_address_list : (line : Line) (list : List Mailbox) (ps qs : List FieldPiece) → AreAddressTexts line list ps → AreAddressTexts line list qs → ps ≡ qs
one_address_list _ _ _ _ (NoAddress line) (NoAddress _) = refl
one_address_list _ _ _ _ (NextAddress line m list ps qs is more) (NextAddress _ _ _ us vs also rest) =
    let first = one_address line (comma_before list) m ps us is also in
    let behind : AreAddressTexts (line_after line ps) list vs = subst (λ (u : List FieldPiece). AreAddressTexts (line_after line u) list vs) (sym first) rest in
    ap (λ (u : List FieldPiece). ps ++ u) (one_address_list (line_after line ps) list qs vs more behind) ∙ ap (λ (u : List FieldPiece). u ++ vs) first

-- ---- dates

one_date : (m : Moment) (s t : List ℕ) → IsDateOf m s → IsDateOf m t → s ≡ t
one_date m s t a b =
    let same = one_local_time m a.day b.day a.clock b.clock a.is_local b.is_local in
    a.text_is ∙ ap (λ (d : Day). date_text d a.clock m.offset_minutes) same.day ∙ ap (λ (c : Clock). date_text b.day c m.offset_minutes) same.clock ∙ sym b.text_is

pub one_date_text : (m : Moment) (ps qs : List FieldPiece) → IsDateText m ps → IsDateText m qs → ps ≡ qs
one_date_text m ps qs (s, a, e) (t, b, f) = e ∙ ap (λ (u : List ℕ). plain_piece u ∷ []) (one_date m s t a b) ∙ sym f

pub one_ids : (ids : List (List ℕ)) (ps qs : List FieldPiece) → AreIdTexts ids ps → AreIdTexts ids qs → ps ≡ qs
one_ids ids ps qs a b = a ∙ sym b
