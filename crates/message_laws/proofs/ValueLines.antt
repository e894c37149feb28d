-- The pieces of values are printed.
use Rattle.std.proofs.Common.{◌≡◌, ℕ, zero, suc, ◌+◌, ◌/◌, ◌%◌, ◌<◌, ◌≤◌, Bool, true, false, not, ◌&&◌, ◌||◌, cond, List, [], ◌∷◌, length, map, codes, IsUtf8, refl, sym, subst, arith}
use Rattle.std.specs.Prelude.{nat_le}
use Rattle.std.specs.Char.{is_ascii}
use Rattle.std.specs.Fmt.{digit_glyph}
use Rattle.std.specs.List.{list_all, list_any, flat_map}
use Rattle.std.proofs.lemmas.Bool.{and_parts, leb-true, ltb-true}
use Rattle.percent_encoding.specs.AsciiSet.{contains, should_percent_encode}
use Rattle.percent_encoding.specs.Percent.{percent_encode, percent_encode_byte, encode_byte}
use Rattle.percent_encoding.specs.declared.ascii_set.TheConstants.{NON_ALPHANUMERIC}
use Rattle.base64.proofs.Tables.{all_below_at}
use Rattle.text_words.specs.Cuts.{Each, front, back, Stops}
use Rattle.text_words.specs.Octets.{is_between, is_same_text}
use Rattle.text_words.proofs.CutLemmas.{front_back, back_stops, each_append, list_all_each}
use Rattle.mail_drafts.specs.declared.mailbox.Mailbox.{Mailbox}
use Rattle.mail_drafts.specs.Identifiers.{ends_identifier, is_identifier}
use Rattle.mail_drafts.specs.Lines.{is_line}
use Rattle.mail_drafts.specs.Mailboxes.{is_comma}
use Rattle.mail_drafts.specs.MediaTypes.{is_tspecial, is_token_octet, is_token, is_no_slash, is_subtype, is_composite, is_leaf_type}
use Rattle.message_lines.specs.declared.folding.Line.{Line}
use Rattle.message_lines.specs.Folding.{FieldPiece, plain_piece, next_line, line_after}
use Rattle.message_lines.specs.Ids.{bracketed, id_piece, hex_digit, hex_digits, drawn_id}
use Rattle.message_lines.specs.Names.{is_word_octet, is_plain_word, are_plain_words, words_of, IsNameText, PlainName, EncodedName}
use Rattle.message_lines.specs.Subjects.{shown_subject, begins_with, has_word_mark, is_plain_subject, IsSubject, PlainSubject, EncodedSubject}
use Rattle.message_lines.specs.Words.{word_piece, IsNextPiece, Behind, Below, AreWordsBehind, NoWord, NextWord}
use Rattle.message_texts.specs.AddressTexts.{angle_piece, IsAddressText, Unnamed, Named, comma_before, AreAddressTexts, NoAddress, NextAddress}
use Rattle.message_texts.specs.Parts.{file_name}
use Rattle.message_laws.specs.SafeTexts.{is_line_octet}
use Rattle.message_laws.proofs.Lines.{ArePrinted, pieces_append, printed, line_printed}
use Rattle.message_laws.proofs.Octets.{word_printed}

-- octets of a smaller class
weaker : (p : ℕ → Bool) → ((c : ℕ) → p c ≡ true → is_line_octet c ≡ true) → (t : List ℕ) → Each p t → Each is_line_octet t
weaker p of [] e = tt
weaker p of (c ∷ t) e = (of c e.0, weaker p of t e.1)

-- ---- encoded words

piece_utf8 : (line : Line) (p r text : List ℕ) → IsNextPiece line p r text → IsUtf8 p
piece_utf8 line p r text (Behind b) = b.is.characters
piece_utf8 line p r text (Below none b) = b.is.characters

pub words_printed : (line : Line) (text : List ℕ) (ps : List FieldPiece) → AreWordsBehind line text ps → ArePrinted ps
words_printed _ _ _ (NoWord line) = tt
words_printed _ _ _ (NextWord line p r text ps n a) = (word_printed p (piece_utf8 line p r text n), words_printed (next_line line (word_piece p)) r ps a)

-- ---- names and subjects

word_octet : (c : ℕ) → is_word_octet c ≡ true → is_line_octet c ≡ true
word_octet c e = grind arith

plain_word : (w : List ℕ) → is_plain_word w ≡ true → Each is_line_octet w
plain_word [] e = absurd cc
plain_word (c ∷ t) e = weaker is_word_octet word_octet (c ∷ t) (list_all_each is_word_octet (c ∷ t) e)

plain_words : (ws : List (List ℕ)) → list_all is_plain_word ws ≡ true → ArePrinted (map plain_piece ws)
plain_words [] e = tt
plain_words (w ∷ ws) e =
    let p = and_parts (is_plain_word w) (list_all is_plain_word ws) e in
    (plain_word w p.0, plain_words ws p.1)

pub name_printed : (line : Line) (name : List ℕ) (ps : List FieldPiece) → IsNameText line name ps → ArePrinted ps
name_printed line name _ (PlainName e) = plain_words (words_of name) (and_parts (are_plain_words name) (nat_le (length name) 997) e).0
name_printed line name _ (EncodedName ps e a) = words_printed line name ps a

shown_octet : (c : ℕ) → is_between 32 126 c ≡ true → is_line_octet c ≡ true
shown_octet c e = grind arith

pub all_shown : (t : List ℕ) → is_plain_subject t ≡ true → list_all (is_between 32 126) t ≡ true
all_shown t e =
    let a = list_all (is_between 32 126) t in
    let b = not (begins_with 32 t) in
    let c = not (has_word_mark t) in
    (and_parts a b (and_parts (a && b) c (and_parts (a && b && c) (nat_le (length t) 989) e).0).0).0

pub shown_printed : (t : List ℕ) → Each (is_between 32 126) t → Each is_line_octet t
shown_printed t e = weaker (is_between 32 126) shown_octet t e

pub subject_printed : (line : Line) (s : List ℕ) (ps : List FieldPiece) → IsSubject line s ps → ArePrinted ps
subject_printed line s _ (PlainSubject e) =
    (weaker (is_between 32 126) shown_octet (shown_subject s) (list_all_each (is_between 32 126) (shown_subject s) (all_shown (shown_subject s) e)), tt)
subject_printed line s _ (EncodedSubject ps e a) = words_printed line (shown_subject s) ps a

-- ---- ids

pub identifier_printed : (t : List ℕ) → is_identifier t ≡ true → Each is_line_octet t
identifier_printed t e =
    line_printed t (and_parts (is_line t) (nat_le 1 (length t)) (and_parts (is_line t && nat_le 1 (length t)) (not (list_any ends_identifier t)) e).0).0

pub bracketed_printed : (t : List ℕ) → Each is_line_octet t → Each is_line_octet (bracketed t)
bracketed_printed t e = (refl, each_append is_line_octet t (62 ∷ []) e (refl, tt))

pub ids_printed : (ids : List (List ℕ)) → list_all is_identifier ids ≡ true → ArePrinted (map id_piece ids)
ids_printed [] e = tt
ids_printed (id ∷ ids) e =
    let p = and_parts (is_identifier id) (list_all is_identifier ids) e in
    (bracketed_printed id (identifier_printed id p.0), ids_printed ids p.1)

low_digit : (n : ℕ) → n ≤ 9 → is_line_octet (48 + n) ≡ true
low_digit n le = grind arith

high_digit : (n : ℕ) → n < 16 → is_line_octet (87 + n) ≡ true
high_digit n lt = grind arith

hex_printed : (n : ℕ) → n < 16 → is_line_octet (hex_digit n) ≡ true
hex_printed n lt = by (nat_le n 9) refl
  where
    by : (b : Bool) → nat_le n 9 ≡ b → is_line_octet (cond b (48 + n) (87 + n)) ≡ true
    by true e = low_digit n (leb-true n 9 e)
    by false e = high_digit n lt

digits_printed : (k n : ℕ) → Each is_line_octet (hex_digits k n)
digits_printed zero n = tt
digits_printed (suc k) n = each_append is_line_octet (hex_digits k (n / 16)) (hex_digit (n % 16) ∷ []) (digits_printed k (n / 16)) (hex_printed (n % 16) (omega arith), tt)

pub drawn_printed : (word : ℕ) → ArePrinted (map id_piece (drawn_id word ∷ []))
drawn_printed word =
    (bracketed_printed (drawn_id word) (each_append is_line_octet (hex_digits 16 word) (codes "@jmapgate.invalid") (digits_printed 16 word) (printed (codes "@jmapgate.invalid") refl)), tt)

-- ---- addresses

email_printed : (m : Mailbox) → Each is_line_octet m.email
email_printed m =
    let octets = is_identifier m.email && not (list_any is_comma m.email) in
    identifier_printed m.email (and_parts (is_identifier m.email) (not (list_any is_comma m.email)) (and_parts octets (not (has_word_mark m.email)) m.email_is).0).0

address_printed : (line : Line) (end : List ℕ) (m : Mailbox) (ps : List FieldPiece) → Each is_line_octet end → IsAddressText line end m ps → ArePrinted ps
address_printed line end m _ e (Unnamed none) = (each_append is_line_octet m.email end (email_printed m) e, tt)
address_printed line end m _ e (Named name ps some a) =
    pieces_append ps (angle_piece m.email end ∷ []) (name_printed line name ps a) ((refl, each_append is_line_octet m.email (62 ∷ end) (email_printed m) (refl, e)), tt)

comma_printed : (list : List Mailbox) → Each is_line_octet (comma_before list)
comma_printed [] = tt
comma_printed (m ∷ list) = (refl, tt)

pub addresses_printed : (line : Line) (list : List Mailbox) (ps : List FieldPiece) → AreAddressTexts line list ps → ArePrinted ps
addresses_printed _ _ _ (NoAddress line) = tt
addresses_printed _ _ _ (NextAddress line m list ps qs is more) =
    pieces_append ps qs (address_printed line (comma_before list) m ps (comma_printed list) is) (addresses_printed (line_after line ps) list qs more)

-- ---- media types and names of files

wider : (c : ℕ) → is_between 33 126 c ≡ true → is_between 32 126 c ≡ true
wider c e = grind arith

token_octet : (c : ℕ) → is_token_octet c ≡ true → is_line_octet c ≡ true
token_octet c e = shown_octet c (wider c (and_parts (is_between 33 126 c) (not (is_tspecial c)) e).0)

pub token_printed : (t : List ℕ) → is_token t ≡ true → Each is_line_octet t
token_printed t e = weaker is_token_octet token_octet t (list_all_each is_token_octet t (and_parts (nat_le 1 (length t)) (list_all is_token_octet t) e).1)

slash : (c : ℕ) → is_no_slash c ≡ false → is_line_octet c ≡ true
slash c e = grind arith

subtype_printed : (t : List ℕ) → Stops is_no_slash t → is_subtype t ≡ true → Each is_line_octet t
subtype_printed [] s e = absurd cc
subtype_printed (c ∷ t) s e = (slash c s, token_printed t e)

pub media_printed : (t : List ℕ) → is_leaf_type t ≡ true → Each is_line_octet t
media_printed t e =
    let kind = is_token (front is_no_slash t) in
    let rest = is_subtype (back is_no_slash t) in
    let p = and_parts kind rest (and_parts (kind && rest) (not (is_composite (front is_no_slash t))) e).0 in
    subst (λ (u : List ℕ). Each is_line_octet u) (sym (front_back is_no_slash t))
    (each_append is_line_octet (front is_no_slash t) (back is_no_slash t) (token_printed (front is_no_slash t) p.0) (subtype_printed (back is_no_slash t) (back_stops is_no_slash t) p.1))

-- an octet of ASCII that isn't escaped is printed
abbrev escaped_or_printed : ℕ → Bool
escaped_or_printed c = should_percent_encode NON_ALPHANUMERIC c || is_line_octet c

escape_printed : (c : ℕ) → Each is_line_octet (percent_encode_byte c)
unfolding percent_encode_byte
escape_printed c = (refl, (glyph (c / 16 % 16) (omega arith), (glyph (c % 16) (omega arith), tt)))
  where
    glyph : (n : ℕ) → n < 16 → is_line_octet (digit_glyph true n) ≡ true
    glyph n lt = all_below_at (λ (k : ℕ). is_line_octet (digit_glyph true k)) 16 n refl lt

-- what isn't escaped is ASCII
is_kept : (c : ℕ) → should_percent_encode NON_ALPHANUMERIC c ≡ false → c < 128
unfolding should_percent_encode
is_kept c e = by (is_ascii c) refl e
  where
    by : (b : Bool) → is_ascii c ≡ b → (not b || contains NON_ALPHANUMERIC c) ≡ false → c < 128
    by true f g = ltb-true c 128 f
    by false f g = absurd cc

kept : (c : ℕ) → should_percent_encode NON_ALPHANUMERIC c ≡ false → is_line_octet c ≡ true
unfolding should_percent_encode
kept c e = of (should_percent_encode NON_ALPHANUMERIC c) e (all_below_at escaped_or_printed 128 c refl (is_kept c e))
  where
    of : (b : Bool) → b ≡ false → (b || is_line_octet c) ≡ true → is_line_octet c ≡ true
    of true f g = absurd cc
    of false f g = g

octet_escaped : (c : ℕ) → Each is_line_octet (encode_byte NON_ALPHANUMERIC c)
octet_escaped c = by (should_percent_encode NON_ALPHANUMERIC c) refl
  where
    by : (b : Bool) → should_percent_encode NON_ALPHANUMERIC c ≡ b → Each is_line_octet (cond b (percent_encode_byte c) (c ∷ []))
    by true e = escape_printed c
    by false e = (kept c e, tt)

pub file_name_printed : (name : List ℕ) → Each is_line_octet (file_name name)
unfolding percent_encode
file_name_printed name = each_append is_line_octet (codes "filename*=utf-8''") (percent_encode NON_ALPHANUMERIC name) (printed (codes "filename*=utf-8''") refl) (escaped name)
  where
    escaped : (t : List ℕ) → Each is_line_octet (flat_map (encode_byte NON_ALPHANUMERIC) t)
    escaped [] = tt
    escaped (c ∷ t) = each_append is_line_octet (encode_byte NON_ALPHANUMERIC c) (flat_map (encode_byte NON_ALPHANUMERIC) t) (octet_escaped c) (escaped t)
