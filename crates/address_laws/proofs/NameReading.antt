-- The pieces of a name are atoms, which read as the name.
use Rattle.std.proofs.Common.{◌≡◌, ◌≢◌, ℕ, ◌<◌, Bool, true, false, not, ◌||◌, ◌==◌, List, [], ◌∷◌, ◌++◌, length, map, codes, IsUtf8, refl, sym, ap, ◌∙◌, subst, arith, cond}
use Rattle.std.specs.Prelude.{nat_le}
use Rattle.std.specs.List.{filter, list_all, list_any}
use Rattle.std.specs.Str.{is_utf8}
use Rattle.std.proofs.lemmas.Bool.{and_parts, cond-true, eqb-true}
use Rattle.base64.proofs.Tables.{all_below_at}
use Rattle.base64.specs.Engines.{standard}
use Rattle.base64.specs.GeneralPurpose.{encode_of}
use Rattle.text_words.specs.Cuts.{Each, IsRun}
use Rattle.text_words.proofs.CutLemmas.{each_append, list_all_each}
use Rattle.header_words.specs.Base64.{is_symbol, is_equals_sign}
use Rattle.header_words.specs.EncodedWords.{is_control, is_printed, HasNone, IsText, Text, Plain}
use Rattle.header_words.specs.declared.encoded_word.Edges.TheVariants as edges
use Rattle.header_words.specs.WordList.{utf8_word}
use Rattle.header_words.proofs.WrittenBase64.{reads_back}
use Rattle.header_tokens.specs.declared.token.Alphabet.TheVariants as alphabet
use Rattle.header_tokens.specs.Tokens.{is_letter}
use Rattle.mail_drafts.specs.Lines.{is_line}
use Rattle.message_lines.specs.declared.folding.Line.{Line}
use Rattle.message_lines.specs.Folding.{FieldPiece, plain_piece, next_line}
use Rattle.message_lines.specs.Names.{is_word_octet, onto_first, words_of, is_plain_word, are_plain_words, IsNameText, PlainName, EncodedName}
use Rattle.message_lines.specs.Words.{word_piece, Fits, IsNextPiece, Behind, Below, AreWordsBehind, NoWord, NextWord}
use Rattle.message_laws.proofs.Octets.{text_octets}
use Rattle.message_laws.proofs.WordReading.{spaced, words_read}
use Rattle.address_laws.proofs.MailboxTokens.{AreAtoms}

-- ---- encoded words are atoms

is_in : (p q : ℕ → Bool) (c : ℕ) → p c ≡ true → (not (p c) || q c) ≡ true → q c ≡ true
is_in p q c e f = by (p c) e f
  where
    by : (b : Bool) → b ≡ true → (not b || q c) ≡ true → q c ≡ true
    by true g h = h
    by false g h = absurd cc

symbol_below : (c : ℕ) → is_symbol c ≡ true → c < 128
symbol_below c e = grind arith

symbol_letter : (c : ℕ) → is_symbol c ≡ true → is_letter alphabet.Mail c ≡ true
symbol_letter c e = is_in is_symbol (is_letter alphabet.Mail) c e (all_below_at (λ (k : ℕ). not (is_symbol k) || is_letter alphabet.Mail k) 128 c refl (symbol_below c e))

equals_letter : (c : ℕ) → is_equals_sign c ≡ true → is_letter alphabet.Mail c ≡ true
equals_letter c e = ap (is_letter alphabet.Mail) (eqb-true c 61 e)

each_widen : (p q : ℕ → Bool) (t : List ℕ) → ((c : ℕ) → p c ≡ true → q c ≡ true) → Each p t → Each q t
each_widen p q [] w e = tt
each_widen p q (c ∷ t) w e = (w c e.0, each_widen p q t w e.1)

pub word_letters : (piece : List ℕ) → IsUtf8 piece → IsRun (is_letter alphabet.Mail) (utf8_word piece)
unfolding utf8_word
word_letters piece u =
    let b = reads_back piece (text_octets piece u) in
    let inner : Each (is_letter alphabet.Mail) (encode_of standard piece) =
    subst (λ (x : List ℕ). Each (is_letter alphabet.Mail) x) (sym b.whole)
    (each_append (is_letter alphabet.Mail) b.symbols b.padding (each_widen is_symbol (is_letter alphabet.Mail) b.symbols symbol_letter b.alphabet)
    (each_widen is_equals_sign (is_letter alphabet.Mail) b.padding equals_letter b.equals)) in
    let closed = each_append (is_letter alphabet.Mail) (encode_of standard piece) (codes "?=") inner (list_all_each (is_letter alphabet.Mail) (codes "?=") refl) in (
      each_append (is_letter alphabet.Mail) (codes "=?utf-8?B?") (encode_of standard piece ++ codes "?=") (list_all_each (is_letter alphabet.Mail) (codes "=?utf-8?B?") refl) closed,
      λ n. absurd cc,
    )

piece_utf8 : (line : Line) (piece rest text : List ℕ) → IsNextPiece line piece rest text → IsUtf8 piece
piece_utf8 line piece rest text (Behind b) = b.is.characters
piece_utf8 line piece rest text (Below none b) = b.is.characters

pub words_atoms : (line : Line) (text : List ℕ) (ps : List FieldPiece) → AreWordsBehind line text ps → AreAtoms ps
words_atoms _ _ _ (NoWord line) = tt
words_atoms _ _ _ (NextWord line piece rest text ps n a) = (word_letters piece (piece_utf8 line piece rest text n), words_atoms (next_line line (word_piece piece)) rest ps a)

-- a name has no control character
printed_kept : (t : List ℕ) → list_any is_control t ≡ false → filter is_printed t ≡ t
printed_kept [] e = refl
printed_kept (c ∷ t) e = by (is_control c) refl e (printed_kept t)
  where
    by : (b : Bool) → is_control c ≡ b → (b || list_any is_control t) ≡ false → (list_any is_control t ≡ false → filter is_printed t ≡ t)
        → filter is_printed (c ∷ t) ≡ c ∷ t
    by true f g more = absurd cc
    by false f g more = cond-true (is_printed c) (c ∷ filter is_printed t) (filter is_printed t) (ap not f) ∙ ap (λ (u : List ℕ). c ∷ u) (more g)

falsehood : (b : Bool) → not b ≡ true → b ≡ false
falsehood true e = absurd cc
falsehood false e = refl

line_kept : (t : List ℕ) → is_line t ≡ true → filter is_printed t ≡ t
line_kept t e = printed_kept t (falsehood (list_any is_control t) (and_parts (is_utf8 t) (not (list_any is_control t)) e).1)

-- ---- plain words are atoms

word_letter : (c : ℕ) → is_word_octet c ≡ true → is_letter alphabet.Mail c ≡ true
word_letter c e = is_in is_word_octet (is_letter alphabet.Mail) c e (all_below_at (λ (k : ℕ). not (is_word_octet k) || is_letter alphabet.Mail k) 128 c refl (below c e))
  where
    below : (c : ℕ) → is_word_octet c ≡ true → c < 128
    below c e = grind arith

plain_letters : (w : List ℕ) → is_plain_word w ≡ true → IsRun (is_letter alphabet.Mail) w
plain_letters [] e = absurd cc
plain_letters (c ∷ t) e = (each_widen is_word_octet (is_letter alphabet.Mail) (c ∷ t) word_letter (list_all_each is_word_octet (c ∷ t) e), λ n. absurd cc)

pub plain_atoms : (ws : List (List ℕ)) → list_all is_plain_word ws ≡ true → AreAtoms (map plain_piece ws)
plain_atoms [] e = tt
plain_atoms (w ∷ ws) e = let h = and_parts (is_plain_word w) (list_all is_plain_word ws) e in (plain_letters w h.0, plain_atoms ws h.1)

-- ---- the words of a text, behind one another again

abbrev text_of : List (List ℕ) → List ℕ
text_of [] = []
text_of (w ∷ ws) = w ++ spaced (map plain_piece ws)

onto_text : (c : ℕ) (ws : List (List ℕ)) → ws ≢ [] → text_of (onto_first c ws) ≡ c ∷ text_of ws
onto_text c [] n = absurd (n refl)
onto_text c (w ∷ ws) n = refl

empty_text : (ws : List (List ℕ)) → ws ≢ [] → text_of ([] ∷ ws) ≡ 32 ∷ text_of ws
empty_text [] n = absurd (n refl)
empty_text (w ∷ ws) n = refl

words_some : (t : List ℕ) → words_of t ≢ []
words_some [] = λ e. absurd cc
words_some (c ∷ t) = by (c == 32) (words_of t)
  where
    by : (q : Bool) (ws : List (List ℕ)) → cond q ([] ∷ ws) (onto_first c ws) ≢ []
    by true ws = λ e. absurd cc
    by false [] = λ e. absurd cc
    by false (w ∷ ws) = λ e. absurd cc

words_text : (t : List ℕ) → text_of (words_of t) ≡ t
words_text [] = refl
words_text (c ∷ t) = by (c == 32) refl (words_text t)
  where
    by : (q : Bool) → (c == 32) ≡ q → text_of (words_of t) ≡ t → text_of (cond q ([] ∷ words_of t) (onto_first c (words_of t))) ≡ c ∷ t
    by true e h = empty_text (words_of t) (words_some t) ∙ ap (λ (u : List ℕ). 32 ∷ u) h ∙ ap (λ (k : ℕ). k ∷ t) (sym (eqb-true c 32 e))
    by false e h = onto_text c (words_of t) (words_some t) ∙ ap (λ (u : List ℕ). c ∷ u) h

-- no encoded word begins in them
abbrev is_no_equals : ℕ → Bool
is_no_equals c = not (c == 61)

word_no_equals : (c : ℕ) → is_word_octet c ≡ true → is_no_equals c ≡ true
word_no_equals c e = grind arith

plain_no_equals : (w : List ℕ) → is_plain_word w ≡ true → Each is_no_equals w
plain_no_equals [] e = tt
plain_no_equals (c ∷ t) e = each_widen is_word_octet is_no_equals (c ∷ t) word_no_equals (list_all_each is_word_octet (c ∷ t) e)

more_no_equals : (ws : List (List ℕ)) → list_all is_plain_word ws ≡ true → Each is_no_equals (spaced (map plain_piece ws))
more_no_equals [] e = tt
more_no_equals (w ∷ ws) e =
    let h = and_parts (is_plain_word w) (list_all is_plain_word ws) e in
    (refl, each_append is_no_equals w (spaced (map plain_piece ws)) (plain_no_equals w h.0) (more_no_equals ws h.1))

text_no_equals : (ws : List (List ℕ)) → list_all is_plain_word ws ≡ true → Each is_no_equals (text_of ws)
text_no_equals [] e = tt
text_no_equals (w ∷ ws) e =
    let h = and_parts (is_plain_word w) (list_all is_plain_word ws) e in
    each_append is_no_equals w (spaced (map plain_piece ws)) (plain_no_equals w h.0) (more_no_equals ws h.1)

no_equals_in : (before t x : List ℕ) → Each is_no_equals t → t ≡ before ++ 61 ∷ x → ⊥
no_equals_in [] [] x e h = absurd cc
no_equals_in [] (c ∷ t) x e h = let f : c ≡ 61 = cc in let g : is_no_equals c ≡ false = ap is_no_equals f in absurd cc
no_equals_in (b ∷ before) [] x e h = absurd cc
no_equals_in (b ∷ before) (c ∷ t) x e h = no_equals_in before t x e.1 (let g : t ≡ before ++ 61 ∷ x = cc in g)

no_word_in : (t : List ℕ) → Each is_no_equals t → HasNone edges.White t
no_word_in t e = λ coded before word behind w s. by before word behind w s.word.shape.whole
  where
    by : (before word behind : List ℕ) {x : List ℕ} → t ≡ before ++ (word ++ behind) → word ≡ 61 ∷ x → ⊥
    by before word behind {x} w h = no_equals_in before t (x ++ behind) e (w ∙ ap (λ (u : List ℕ). before ++ (u ++ behind)) h)

plain_text : (t : List ℕ) → Each is_no_equals t → IsText false t t
plain_text t e = record { spans = Text t ∷ []; are = Plain false t (no_word_in t e); text_is = first t }
  where
    first : (t : List ℕ) → t ≡ t ++ []
    first [] = refl
    first (c ∷ t) = ap (λ (u : List ℕ). c ∷ u) (first t)

-- ---- names

-- the pieces of a name: none for a name of no octet, else atoms that read as it
pub data NameRead (name : List ℕ) : List FieldPiece → Type 0 where
  Nameless : name ≡ [] → NameRead name []
  AsAtoms : (p : FieldPiece) (ps : List FieldPiece) → AreAtoms (p ∷ ps) → name ≢ [] → IsText false (p.text ++ spaced ps) name → NameRead name (p ∷ ps)

plain_name : (name : List ℕ) (ws : List (List ℕ)) → words_of name ≡ ws → list_all is_plain_word ws ≡ true → NameRead name (map plain_piece ws)
plain_name name [] w e = absurd (words_some name w)
plain_name name (v ∷ vs) w e =
    let same : text_of (v ∷ vs) ≡ name = ap text_of (sym w) ∙ words_text name in
    AsAtoms (plain_piece v) (map plain_piece vs) (plain_atoms (v ∷ vs) e) some (subst (λ (u : List ℕ). IsText false (text_of (v ∷ vs)) u) same (plain_text (text_of (v ∷ vs)) (text_no_equals (v ∷ vs) e)))
  where
    some : name ≢ []
    some n =
        let f : are_plain_words name ≡ true = ap (list_all is_plain_word) w ∙ e in
        let g : are_plain_words [] ≡ true = ap are_plain_words (sym n) ∙ f in absurd cc

fits_some : (room : ℕ) (piece rest text : List ℕ) → Fits room piece rest text → text ≢ []
fits_some room [] rest text f = absurd (f.some refl)
fits_some room (c ∷ piece) rest text f = λ n. (let e : [] ≡ c ∷ (piece ++ rest) = sym n ∙ f.whole in absurd cc)

piece_some : (line : Line) (piece rest text : List ℕ) → IsNextPiece line piece rest text → text ≢ []
piece_some line piece rest text (Behind b) = fits_some _ piece rest text b.is
piece_some line piece rest text (Below none b) = fits_some _ piece rest text b.is

encoded_name : (line : Line) (name : List ℕ) (ps : List FieldPiece) → is_line name ≡ true → AreWordsBehind line name ps → NameRead name ps
encoded_name _ _ _ e (NoWord line) = Nameless refl
encoded_name _ _ _ e (NextWord line piece rest text ps n a) =
    let all = NextWord line piece rest text ps n a in
    AsAtoms (word_piece piece) ps (words_atoms line text (word_piece piece ∷ ps) all) (piece_some line piece rest text n)
    (subst (λ (u : List ℕ). IsText false (utf8_word piece ++ spaced ps) u) (line_kept text e) (words_read line text (word_piece piece ∷ ps) all))

pub name_read : (line : Line) (name : List ℕ) (ps : List FieldPiece) → is_line name ≡ true → IsNameText line name ps → NameRead name ps
name_read line name _ i (PlainName e) = plain_name name (words_of name) refl (and_parts (are_plain_words name) (nat_le (length name) 997) e).0
name_read line name _ i (EncodedName ps e a) = encoded_name line name ps i a
