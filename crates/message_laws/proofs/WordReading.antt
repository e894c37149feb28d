-- Encoded words behind a line read as the text that they are of.
use Rattle.std.proofs.Common.{◌≡◌, ◌≢◌, ℕ, ◌<◌, ◌≤◌, cond, ◌&&◌, Bool, true, false, List, [], ◌∷◌, ◌++◌, length, codes, IsUtf8, refl, sym, ap, ◌∙◌, subst, arith}
use Rattle.std.specs.List.{filter}
use Rattle.std.proofs.lemmas.List.{append_assoc, append-nil}
use Rattle.std.proofs.lemmas.Str.{IsUtf8-append, utf8_lossy-IsUtf8}
use Rattle.base64.specs.GeneralPurpose.{encode_of}
use Rattle.base64.specs.Engines.{standard}
use Rattle.text_words.specs.Cuts.{Each, front}
use Rattle.text_words.specs.Octets.{is_between, is_white}
use Rattle.text_words.proofs.CutLemmas.{each_append, each_list_all, list_all_each}
use Rattle.header_words.specs.Base64.{is_symbol, is_equals_sign, IsBase64}
use Rattle.header_words.specs.Charsets.{charset_of}
use Rattle.header_words.specs.declared.charset.Charset.TheVariants as charset
use Rattle.header_words.specs.EncodedWords.{is_encoded, InBase64, HasShape, charset_name, Coded, IsEncodedWord, is_edge, ends_at_edge, BeginsAtEdge, kept, NoneBefore, HasNone, IsFirst}
use Rattle.header_words.specs.EncodedWords.{FirstEncodedWord, IsText, Span, Text, InUtf8, AreSpans, Plain, Worded, is_printed, text_of_words, text_of_spans}
use Rattle.header_words.specs.declared.encoded_word.Edges.TheVariants as edges
use Rattle.header_words.proofs.SpanLemmas.{longer_run}
use Rattle.header_words.specs.WordList.{utf8_word}
use Rattle.header_words.proofs.WordLemmas.{none_yet}
use Rattle.header_words.proofs.WrittenBase64.{reads_back}
use Rattle.message_lines.specs.declared.folding.Line.{Line}
use Rattle.message_lines.specs.Folding.{FieldPiece, next_line}
use Rattle.message_lines.specs.Words.{word_piece, IsNextPiece, Behind, Below, Fits, AreWordsBehind, NoWord, NextWord}
use Rattle.message_laws.proofs.Octets.{text_octets}
use Rattle.message_laws.proofs.DateReading.{clean_text}
use Rattle.message_laws.proofs.RawLines.{IsClean}

-- ---- one word

each_widen : (p q : ℕ → Bool) (t : List ℕ) → ((c : ℕ) → p c ≡ true → q c ≡ true) → Each p t → Each q t
each_widen p q [] w e = tt
each_widen p q (c ∷ t) w e = (w c e.0, each_widen p q t w e.1)

symbol_printed : (c : ℕ) → is_symbol c ≡ true → is_encoded c ≡ true
symbol_printed c e = grind arith

equals_printed : (c : ℕ) → is_equals_sign c ≡ true → is_encoded c ≡ true
equals_printed c e = grind arith

printed : (octets t : List ℕ) → IsBase64 octets t → Each is_encoded t
printed octets t b =
    let P : List ℕ → Type 0 = λ x. Each is_encoded x in
    subst P (sym b.whole) (each_append is_encoded b.symbols b.padding (each_widen is_symbol is_encoded b.symbols symbol_printed b.alphabet)
    (each_widen is_equals_sign is_encoded b.padding equals_printed b.equals))

word_shape : (piece text : List ℕ) → text ≡ encode_of standard piece → Each is_encoded text → HasShape (codes "utf-8") 66 text [] (utf8_word piece)
unfolding utf8_word
word_shape piece text e r = record {
  whole = ap (λ (u : List ℕ). codes "=?utf-8?B?" ++ (u ++ codes "?=")) (sym e);
  token = (grind arith, λ n. absurd cc);
  printed = r;
}

utf8_name : charset_of (charset_name (codes "utf-8")) ≡ charset.Utf8
unfolding front
utf8_name = refl

utf8_named : charset_name (codes "utf-8") ≢ []
unfolding front
utf8_named = λ e. absurd cc

-- what the word of a piece spells
abbrev said_by : List ℕ → Coded
said_by piece = record { charset = charset.Utf8; octets = piece }

-- the word of a piece stands for the piece
word_is : (piece : List ℕ) → IsUtf8 piece → 0 < length piece → IsEncodedWord (said_by piece) (utf8_word piece)
word_is piece u some =
    let b = reads_back piece (text_octets piece u) in
    record {
      charset = codes "utf-8";
      letter = 66;
      text = encode_of standard piece;
      shape = word_shape piece (encode_of standard piece) refl (printed piece (encode_of standard piece) b);
      named = utf8_named;
      spelled = InBase64 refl b;
      known = sym utf8_name;
    }

-- ---- white space

white_is_edge : (c : ℕ) → is_white c ≡ true → is_edge edges.White c ≡ true
white_is_edge c e = grind arith

white_edge : (edge : Bool) (b : List ℕ) → edge ≡ true → Each is_white b → ends_at_edge edges.White edge b ≡ true
white_edge edge [] e w = e
white_edge edge (c ∷ b) e w = white_edge (is_edge edges.White c) b (white_is_edge c w.0) w.1

white_dropped : (b : List ℕ) → Each is_white b → kept true b ≡ []
white_dropped b w = ap (λ (q : Bool). cond (true && q) [] (Text b ∷ [])) (each_list_all is_white b w)

-- no word begins with white space
no_word_begins : (coded : Coded) (word behind t : List ℕ) (c : ℕ) → is_white c ≡ true → c ∷ t ≡ word ++ behind → IsEncodedWord coded word → ⊥
no_word_begins coded word behind t c w e i = let f = head_is word behind i.shape.whole e in absurd (grind arith)
  where
    head_is : (w b : List ℕ) {x : List ℕ} → w ≡ 61 ∷ x → c ∷ t ≡ w ++ b → c ≡ 61
    head_is [] b f e = absurd cc
    head_is (d ∷ w) b f e = cc

none_in_white : (b t : List ℕ) → Each is_white b → NoneBefore edges.White (length b) (b ++ t)
none_in_white b t w = λ coded before word behind e s. by b before w coded word behind e s.word
  where
    by : (b before : List ℕ) → Each is_white b → (coded : Coded) (word behind : List ℕ) → b ++ t ≡ before ++ (word ++ behind) → IsEncodedWord coded word
        → length b ≤ length before
    by [] before w coded word behind e i = omega arith
    by (c ∷ b) [] w coded word behind e i = absurd (no_word_begins coded word behind (b ++ t) c w.0 e i)
    by (c ∷ b) (d ∷ before) w coded word behind e i =
        let f : b ++ t ≡ before ++ (word ++ behind) = cc in
        let n = by b before w.1 coded word behind f i in
        omega arith

none_in_empty : HasNone edges.White []
none_in_empty = λ coded before word behind e s. by before word behind e s.word.shape.whole
  where
    by : (before word behind : List ℕ) {x : List ℕ} → [] ≡ before ++ (word ++ behind) → word ≡ 61 ∷ x → ⊥
    by [] [] behind e f = absurd cc
    by [] (d ∷ word) behind e f = absurd cc
    by (a ∷ before) word behind e f = absurd cc

-- pieces with a space before each, as their line reads without its folds
abbrev pub spaced : List FieldPiece → List ℕ
spaced [] = []
spaced (p ∷ ps) = 32 ∷ (p.text ++ spaced ps)

begins_white : (ps : List FieldPiece) → BeginsAtEdge edges.White (spaced ps)
begins_white [] = tt
begins_white (p ∷ ps) = refl

space_is_white : Each is_white (32 ∷ [])
space_is_white = (refl, tt)

-- the spans of words after the first: with a run before them, their text is that of one run
record MoreRead (after : Bool) (value text : List ℕ) : Type 0 where
  spans : List Span
  are : AreSpans edges.White after spans value
  text_is : (run : List ℕ) → text_of_spans (InUtf8 run ∷ spans) ≡ text_of_words charset.Utf8 (run ++ text)

-- nothing after a run
no_more : (after : Bool) → MoreRead after [] []
no_more after = record {
  spans = Text [] ∷ [];
  are = Plain after [] none_in_empty;
  text_is = λ run. append-nil (text_of_words charset.Utf8 run) ∙ ap (text_of_words charset.Utf8) (sym (append-nil run));
}

-- a word more before a run
one_word_more : (run piece rest text : List ℕ) (spans : List Span) → text ≡ piece ++ rest
    → ((run : List ℕ) → text_of_spans (InUtf8 run ∷ spans) ≡ text_of_words charset.Utf8 (run ++ rest))
    → text_of_spans (InUtf8 run ∷ InUtf8 piece ∷ spans) ≡ text_of_words charset.Utf8 (run ++ text)
one_word_more run piece rest text spans e h =
    sym (longer_run run piece spans) ∙ h (run ++ piece) ∙ ap (text_of_words charset.Utf8) (append_assoc run piece rest ∙ ap (λ (u : List ℕ). run ++ u) (sym e))

-- ---- the words of a text

-- a piece of a text, that has whole characters, and one at least
record IsPieceOf (piece rest text : List ℕ) : Type 0 where
  whole : text ≡ piece ++ rest
  some : 0 < length piece
  characters : IsUtf8 piece
  behind : IsUtf8 rest

piece_of : (room : ℕ) (piece rest text : List ℕ) → Fits room piece rest text → IsPieceOf piece rest text
piece_of room [] rest text f = absurd (f.some refl)
piece_of room (c ∷ piece) rest text f = record { whole = f.whole; some = omega arith; characters = f.characters; behind = f.characters_behind }

next_piece : (line : Line) (piece rest text : List ℕ) → IsNextPiece line piece rest text → IsPieceOf piece rest text
next_piece line piece rest text (Behind b) = piece_of _ piece rest text b.is
next_piece line piece rest text (Below none b) = piece_of _ piece rest text b.is

word_of : (piece rest text : List ℕ) → IsPieceOf piece rest text → IsEncodedWord (said_by piece) (utf8_word piece)
word_of piece rest text p = word_is piece p.characters p.some

more_read : (line : Line) (text : List ℕ) (ps : List FieldPiece) → AreWordsBehind line text ps → MoreRead true (spaced ps) text
more_read _ _ _ (NoWord line) = no_more true
more_read _ _ _ (NextWord line piece rest text ps n a) =
    let p = next_piece line piece rest text n in
    let word = utf8_word piece in
    let more = spaced ps in
    let value = 32 ∷ (word ++ more) in
    let is : IsFirst edges.White (said_by piece) (32 ∷ []) word more value = record {
      whole = refl;
      stands = record { edge_before = white_edge true (32 ∷ []) refl space_is_white; word = word_of piece rest text p; edge_behind = begins_white ps };
      first = none_in_white (32 ∷ []) (word ++ more) space_is_white;
    } in
    let first : FirstEncodedWord edges.White value = record { coded = said_by piece; before = 32 ∷ []; word = word; behind = more; is = is } in
    let m = more_read (next_line line (word_piece piece)) rest ps a in
    record {
      spans = InUtf8 piece ∷ m.spans;
      are = subst (λ (u : List Span). AreSpans edges.White true (u ++ InUtf8 piece ∷ m.spans) value) (white_dropped (32 ∷ []) space_is_white) (Worded true m.spans value first m.are);
      text_is = λ run. one_word_more run piece rest text m.spans p.whole m.text_is;
    }

utf8_said : (text : List ℕ) → IsUtf8 text → text_of_words charset.Utf8 text ≡ filter is_printed text
utf8_said text u = ap (filter is_printed) (utf8_lossy-IsUtf8 text u)

-- without the space before the first word
abbrev pub behind_space : List FieldPiece → List ℕ
behind_space [] = []
behind_space (p ∷ ps) = p.text ++ spaced ps

pub words_read : (line : Line) (text : List ℕ) (ps : List FieldPiece) → AreWordsBehind line text ps → IsText false (behind_space ps) (filter is_printed text)
words_read _ _ _ (NoWord line) = record { spans = Text [] ∷ []; are = Plain false [] none_in_empty; text_is = refl }
words_read _ _ _ (NextWord line piece rest text ps n a) =
    let p = next_piece line piece rest text n in
    let word = utf8_word piece in
    let more = spaced ps in
    let is : IsFirst edges.White (said_by piece) [] word more (word ++ more) = record {
      whole = refl;
      stands = record { edge_before = refl; word = word_of piece rest text p; edge_behind = begins_white ps };
      first = none_yet edges.White (word ++ more);
    } in
    let first : FirstEncodedWord edges.White (word ++ more) = record { coded = said_by piece; before = []; word = word; behind = more; is = is } in
    let m = more_read (next_line line (word_piece piece)) rest ps a in
    let whole : IsUtf8 text = subst (λ (u : List ℕ). IsUtf8 u) (sym p.whole) (IsUtf8-append piece rest p.characters p.behind) in
    record {
      spans = Text [] ∷ InUtf8 piece ∷ m.spans;
      are = Worded false m.spans (word ++ more) first m.are;
      text_is = sym (utf8_said text whole) ∙ ap (text_of_words charset.Utf8) p.whole ∙ sym (m.text_is piece);
    }

-- ---- a word as a raw value

symbol_shown : (c : ℕ) → is_encoded c ≡ true → is_between 32 126 c ≡ true
symbol_shown c e = grind arith

word_shown : (piece : List ℕ) → IsUtf8 piece → Each (is_between 32 126) (utf8_word piece)
unfolding utf8_word
word_shown piece u =
    let coded = encode_of standard piece in
    let shown = each_widen is_encoded (is_between 32 126) coded symbol_shown (printed piece coded (reads_back piece (text_octets piece u))) in
    each_append (is_between 32 126) (codes "=?utf-8?B?") (coded ++ codes "?=") (list_all_each (is_between 32 126) (codes "=?utf-8?B?") refl)
    (each_append (is_between 32 126) coded (codes "?=") shown (list_all_each (is_between 32 126) (codes "?=") refl))

pub word_clean : (line : Line) (piece rest text : List ℕ) → IsNextPiece line piece rest text → IsClean (utf8_word piece)
word_clean line piece rest text n = clean_text (utf8_word piece) (word_shown piece (next_piece line piece rest text n).characters)
