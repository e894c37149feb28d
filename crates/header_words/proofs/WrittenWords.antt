-- What a text is written as reads as the text.
use Rattle.std.proofs.Common.{◌≡◌, ◌≢◌, ℕ, ◌+◌, ◌/◌, ◌%◌, ◌<◌, ◌≤◌, ltb, cond, not, ◌&&◌, Bool, true, false, List, [], ◌∷◌, ◌++◌, length, codes, IsUtf8, flat_map, refl, sym, ap}
use Rattle.std.proofs.Common.{◌∙◌, subst, arith, inl, inr}
use Rattle.std.proofs.lemmas.List.{append_assoc, append-nil}
use Rattle.std.proofs.lemmas.Bool.{and_parts, lt-ltb}
use Rattle.std.proofs.lemmas.Str.{IsUtf8-append, utf8_lossy-IsUtf8}
use Rattle.base64.specs.GeneralPurpose.{encode_of}
use Rattle.base64.specs.Engines.{standard}
use lib.Utf8.{scalar, scalars, encode, encodes, scalar_cases}
use Rattle.text_words.specs.Cuts.{Each, IsRun, front}
use Rattle.text_words.specs.Octets.{is_white}
use Rattle.text_words.proofs.CutLemmas.{each_append, each_list_all}
use Rattle.header_words.specs.Base64.{is_symbol, is_equals_sign, IsBase64}
use Rattle.header_words.specs.Charsets.{charset_of}
use Rattle.header_words.specs.declared.charset.Charset.TheVariants as charset
use Rattle.std.specs.List.{filter}
use Rattle.header_words.specs.EncodedWords.{is_encoded, InBase64, HasShape, charset_name, Coded, IsEncodedWord, is_edge, ends_at_edge, BeginsAtEdge, kept, NoneBefore, HasNone, IsFirst}
use Rattle.header_words.specs.EncodedWords.{FirstEncodedWord, IsText, Span, Text, InUtf8, AreSpans, Plain, Worded, is_printed, text_of_words, text_of_spans}
use Rattle.header_words.specs.declared.encoded_word.Edges.TheVariants as edges
use Rattle.header_words.proofs.SpanLemmas.{longer_run}
use Rattle.header_words.specs.WordList.{utf8_word, IsWordPiece, IsLongestPiece, AreWords, NoneLeft, Next, joined, line_fold, IsWritten}
use Rattle.header_words.proofs.WordLemmas.{none_yet}
use Rattle.header_words.proofs.WordListLemmas.{longest_some}
use Rattle.header_words.proofs.WrittenBase64.{is_octet, reads_back}

-- ---- the octets of a text

small : (n : ℕ) → n < 256 → is_octet n ≡ true
small n lt = lt-ltb n 256 lt

char_octets : (c : ℕ) → c < 1114112 → Each is_octet (encode c)
unfolding encode
char_octets c lt = by (ltb c 128) (ltb c 2048) (ltb c 65536) refl refl refl
  where
    by : (p q r : Bool) → ltb c 128 ≡ p → ltb c 2048 ≡ q → ltb c 65536 ≡ r
        → Each is_octet (cond p (c ∷ [])
        (cond q ((192 + c / 64) ∷ (128 + c % 64) ∷ [])
        (cond r ((224 + c / 4096) ∷ (128 + c / 64 % 64) ∷ (128 + c % 64) ∷ []) ((240 + c / 262144) ∷ (128 + c / 4096 % 64) ∷ (128 + c / 64 % 64) ∷ (128 + c % 64) ∷ []))))
    by true q r e f g = (grind arith, tt)
    by false true r e f g = (small _ (grind arith), (small _ (omega arith), tt))
    by false false true e f g = (small _ (grind arith), (small _ (omega arith), (small _ (omega arith), tt)))
    by false false false e f g = (small _ (omega arith), (small _ (omega arith), (small _ (omega arith), (small _ (omega arith), tt))))

scalar_below : (c : ℕ) → scalar c ≡ true → c < 1114112
scalar_below c e = elim (scalar_cases c e) [ inl h ↦ omega (arith, h) | inr h ↦ h.1 ]

chars_octets : (cs : List ℕ) → scalars cs ≡ true → Each is_octet (encodes cs)
chars_octets [] e = tt
chars_octets (c ∷ cs) e =
    let p = and_parts (scalar c) (scalars cs) e in
    each_append is_octet (encode c) (encodes cs) (char_octets c (scalar_below c p.0)) (chars_octets cs p.1)

text_octets : (t : List ℕ) → IsUtf8 t → Each is_octet t
text_octets t (cs, u) = let P : List ℕ → Type 0 = λ x. Each is_octet x in subst P u.1 (chars_octets cs u.0)

-- ---- one word

each_widen : (p q : ℕ → Bool) (t : List ℕ) → ((c : ℕ) → p c ≡ true → q c ≡ true) → Each p t → Each q t
each_widen p q [] w e = tt
each_widen p q (c ∷ t) w e = (w c e.0, each_widen p q t w e.1)

symbol_printed : (c : ℕ) → is_symbol c ≡ true → is_encoded c ≡ true
symbol_printed c e = grind arith

equals_printed : (c : ℕ) → is_equals_sign c ≡ true → is_encoded c ≡ true
equals_printed c e = grind arith

printed : (octets t : List ℕ) → IsBase64 octets t → Each is_encoded t
printed octets t b =
    let P : List ℕ → Type 0 = λ x. Each is_encoded x in
    subst P (sym b.whole) (each_append is_encoded b.symbols b.padding (each_widen is_symbol is_encoded b.symbols symbol_printed b.alphabet)
    (each_widen is_equals_sign is_encoded b.padding equals_printed b.equals))

some_spelled : (octets t : List ℕ) → IsBase64 octets t → 0 < length octets → t ≢ []
some_spelled octets t b some e = none b.symbols b.padding (sym b.whole ∙ e) b.are
  where
    none : (s p : List ℕ) → s ++ p ≡ [] → octets ≡ Rattle.header_words.specs.Base64.spelled_octets s → ⊥
    none [] p f a = omega (arith, ap length a)
    none (c ∷ s) p f a = absurd cc

word_shape : (piece text : List ℕ) → text ≡ encode_of standard piece → Each is_encoded text → HasShape (codes "utf-8") 66 text [] (utf8_word piece)
unfolding utf8_word
word_shape piece text e r = record {
  whole = ap (λ (u : List ℕ). codes "=?utf-8?B?" ++ (u ++ codes "?=")) (sym e);
  token = (grind arith, λ n. absurd cc);
  printed = r;
}

utf8_name : charset_of (charset_name (codes "utf-8")) ≡ charset.Utf8
unfolding front
utf8_name = refl

utf8_named : charset_name (codes "utf-8") ≢ []
unfolding front
utf8_named = λ e. absurd cc

-- what the word of a piece spells
abbrev said_by : List ℕ → Coded
said_by piece = record { charset = charset.Utf8; octets = piece }

-- the word of a piece stands for the piece
word_is : (piece : List ℕ) → IsUtf8 piece → 0 < length piece → IsEncodedWord (said_by piece) (utf8_word piece)
word_is piece u some =
    let b = reads_back piece (text_octets piece u) in
    record {
      charset = codes "utf-8";
      letter = 66;
      text = encode_of standard piece;
      shape = word_shape piece (encode_of standard piece) refl (printed piece (encode_of standard piece) b);
      named = utf8_named;
      spelled = InBase64 refl b;
      known = sym utf8_name;
    }

-- ---- the words of a text

text_is : (piece rest text : List ℕ) → IsWordPiece piece rest text → IsUtf8 text
text_is piece rest text p = subst (λ (u : List ℕ). IsUtf8 u) (sym p.whole) (IsUtf8-append piece rest p.characters p.characters_behind)

longest_is : (piece rest text : List ℕ) → text ≢ [] → IsLongestPiece piece rest text → IsEncodedWord (said_by piece) (utf8_word piece)
longest_is piece rest text n l = word_is piece l.is.characters (longest_some piece rest text (text_is piece rest text l.is) n l)

white_is_edge : (c : ℕ) → is_white c ≡ true → is_edge edges.White c ≡ true
white_is_edge c e = grind arith

white_edge : (edge : Bool) (b : List ℕ) → edge ≡ true → Each is_white b → ends_at_edge edges.White edge b ≡ true
white_edge edge [] e w = e
white_edge edge (c ∷ b) e w = white_edge (is_edge edges.White c) b (white_is_edge c w.0) w.1

white_dropped : (b : List ℕ) → Each is_white b → kept true b ≡ []
white_dropped b w = ap (λ (q : Bool). cond (true && q) [] (Text b ∷ [])) (each_list_all is_white b w)

-- no word begins with white space
no_word_begins : (coded : Coded) (word behind t : List ℕ) (c : ℕ) → is_white c ≡ true → c ∷ t ≡ word ++ behind → IsEncodedWord coded word → ⊥
no_word_begins coded word behind t c w e i = let f = head_is word behind i.shape.whole e in absurd (grind arith)
  where
    head_is : (w b : List ℕ) {x : List ℕ} → w ≡ 61 ∷ x → c ∷ t ≡ w ++ b → c ≡ 61
    head_is [] b f e = absurd cc
    head_is (d ∷ w) b f e = cc

none_in_white : (b t : List ℕ) → Each is_white b → NoneBefore edges.White (length b) (b ++ t)
none_in_white b t w = λ coded before word behind e s. by b before w coded word behind e s.word
  where
    by : (b before : List ℕ) → Each is_white b → (coded : Coded) (word behind : List ℕ) → b ++ t ≡ before ++ (word ++ behind) → IsEncodedWord coded word
        → length b ≤ length before
    by [] before w coded word behind e i = omega arith
    by (c ∷ b) [] w coded word behind e i = absurd (no_word_begins coded word behind (b ++ t) c w.0 e i)
    by (c ∷ b) (d ∷ before) w coded word behind e i =
        let f : b ++ t ≡ before ++ (word ++ behind) = cc in
        let n = by b before w.1 coded word behind f i in
        omega arith

none_in_empty : HasNone edges.White []
none_in_empty = λ coded before word behind e s. by before word behind e s.word.shape.whole
  where
    by : (before word behind : List ℕ) {x : List ℕ} → [] ≡ before ++ (word ++ behind) → word ≡ 61 ∷ x → ⊥
    by [] [] behind e f = absurd cc
    by [] (d ∷ word) behind e f = absurd cc
    by (a ∷ before) word behind e f = absurd cc

-- the words after the first
abbrev more_words : List ℕ → List (List ℕ) → List ℕ
more_words between words = flat_map (λ (w : List ℕ). between ++ w) words

begins_white : (between : List ℕ) (words : List (List ℕ)) → IsRun is_white between → BeginsAtEdge edges.White (more_words between words)
begins_white between [] r = tt
begins_white [] (w ∷ words) r = absurd (r.1 refl)
begins_white (c ∷ between) (w ∷ words) r = ap not (white_is_edge c r.0.0)

-- the spans of words after the first: with a run before them, their text is that of one run
record MoreRead (after : Bool) (value text : List ℕ) : Type 0 where
  spans : List Span
  are : AreSpans edges.White after spans value
  text_is : (run : List ℕ) → text_of_spans (InUtf8 run ∷ spans) ≡ text_of_words charset.Utf8 (run ++ text)

-- nothing after a run
no_more : (after : Bool) → MoreRead after [] []
no_more after = record {
  spans = Text [] ∷ [];
  are = Plain after [] none_in_empty;
  text_is = λ run. append-nil (text_of_words charset.Utf8 run) ∙ ap (text_of_words charset.Utf8) (sym (append-nil run));
}

-- a word more before a run
one_word_more : (run piece rest text : List ℕ) (spans : List Span) → text ≡ piece ++ rest
    → ((run : List ℕ) → text_of_spans (InUtf8 run ∷ spans) ≡ text_of_words charset.Utf8 (run ++ rest))
    → text_of_spans (InUtf8 run ∷ InUtf8 piece ∷ spans) ≡ text_of_words charset.Utf8 (run ++ text)
one_word_more run piece rest text spans e h =
    sym (longer_run run piece spans) ∙ h (run ++ piece) ∙ ap (text_of_words charset.Utf8) (append_assoc run piece rest ∙ ap (λ (u : List ℕ). run ++ u) (sym e))

more_read : (between : List ℕ) (words : List (List ℕ)) (text : List ℕ) → IsRun is_white between → AreWords words text → MoreRead true (more_words between words) text
more_read between _ _ r NoneLeft = no_more true
more_read between _ _ r (Next text words f a) =
    let word = utf8_word f.piece in
    let more = more_words between words in
    let value = (between ++ word) ++ more in
    let same : value ≡ between ++ (word ++ more) = append_assoc between word more in
    let is : IsFirst edges.White (said_by f.piece) between word more value = record {
      whole = same;
      stands = record {
        edge_before = white_edge true between refl r.0;
        word = longest_is f.piece f.rest text f.some f.longest;
        edge_behind = begins_white between words r;
      };
      first = subst (λ (u : List ℕ). NoneBefore edges.White (length between) u) (sym same) (none_in_white between (word ++ more) r.0);
    } in
    let first : FirstEncodedWord edges.White value = record { coded = said_by f.piece; before = between; word = word; behind = more; is = is } in
    let m = more_read between words f.rest r a in
    record {
      spans = InUtf8 f.piece ∷ m.spans;
      are = subst (λ (u : List Span). AreSpans edges.White true (u ++ InUtf8 f.piece ∷ m.spans) value) (white_dropped between r.0) (Worded true m.spans value first m.are);
      text_is = λ run. one_word_more run f.piece f.rest text m.spans f.longest.is.whole m.text_is;
    }

-- the text of octets in UTF-8 is what they spell, without control characters
utf8_said : (text : List ℕ) → IsUtf8 text → text_of_words charset.Utf8 text ≡ filter is_printed text
utf8_said text u = ap (filter is_printed) (utf8_lossy-IsUtf8 text u)

-- the words of a text, with the same white space between each two, read as the text without its control characters
pub words_read : (between : List ℕ) (words : List (List ℕ)) (text : List ℕ) → IsRun is_white between → AreWords words text
    → IsText false (joined between words) (filter is_printed text)
words_read between _ _ r NoneLeft = record { spans = Text [] ∷ []; are = Plain false [] none_in_empty; text_is = refl }
words_read between _ _ r (Next text words f a) =
    let word = utf8_word f.piece in
    let more = more_words between words in
    let is : IsFirst edges.White (said_by f.piece) [] word more (word ++ more) = record {
      whole = refl;
      stands = record { edge_before = refl; word = longest_is f.piece f.rest text f.some f.longest; edge_behind = begins_white between words r };
      first = none_yet edges.White (word ++ more);
    } in
    let first : FirstEncodedWord edges.White (word ++ more) = record { coded = said_by f.piece; before = []; word = word; behind = more; is = is } in
    let m = more_read between words f.rest r a in
    record {
      spans = Text [] ∷ InUtf8 f.piece ∷ m.spans;
      are = Worded false m.spans (word ++ more) first m.are;
      text_is = sym (utf8_said text (text_is f.piece f.rest text f.longest.is))
          ∙ ap (text_of_words charset.Utf8) f.longest.is.whole ∙ sym (m.text_is f.piece);
    }

fold_is_white : IsRun is_white line_fold
fold_is_white = ((refl, (refl, (refl, tt))), λ n. absurd cc)

-- what a text is written as, with line folds between its words, reads as the text without its control characters
pub written_reads : (text value : List ℕ) → IsWritten text value → IsText false value (filter is_printed text)
written_reads text value w = subst (λ (u : List ℕ). IsText false u (filter is_printed text)) (sym w.folds) (words_read line_fold w.words text fold_is_white w.are)
