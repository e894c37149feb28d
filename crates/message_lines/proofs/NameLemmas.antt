-- Names that are words with one space between two.
use Rattle.std.proofs.Common.{◌≡◌, ℕ, Bool, true, false, not, ◌&&◌, ◌==◌, eqb-true, cond, List, [], ◌∷◌, ◌++◌, map, length, take, drop, ◌-◌, ◌<◌, ◌≤◌, refl, sym, ap, ◌∙◌, subst, arith}
use Rattle.std.specs.List.{list_all}
use Rattle.std.proofs.lemmas.List.{take_all, length-drop}
use Rattle.text_words.specs.Cuts.{front, back}
use Rattle.message_lines.specs.declared.folding.Line.{Line}
use Rattle.message_lines.specs.Folding.{FieldPiece, plain_piece, laid, line_after, next_line, Lays}
use Rattle.message_lines.specs.Names.{is_word_octet, is_no_space, words_of, onto_first, is_plain_word, are_plain_words, is_plain_phrase, IsNameText, PlainName, EncodedName}
use Rattle.message_lines.specs.Words.{AreWordsBehind}
use Rattle.message_lines.proofs.LineLemmas.{Goes, goes_on, goes_end}

-- the test of a name from an octet on, where a word stands before it or not
abbrev pub phrase_from : Bool → List ℕ → Bool
phrase_from behind_word [] = behind_word
phrase_from behind_word (c ∷ t) = cond (is_word_octet c) (phrase_from true t) (cond ((c == 32) && behind_word) (phrase_from false t) false)

-- the words behind a space, and none where nothing is left
abbrev pub words_behind : List ℕ → List (List ℕ)
words_behind [] = []
words_behind (c ∷ t) = words_of t

-- a word at the front, and the words behind it
pub words_cut : (t : List ℕ) → words_of t ≡ front is_no_space t ∷ words_behind (back is_no_space t)
unfolding front back
words_cut [] = refl
words_cut (c ∷ t) = by (c == 32) (words_cut t)
  where
    by : (b : Bool) → words_of t ≡ front is_no_space t ∷ words_behind (back is_no_space t)
        → cond b ([] ∷ words_of t) (onto_first c (words_of t)) ≡ cond (not b) (c ∷ front is_no_space t) [] ∷ words_behind (cond (not b) (back is_no_space t) (c ∷ t))
    by true e = refl
    by false e = ap (onto_first c) e

-- the words where the first may be empty, as one stands before it
abbrev are_behind : List (List ℕ) → Bool
are_behind [] = false
are_behind (w ∷ ws) = list_all is_word_octet w && list_all is_plain_word ws

space_is_no_word : (c : ℕ) → (c == 32) ≡ true → is_word_octet c ≡ false
space_is_no_word c e = ap is_word_octet (eqb-true c 32 e)

onto : (c : ℕ) (w : List ℕ) (ws : List (List ℕ)) → list_all is_plain_word (onto_first c (w ∷ ws)) ≡ (is_word_octet c && are_behind (w ∷ ws))
onto c w ws = by (is_word_octet c)
  where
    by : (b : Bool) → ((b && list_all is_word_octet w) && list_all is_plain_word ws) ≡ (b && (list_all is_word_octet w && list_all is_plain_word ws))
    by true = refl
    by false = refl

behind_onto : (c : ℕ) (w : List ℕ) (ws : List (List ℕ)) → are_behind (onto_first c (w ∷ ws)) ≡ (is_word_octet c && are_behind (w ∷ ws))
behind_onto c w ws = by (is_word_octet c)
  where
    by : (b : Bool) → ((b && list_all is_word_octet w) && list_all is_plain_word ws) ≡ (b && (list_all is_word_octet w && list_all is_plain_word ws))
    by true = refl
    by false = refl

and_cond : (b x y : Bool) → x ≡ y → (b && x) ≡ cond b y false
and_cond true x y e = e
and_cond false x y e = refl

-- the two tests of a text
record Tests (t : List ℕ) : Type 0 where
  alone : list_all is_plain_word (words_of t) ≡ phrase_from false t
  behind : are_behind (words_of t) ≡ phrase_from true t

tests : (t : List ℕ) → Tests t
tests [] = record { alone = refl; behind = refl }
tests (c ∷ t) = record { alone = first (c == 32) refl (tests t); behind = second (c == 32) refl (tests t) }
  where
    first : (b : Bool) → (c == 32) ≡ b → Tests t
        → list_all is_plain_word (cond b ([] ∷ words_of t) (onto_first c (words_of t))) ≡ cond (is_word_octet c) (phrase_from true t) (cond (b && false) (phrase_from false t) false)
    first true e r = ap (λ (b : Bool). cond b (phrase_from true t) false) (sym (space_is_no_word c e))
    first false e r =
        let w = front is_no_space t in
        let ws = words_behind (back is_no_space t) in
        ap (λ (u : List (List ℕ)). list_all is_plain_word (onto_first c u)) (words_cut t) ∙ onto c w ws
        ∙ and_cond (is_word_octet c) (are_behind (w ∷ ws)) (phrase_from true t) (ap are_behind (sym (words_cut t)) ∙ r.behind)

    second : (b : Bool) → (c == 32) ≡ b → Tests t
        → are_behind (cond b ([] ∷ words_of t) (onto_first c (words_of t))) ≡ cond (is_word_octet c) (phrase_from true t) (cond (b && true) (phrase_from false t) false)
    second true e r = r.alone ∙ ap (λ (b : Bool). cond b (phrase_from true t) (phrase_from false t)) (sym (space_is_no_word c e))
    second false e r =
        let w = front is_no_space t in
        let ws = words_behind (back is_no_space t) in
        ap (λ (u : List (List ℕ)). are_behind (onto_first c u)) (words_cut t) ∙ behind_onto c w ws
        ∙ and_cond (is_word_octet c) (are_behind (w ∷ ws)) (phrase_from true t) (ap are_behind (sym (words_cut t)) ∙ r.behind)

-- a name is a phrase exactly where the test from its front says so
pub phrase_test : (t : List ℕ) → are_plain_words t ≡ phrase_from false t
phrase_test t = (tests t).alone

-- ---- what is written

-- the words behind a space
pub behind_space : (t : List ℕ) → 1 ≤ length t → words_behind t ≡ words_of (drop 1 t)
behind_space [] some = absurd (omega arith)
behind_space (c ∷ t) some = refl

-- what stands behind the first octet
pub tail_is : (t : List ℕ) → take (length t - 1) (drop 1 t) ≡ drop 1 t
tail_is t = take_all (length t - 1) (drop 1 t) (omega (arith, length-drop 1 t))

back_len : (t : List ℕ) → length (back is_no_space t) ≤ length t
unfolding back
back_len [] = omega arith
back_len (c ∷ t) = by (is_no_space c) (back_len t)
  where
    by : (b : Bool) → length (back is_no_space t) ≤ length t → length (cond b (back is_no_space t) (c ∷ t)) ≤ length (c ∷ t)
    by true le = omega arith
    by false le = omega arith

-- what follows a space and a word is shorter
pub shorter_behind : (t more : List ℕ) → 1 ≤ length t → more ≡ back is_no_space (drop 1 t) → length more < length t
shorter_behind [] more some e = absurd (omega arith)
shorter_behind (c ∷ t) more some e = omega (arith, ap length e, back_len t)

-- a word is written, and those behind it are left
pub word_written : (Whole : List FieldPiece → Type 0) (begun : Line) (before : List ℕ) (line after : Line) (text new name word more : List ℕ)
    → Goes Whole (λ (ps : List FieldPiece). ps ≡ map plain_piece (words_of name)) begun before line text → word ≡ front is_no_space name → more ≡ back is_no_space name
    → new ≡ text ++ laid line (plain_piece word ∷ []) → after ≡ next_line line (plain_piece word)
    → Goes Whole (λ (ps : List FieldPiece). ps ≡ map plain_piece (words_behind more)) begun before after new
unfolding line_after
word_written Whole begun before line after text new name word more g e f h k =
    let cut : words_of name ≡ word ∷ words_behind more =
    words_cut name ∙ ap (λ (w : List ℕ). w ∷ words_behind (back is_no_space name)) (sym e) ∙ ap (λ (r : List ℕ). word ∷ words_behind r) (sym f) in
    goes_on Whole (λ (ps : List FieldPiece). ps ≡ map plain_piece (words_of name)) (λ (ps : List FieldPiece). ps ≡ map plain_piece (words_behind more)) begun before line after text new
    (plain_piece word ∷ []) g h k (λ qs a. ap (λ (ps : List FieldPiece). plain_piece word ∷ ps) a ∙ sym (ap (map plain_piece) cut))

-- no word is left
pub words_end : (name before : List ℕ) (line after : Line) (text rest : List ℕ)
    → Goes (λ (ps : List FieldPiece). ps ≡ map plain_piece (words_of name)) (λ (ps : List FieldPiece). ps ≡ map plain_piece (words_behind rest)) line before after text → rest ≡ []
    → (text ≡ before ++ laid line (map plain_piece (words_of name))) × (after ≡ line_after line (map plain_piece (words_of name)))
words_end name before line after text rest g e =
    let h = goes_end (λ (ps : List FieldPiece). ps ≡ map plain_piece (words_of name)) (λ (ps : List FieldPiece). ps ≡ map plain_piece (words_behind rest)) line before after text g
    (sym (ap (λ (r : List ℕ). map plain_piece (words_behind r)) e)) in (
      subst (λ (ps : List FieldPiece). text ≡ before ++ laid line ps) h.are h.text_is,
      subst (λ (ps : List FieldPiece). after ≡ line_after line ps) h.are h.line_is,
    )

-- a name by its words
pub plain_name : (line after : Line) (old new name tested written : List ℕ) → tested ≡ name → written ≡ name → is_plain_phrase tested ≡ true
    → (new ≡ old ++ laid line (map plain_piece (words_of written))) × (after ≡ line_after line (map plain_piece (words_of written))) → Lays (IsNameText line name) line old new after
plain_name line after old new name tested written e f p w = record {
  pieces = map plain_piece (words_of name);
  are = PlainName (subst (λ (t : List ℕ). is_plain_phrase t ≡ true) e p);
  text_is = w.0 ∙ ap (λ (t : List ℕ). old ++ laid line (map plain_piece (words_of t))) f;
  line_is = w.1 ∙ ap (λ (t : List ℕ). line_after line (map plain_piece (words_of t))) f;
}

-- a name as encoded words
pub encoded_name : (line after : Line) (old new name tested : List ℕ) → tested ≡ name → is_plain_phrase tested ≡ false → Lays (AreWordsBehind line name) line old new after
    → Lays (IsNameText line name) line old new after
encoded_name line after old new name tested e p w = record {
  pieces = w.pieces;
  are = EncodedName w.pieces (subst (λ (t : List ℕ). is_plain_phrase t ≡ false) e p) w.are;
  text_is = w.text_is;
  line_is = w.line_is;
}
