-- Where a text is cut into words, and what its words are.
use Rattle.std.proofs.Common.{◌≡◌, ◌≢◌, ℕ, ◌+◌, ◌<◌, ◌≤◌, eqb, eqb-true, Bool, true, false, ◌&&◌, List, [], ◌∷◌, ◌++◌, length, take, drop, codes, IsUtf8, IsCharBoundary, replicate}
use Rattle.std.proofs.Common.{refl, sym, ap, ◌∙◌, subst, arith, inl, inr, flat_map}
use Rattle.std.proofs.lemmas.List.{append_assoc, append-nil, append_cancel_left, nil_from_length, length-append, length-replicate, take-append-drop, length-drop}
use Rattle.std.proofs.lemmas.List.Concat.{flat_map-append}
use Rattle.std.proofs.lemmas.Bool.{cases_lt, and_parts}
use Rattle.std.proofs.lemmas.Str.{IsUtf8-take, IsUtf8-drop, IsCharBoundary-at_seam, length-encode, len_utf8_bounds}
use Rattle.base64.specs.GeneralPurpose.{encode_of}
use Rattle.base64.specs.Engines.{standard}
use Rattle.base64.specs.Rfc4648.{encode_symbols, unpadded_len, padding_len}
use Rattle.base64.proofs.RoundTrip.{length-encode_symbols}
use lib.Utf8.{scalar, scalars, encode, encodes}
use Rattle.header_words.specs.WordList.{utf8_word, IsWordPiece, IsLongestPiece, FirstPiece, AreWords, NoneLeft, Next, joined, line_fold, IsWritten}
use Rattle.header_words.proofs.WordLemmas.{same_length}

-- base64 of n octets
encoded_len : (m : List ℕ) → length (encode_of standard m) ≡ unpadded_len (length m) + padding_len (length m)
encoded_len m =
    omega (
      arith,
      length-append (encode_symbols standard.encode_table m)
          (replicate (padding_len (length m)) 61),
      length-encode_symbols standard.encode_table m,
      length-replicate {A = ℕ} (padding_len (length m)) 61,
    )

word_len : (m : List ℕ) → length (utf8_word m) ≡ 12 + (unpadded_len (length m) + padding_len (length m))
unfolding utf8_word
word_len m = omega (arith, length-append (codes "=?utf-8?B?") (encode_of standard m ++ codes "?="), length-append (encode_of standard m) (codes "?="), encoded_len m)

-- a word has at most 75 octets exactly where it stands for at most 45
pub few_fit : (m : List ℕ) → length m ≤ 45 → length (utf8_word m) ≤ 75
few_fit m le = let e = word_len m in omega arith

-- a word of at most 75 octets stands for at most 45
pub fit_few : (m : List ℕ) → length (utf8_word m) ≤ 75 → length m ≤ 45
fit_few m le = let e = word_len m in omega arith

-- the last place within 45 octets where the text may be cut ends the longest piece
pub longest_here : (text : List ℕ) (n : ℕ) → IsUtf8 text → n ≤ 45 → IsCharBoundary text n → ((i : ℕ) → n < i → i ≤ 45 → IsCharBoundary text i → ⊥)
    → IsLongestPiece (take n text) (drop n text) text
longest_here text n u le at nearest =
    let len : length (take n text) ≡ n = omega (arith, at.0, ap length (take-append-drop n text), length-append (take n text) (drop n text), length-drop n text) in
    record {
      is = record {
        whole = sym (take-append-drop n text);
        characters = IsUtf8-take text n u at;
        characters_behind = IsUtf8-drop text n u at;
        fits = few_fit (take n text)
            (omega arith);
      };
      longest = λ other behind p. elim (cases_lt n (length other)) [
        | inl more ↦ absurd (nearest (length other) more (fit_few other p.fits) (IsCharBoundary-at_seam text other behind p.whole p.characters_behind))
        | inr no_more ↦ omega arith
      ];
    }

-- a text that isn't empty begins with a character
record BeginsWithChar (text : List ℕ) : Type 0 where
  char : ℕ
  rest : List ℕ
  whole : text ≡ encode char ++ rest
  characters : IsUtf8 (encode char)
  characters_behind : IsUtf8 rest

begins : (text : List ℕ) → IsUtf8 text → text ≢ [] → BeginsWithChar text
begins text ([], u) n = absurd (n (sym u.1))
begins text (c ∷ cs, u) n =
    let p = and_parts (scalar c) (scalars cs) u.0 in
    record { char = c; rest = encodes cs; whole = sym u.1; characters = (c ∷ [], (ap (λ (b : Bool). b && true) p.0, append-nil (encode c))); characters_behind = (cs, (p.1, refl)) }

first_piece : (text : List ℕ) → (b : BeginsWithChar text) → IsWordPiece (encode b.char) b.rest text
first_piece text b = record {
  whole = b.whole;
  characters = b.characters;
  characters_behind = b.characters_behind;
  fits = few_fit (encode b.char)
      (omega (arith, length-encode b.char, (len_utf8_bounds b.char).1));
}

-- so the longest piece isn't empty
pub longest_some : (piece rest text : List ℕ) → IsUtf8 text → text ≢ [] → IsLongestPiece piece rest text → 0 < length piece
longest_some piece rest text u n l =
    let b = begins text u n in
    let e = l.longest (encode b.char) b.rest (first_piece text b) in
    omega (arith, length-encode b.char, (len_utf8_bounds b.char).0)

-- what follows the longest piece of a text that isn't empty is shorter than the text
pub shorter : (piece rest text : List ℕ) → IsUtf8 text → IsLongestPiece piece rest text → 0 < length text → length rest < length text
shorter piece rest text u l some =
    let n : text ≢ [] = λ e. omega (arith, ap length e) in
    let p = longest_some piece rest text u n l in
    omega (arith, ap length l.is.whole, length-append piece rest)

-- ---- the words written so far

-- a text whose length is 0 is empty
pub is_empty : (t : List ℕ) → eqb (length t) 0 ≡ true → t ≡ []
is_empty t e = nil_from_length t (eqb-true (length t) 0 e)

-- a text whose length isn't 0 has an octet at least
pub is_some : (t : List ℕ) → eqb (length t) 0 ≡ false → 0 < length t
is_some [] e = absurd cc
is_some (c ∷ t) e = omega arith

-- the opening of a word, the base64 of a piece and the closing, written one after another, are the word of the piece
pub pushed : (old begun encoded ended piece : List ℕ) → begun ≡ old ++ codes "=?utf-8?B?" → encoded ≡ begun ++ encode_of standard piece → ended ≡ encoded ++ codes "?="
    → ended ≡ old ++ utf8_word piece
unfolding utf8_word
pushed old begun encoded ended piece e f g =
    g ∙ ap (λ (u : List ℕ). u ++ codes "?=") (f ∙ ap (λ (u : List ℕ). u ++ encode_of standard piece) e)
    ∙ append_assoc (old ++ codes "=?utf-8?B?") (encode_of standard piece) (codes "?=")
    ∙ append_assoc old (codes "=?utf-8?B?") (encode_of standard piece ++ codes "?=")

abbrev fold_before : List ℕ → List ℕ
fold_before w = 13 ∷ 10 ∷ 32 ∷ w

folded_more : (first : List ℕ) (words : List (List ℕ)) (w : List ℕ) → joined line_fold (first ∷ (words ++ w ∷ [])) ≡ joined line_fold (first ∷ words) ++ (13 ∷ 10 ∷ 32 ∷ w)
folded_more first words w =
    ap (λ (u : List ℕ). first ++ u) (flat_map-append fold_before words (w ∷ []) ∙ ap (λ (u : List ℕ). flat_map fold_before words ++ u) (append-nil (fold_before w)))
    ∙ sym (append_assoc first (flat_map fold_before words) (fold_before w))

-- words were written, and those of the rest go after them
pub record Begun (value rest text : List ℕ) : Type 0 where
  pub first : List ℕ
  pub words : List (List ℕ)
  pub folds : value ≡ joined line_fold (first ∷ words)
  pub goes : (more : List (List ℕ)) → AreWords more rest → AreWords (first ∷ (words ++ more)) text

-- where the word of the longest piece of a text is written, the words of the rest go after it
pub begun : (piece rest text value : List ℕ) → 0 < length text → IsLongestPiece piece rest text → value ≡ utf8_word piece → Begun value rest text
begun piece rest text value some l e = record {
  first = utf8_word piece;
  words = [];
  folds = e ∙ sym (append-nil (utf8_word piece));
  goes = λ more a. Next text more (record { piece = piece; rest = rest; some = λ n. omega (arith, ap length n); longest = l }) a;
}

-- where a line fold and the word of the longest piece of the rest are written, the words of what is then left go after it
pub one_more : (piece behind value rest text new : List ℕ) → 0 < length rest → Begun value rest text → IsLongestPiece piece behind rest
    → new ≡ (value ++ (13 ∷ 10 ∷ 32 ∷ [])) ++ utf8_word piece → Begun new behind text
one_more piece behind value rest text new some b l e = record {
  first = b.first;
  words = b.words ++ utf8_word piece ∷ [];
  folds = e ∙ append_assoc value (13 ∷ 10 ∷ 32 ∷ []) (utf8_word piece) ∙ ap (λ (u : List ℕ). u ++ (13 ∷ 10 ∷ 32 ∷ utf8_word piece)) b.folds
      ∙ sym (folded_more b.first b.words (utf8_word piece));
  goes = λ more a.
      let first : FirstPiece rest = record { piece = piece; rest = behind; some = λ n. omega (arith, ap length n); longest = l } in
      let w = b.goes (utf8_word piece ∷ more) (Next rest more first a) in
      subst (λ (u : List (List ℕ)). AreWords (b.first ∷ u) text) (sym (append_assoc b.words (utf8_word piece ∷ []) more)) w;
}

-- where nothing is left, the value is what the text is written as
pub all_written : (value rest text : List ℕ) → rest ≡ [] → Begun value rest text → IsWritten text value
all_written value rest text e b = record {
  words = b.first ∷ b.words;
  are = subst (λ (u : List (List ℕ)). AreWords (b.first ∷ u) text) (append-nil b.words) (b.goes [] (subst (λ (u : List ℕ). AreWords [] u) (sym e) NoneLeft));
  folds = b.folds;
}

-- the empty text is written as the empty value
pub none_written : (value text : List ℕ) → text ≡ [] → value ≡ [] → IsWritten text value
none_written value text e f = record { words = []; are = subst (λ (u : List ℕ). AreWords [] u) (sym e) NoneLeft; folds = f }

-- ---- a text is written in one way

record SamePiece (p q r s : List ℕ) : Type 0 where
  piece : p ≡ q
  rest : r ≡ s

one_piece : (p q r s text : List ℕ) → IsLongestPiece p r text → IsLongestPiece q s text → SamePiece p q r s
one_piece p q r s text a b =
    let e : p ++ r ≡ q ++ s = sym a.is.whole ∙ b.is.whole in
    let m = a.longest q s b.is in
    let n = b.longest p r a.is in
    let f = same_length p q r s e (omega arith) in
    record { piece = f; rest = append_cancel_left q r s (ap (λ (u : List ℕ). u ++ r) (sym f) ∙ e) }

same_words : (text : List ℕ) (v w : List (List ℕ)) → AreWords v text → AreWords w text → v ≡ w
same_words _ _ _ NoneLeft NoneLeft = refl
same_words _ _ _ NoneLeft (Next _ w f a) = absurd (f.some refl)
same_words _ _ _ (Next _ w f a) NoneLeft = absurd (f.some refl)
same_words _ _ _ (Next text v f a) (Next _ w g b) =
    let o = one_piece f.piece g.piece f.rest g.rest text f.longest g.longest in
    ap (λ (u : List ℕ). utf8_word u ∷ v) o.piece
    ∙ ap (λ (u : List (List ℕ)). utf8_word g.piece ∷ u) (same_words f.rest v w a (subst (λ (u : List ℕ). AreWords w u) (sym o.rest) b))

-- two values that a text is written as are the same
pub one_writing : (text s t : List ℕ) → IsWritten text s → IsWritten text t → s ≡ t
one_writing text s t a b = a.folds ∙ ap (joined line_fold) (same_words text a.words b.words a.are b.are) ∙ sym b.folds
