-- Where a text is cut into encoded words.
use Rattle.std.proofs.Common.{◌≡◌, ◌≢◌, ℕ, ◌+◌, ◌-◌, ◌*◌, ◌/◌, ◌<◌, ◌≤◌, List, [], ◌∷◌, ◌++◌, length, take, drop, codes, IsUtf8, IsCharBoundary, replicate, true}
use Rattle.std.proofs.Common.{refl, sym, ap, ◌∙◌, subst, arith, inl, inr}
use Rattle.std.proofs.lemmas.List.{length-append, length-replicate, take-append-drop, length-drop}
use Rattle.std.proofs.lemmas.Bool.{cases_lt}
use Rattle.std.proofs.lemmas.Str.{IsUtf8-take, IsUtf8-drop, IsCharBoundary-at_seam}
use Rattle.base64.specs.GeneralPurpose.{encode_of}
use Rattle.base64.specs.Engines.{standard}
use Rattle.base64.specs.Rfc4648.{encode_symbols, unpadded_len, padding_len}
use Rattle.base64.proofs.RoundTrip.{length-encode_symbols}
use Rattle.header_words.specs.WordList.{utf8_word, IsLongestPiece as IsLongestWord}
use Rattle.header_words.proofs.WordListLemmas.{longest_some, few_fit}
use Rattle.message_lines.specs.declared.folding.Line.{Line}
use Rattle.message_lines.specs.Folding.{FieldPiece, laid, line_after, next_line, Lays}
use Rattle.message_lines.specs.Words.{word_piece, FitsBest, FitsNot, IsCut, IsNextPiece, Behind, Below, AreWordsBehind, NoWord, NextWord}
use Rattle.message_lines.proofs.LineLemmas.{Goes, goes_on, goes_end}

encoded_len : (m : List ℕ) → length (encode_of standard m) ≡ unpadded_len (length m) + padding_len (length m)
encoded_len m =
    omega (
      arith,
      length-append (encode_symbols standard.encode_table m)
          (replicate (padding_len (length m)) 61),
      length-encode_symbols standard.encode_table m,
      length-replicate {A = ℕ} (padding_len (length m)) 61,
    )

word_len : (m : List ℕ) → length (utf8_word m) ≡ 12 + (unpadded_len (length m) + padding_len (length m))
unfolding utf8_word
word_len m = omega (arith, length-append (codes "=?utf-8?B?") (encode_of standard m ++ codes "?="), length-append (encode_of standard m) (codes "?="), encoded_len m)

some_len : (m : List ℕ) → m ≢ [] → 1 ≤ length m
some_len [] n = absurd (n refl)
some_len (c ∷ m) n = omega arith

-- one octet at least has room exactly where it is no more than three for each group of base64 that has room
few_fit_in : (room : ℕ) (m : List ℕ) → m ≢ [] → length m ≤ (room - 12) / 4 * 3 → length (utf8_word m) ≤ room
few_fit_in room m n le = omega (arith, word_len m, some_len m n)

fit_few_in : (room : ℕ) (m : List ℕ) → length (utf8_word m) ≤ room → length m ≤ (room - 12) / 4 * 3
fit_few_in room m le = omega (arith, word_len m)

-- the last place within so many octets where the text may be cut
pub cut_here : (room n : ℕ) (text : List ℕ) → IsUtf8 text → n ≤ (room - 12) / 4 * 3 → IsCharBoundary text n
    → ((i : ℕ) → n < i → i ≤ (room - 12) / 4 * 3 → IsCharBoundary text i → ⊥) → IsCut room (take n text) (drop n text) text
cut_here room n text u le at nearest =
    let len : length (take n text) ≡ n = omega (arith, at.0, ap length (take-append-drop n text), length-append (take n text) (drop n text), length-drop n text) in
    record {
      whole = sym (take-append-drop n text);
      characters = IsUtf8-take text n u at;
      characters_behind = IsUtf8-drop text n u at;
      fits = λ some. few_fit_in room (take n text) some (omega arith);
      longest = λ other behind f. elim (cases_lt n (length other)) [
        | inl more ↦ absurd (nearest (length other) more (fit_few_in room other f.fits) (IsCharBoundary-at_seam text other behind f.whole f.characters_behind))
        | inr no_more ↦ omega arith
      ];
    }

best_of : (room : ℕ) (piece rest text : List ℕ) → IsCut room piece rest text → piece ≢ [] → FitsBest room piece rest text
best_of room piece rest text c some = record {
  is = record { whole = c.whole; some = some; characters = c.characters; characters_behind = c.characters_behind; fits = c.fits some };
  longest = c.longest;
}

-- a cut that gives no piece shows that no character has room
none_of : (room : ℕ) (piece rest text : List ℕ) → IsCut room piece rest text → piece ≡ [] → FitsNot room text
none_of room piece rest text c e p r f = absurd (omega (arith, c.longest p r f, ap length e, some_len p f.some))

-- the piece of a line of its own isn't empty
line_of_own : (piece rest text : List ℕ) → IsUtf8 text → text ≢ [] → IsCut 75 piece rest text → piece ≢ []
line_of_own piece rest text u n c e =
    let l : IsLongestWord piece rest text = record {
      is = record { whole = c.whole; characters = c.characters; characters_behind = c.characters_behind; fits = few_fit piece (omega (arith, ap length e)) };
      longest = λ other behind p. elim (cases_lt 0 (length other)) [
        | inl some ↦ c.longest other behind
            (record { whole = p.whole; some = λ f. omega (arith, ap length f); characters = p.characters; characters_behind = p.characters_behind; fits = p.fits })
        | inr none ↦ omega arith
      ];
    } in
    omega (arith, longest_some piece rest text u n l, ap length e)

pub next_behind : (line : Line) (room : ℕ) (piece rest text : List ℕ) → room ≡ 75 - line.width → IsCut room piece rest text → piece ≢ [] → IsNextPiece line piece rest text
next_behind line room piece rest text e c some = Behind (subst (λ (r : ℕ). FitsBest r piece rest text) e (best_of room piece rest text c some))

pub next_below : (line : Line) (room : ℕ) (none behind piece rest text : List ℕ) → room ≡ 75 - line.width → IsCut room none behind text → none ≡ [] → IsUtf8 text → text ≢ []
    → IsCut 75 piece rest text → IsNextPiece line piece rest text
next_below line room none behind piece rest text e c empty u some d =
    Below (subst (λ (r : ℕ). FitsNot r text) e (none_of room none behind text c empty)) (best_of 75 piece rest text d (line_of_own piece rest text u some d))

-- what follows the next piece is shorter
pub shorter : (line : Line) (piece rest text : List ℕ) → IsNextPiece line piece rest text → length rest < length text
shorter line piece rest text (Behind b) = omega (arith, ap length b.is.whole, length-append piece rest, some_len piece b.is.some)
shorter line piece rest text (Below n b) = omega (arith, ap length b.is.whole, length-append piece rest, some_len piece b.is.some)

pub behind_utf8 : (line : Line) (piece rest text : List ℕ) → IsNextPiece line piece rest text → IsUtf8 rest
behind_utf8 line piece rest text (Behind b) = b.is.characters_behind
behind_utf8 line piece rest text (Below n b) = b.is.characters_behind

-- the word of the next piece is written
pub word_more : (Whole : List FieldPiece → Type 0) (begun : Line) (before : List ℕ) (line after : Line) (text new piece rest value word : List ℕ)
    → Goes Whole (AreWordsBehind line value) begun before line text → IsNextPiece line piece rest value → word ≡ utf8_word piece
    → new ≡ text ++ laid line (record { text = word; encoded = true } ∷ []) → after ≡ next_line line (record { text = word; encoded = true })
    → Goes Whole (AreWordsBehind after rest) begun before after new
unfolding line_after
word_more Whole begun before line after text new piece rest value word g n w e f =
    let same : after ≡ next_line line (word_piece piece) = f ∙ ap (λ (u : List ℕ). next_line line (record { text = u; encoded = true })) w in
    goes_on Whole (AreWordsBehind line value) (AreWordsBehind after rest) begun before line after text new (word_piece piece ∷ []) g
    (e ∙ ap (λ (u : List ℕ). text ++ laid line (record { text = u; encoded = true } ∷ [])) w) same
    (λ qs a. NextWord line piece rest value qs n (subst (λ (l : Line). AreWordsBehind l rest qs) same a))

-- nothing is left of the text
pub words_end : (Whole : List FieldPiece → Type 0) (begun : Line) (before : List ℕ) (line : Line) (text value : List ℕ) → Goes Whole (AreWordsBehind line value) begun before line text → value ≡ []
    → Lays Whole begun before text line
words_end Whole begun before line text value g e = goes_end Whole (AreWordsBehind line value) begun before line text g (subst (λ (u : List ℕ). AreWordsBehind line u []) (sym e) (NoWord line))
