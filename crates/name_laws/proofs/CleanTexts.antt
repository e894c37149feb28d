-- A text of one line has no control character, and none comes in where its encoded words are decoded.
use Rattle.std.proofs.Common.{◌≡◌, ℕ, Bool, true, false, not, ◌||◌, ◌&&◌, cond, eqb, List, [], ◌∷◌, ◌++◌, refl, sym, ap, subst}
use Rattle.std.specs.List.{filter, flat_map, list_all}
use Rattle.text_words.specs.Octets.{is_white}
use Rattle.text_words.proofs.CutLemmas.{each_append, each_left, each_right}
use Rattle.header_words.specs.Charsets.{text_in}
use Rattle.header_words.specs.EncodedWords.{is_control, is_printed, Span, Text, InUtf8, span_in, span_of, kept, AreSpans, Plain, Worded, with_span, runs_of, run_text, IsTextBetween}
use Rattle.header_words.specs.OneLine.{with_ends_alone, line_octet, one_line}
use Rattle.header_words.specs.declared.charset.Charset.{Charset}
use Rattle.header_words.specs.declared.charset.Charset.TheVariants as charset
use Rattle.header_words.specs.declared.encoded_word.Edges.{Edges}
use Rattle.name_laws.specs.CleanNames.{IsClean}

-- ---- one line

clean_octet : (c : ℕ) → IsClean (line_octet c)
clean_octet c = by (eqb c 10 || eqb c 9) (is_control c) refl
  where
    by : (q r : Bool) → is_control c ≡ r → IsClean (cond q (32 ∷ []) (cond r [] (c ∷ [])))
    by true r e = (refl, tt)
    by false true e = tt
    by false false e = (not_control e, tt)
      where
        not_control : is_control c ≡ false → is_printed c ≡ true
        not_control f = ap not f

clean_octets : (t : List ℕ) → IsClean (flat_map line_octet t)
clean_octets [] = tt
clean_octets (c ∷ t) = each_append is_printed (line_octet c) (flat_map line_octet t) (clean_octet c) (clean_octets t)

-- one line has no control character
pub clean_line : (t : List ℕ) → IsClean (one_line t)
clean_line t = clean_octets (with_ends_alone t)

-- ---- encoded words

clean_filter : (t : List ℕ) → IsClean (filter is_printed t)
clean_filter [] = tt
clean_filter (c ∷ t) = by (is_printed c) refl (clean_filter t)
  where
    by : (q : Bool) → is_printed c ≡ q → IsClean (filter is_printed t) → IsClean (cond q (c ∷ filter is_printed t) (filter is_printed t))
    by true e h = (e, h)
    by false e h = h

IsCleanSpan : Span → Type 0
IsCleanSpan (Text t) = IsClean t
IsCleanSpan (InUtf8 b) = Unit {0}

AreClean : List Span → Type 0
AreClean [] = Unit {0}
AreClean (s ∷ spans) = IsCleanSpan s × AreClean spans

clean_coded : (c : Charset) (b : List ℕ) → IsCleanSpan (span_in c b)
unfolding IsCleanSpan
clean_coded charset.Utf8 b = tt
clean_coded charset.Ascii b = clean_filter (text_in charset.Ascii b)
clean_coded charset.Latin1 b = clean_filter (text_in charset.Latin1 b)
clean_coded charset.Unknown b = clean_filter (text_in charset.Unknown b)

clean_kept : (behind : Bool) (t : List ℕ) (spans : List Span) → IsClean t → AreClean spans → AreClean (kept behind t ++ spans)
unfolding IsCleanSpan AreClean
clean_kept behind t spans h g = by (behind && list_all is_white t)
  where
    by : (q : Bool) → AreClean (cond q [] (Text t ∷ []) ++ spans)
    by true = g
    by false = (h, g)

clean_spans : (at : Edges) (behind : Bool) (spans : List Span) (value : List ℕ) → AreSpans at behind spans value → IsClean value → AreClean spans
unfolding IsCleanSpan AreClean
clean_spans at behind _ value (Plain _ _ n) h = (h, tt)
clean_spans at behind _ value (Worded _ spans _ f more) h =
    let w : IsClean (f.before ++ (f.word ++ f.behind)) = subst (λ (u : List ℕ). IsClean u) f.is.whole h in
    let rest = each_right is_printed f.word f.behind (each_right is_printed f.before (f.word ++ f.behind) w) in
    clean_kept behind f.before (span_of f.coded ∷ spans) (each_left is_printed f.before (f.word ++ f.behind) w)
    (clean_coded f.coded.charset f.coded.octets, clean_spans at true spans f.behind more rest)

clean_with : (s : Span) (spans : List Span) → IsCleanSpan s → AreClean spans → AreClean (with_span s spans)
unfolding IsCleanSpan AreClean
clean_with (Text t) spans h g = (h, g)
clean_with (InUtf8 a) [] h g = (tt, tt)
clean_with (InUtf8 a) (Text t ∷ spans) h g = (tt, g)
clean_with (InUtf8 a) (InUtf8 b ∷ spans) h g = (tt, g.1)

clean_runs : (spans : List Span) → AreClean spans → AreClean (runs_of spans)
unfolding AreClean
clean_runs [] h = tt
clean_runs (s ∷ spans) h = clean_with s (runs_of spans) h.0 (clean_runs spans h.1)

clean_run : (s : Span) → IsCleanSpan s → IsClean (run_text s)
unfolding IsCleanSpan
clean_run (Text t) h = h
clean_run (InUtf8 b) h = clean_filter (text_in charset.Utf8 b)

clean_texts : (spans : List Span) → AreClean spans → IsClean (flat_map run_text spans)
unfolding AreClean
clean_texts [] h = tt
clean_texts (s ∷ spans) h = each_append is_printed (run_text s) (flat_map run_text spans) (clean_run s h.0) (clean_texts spans h.1)

-- the text of a value without control characters has none
pub clean_text : (at : Edges) (behind : Bool) (value text : List ℕ) → IsTextBetween at behind value text → IsClean value → IsClean text
clean_text at behind value text i h =
    subst (λ (u : List ℕ). IsClean u) (sym i.text_is) (clean_texts (runs_of i.spans) (clean_runs i.spans (clean_spans at behind i.spans value i.are h)))
