-- Encoded words: each is determined by the text that begins with it, and so is a value's text.
use Rattle.std.proofs.Common.{◌≡◌, ℕ, ◌+◌, ◌<◌, ◌≤◌, Bool, true, false, List, [], ◌∷◌, ◌++◌, length, take, drop, get_or, refl, sym, ap, ◌∙◌, subst, append_assoc, inl, inr, arith}
use Rattle.std.proofs.lemmas.List.{append_cancel_left, append-nil, length-append, take_at, drop_at, take_more, length-take, take-append-drop}
use Rattle.std.proofs.lemmas.Bool.{cases_lt}
use Rattle.text_words.specs.Sequence.{UnitAt}
use Rattle.text_words.proofs.SequenceLemmas.{determined, one_reading}
use Rattle.header_words.specs.Charsets.{charset_of}
use Rattle.header_words.specs.EncodedWords.{is_b, is_q, is_edge, Spells, InBase64, InQ, Coded, IsEncodedWord, ends_at_edge, NoneBefore, HasNone}
use Rattle.header_words.specs.EncodedWords.{IsFirst, FirstEncodedWord, kept, Span, Text, InUtf8, span_of, AreSpans, Plain, Worded, text_of_spans, IsTextBetween, IsText}
use Rattle.header_words.specs.EncodedWords.{charset_name, IsWordBefore}
use Rattle.header_words.specs.declared.encoded_word.Edges.{Edges}
use Rattle.header_words.specs.declared.encoded_word.Edges.TheVariants as edges
use Rattle.header_words.specs.declared.words.Spans.{Spans}
use Rattle.header_words.specs.reading.Units.{q_unit_in, FoundAt, Gathers}
use Rattle.header_words.proofs.QuotedLemmas.{q_reader}
use Rattle.header_words.proofs.Base64Lemmas.{one_base64}
use Rattle.header_words.proofs.ShapeLemmas.{one_shape, shape_before}
use Rattle.header_words.proofs.SpanLemmas.{no_run}

not_both : (l : ℕ) → is_b l ≡ true → is_q l ≡ true → ⊥
not_both l b q = grind arith

-- a text spells one list of octets
pub one_spelling : (l : ℕ) (x y t : List ℕ) → Spells l x t → Spells l y t → x ≡ y
one_spelling l x y t (InBase64 b i) (InBase64 c j) = one_base64 x y t i j
one_spelling l x y t (InBase64 b i) (InQ c j) = absurd (not_both l b c)
one_spelling l x y t (InQ b i) (InBase64 c j) = absurd (not_both l c b)
one_spelling l x y t (InQ b i) (InQ c j) = one_reading (determined q_unit_in q_reader) x y t i j

pub record SameWord (r s : Coded) (w v b c : List ℕ) : Type 0 where
  pub coded : r ≡ s
  pub word : w ≡ v
  pub behind : b ≡ c

-- a text begins with one encoded word at most
pub one_word : (r s : Coded) (w v b c : List ℕ) → w ++ b ≡ v ++ c → IsEncodedWord r w → IsEncodedWord s v → SameWord r s w v b c
one_word r s w v b c e i j =
    let g = shape_before i.charset i.letter i.text w b (w ++ b) i.shape refl in
    let h = shape_before j.charset j.letter j.text v c (w ++ b) j.shape e in
    let o = one_shape _ _ _ _ _ _ _ _ (w ++ b) g h in
    let spelled = subst (λ (u : List ℕ). Spells i.letter s.octets u) (sym o.text) (subst (λ (l : ℕ). Spells l s.octets j.text) (sym o.letter) j.spelled) in
    record {
      coded = same_coded (i.known ∙ ap (λ (u : List ℕ). charset_of (charset_name u)) o.charset ∙ sym j.known)
          (one_spelling i.letter r.octets s.octets i.text i.spelled spelled);
      word = i.shape.whole ∙ same o.charset o.letter o.text ∙ sym j.shape.whole;
      behind = o.behind;
    }
  where
    same_coded : r.charset ≡ s.charset → r.octets ≡ s.octets → r ≡ s
    same_coded p q = ap (λ (k : _). record { charset = k; octets = r.octets }) p ∙ ap (λ (k : List ℕ). record { charset = s.charset; octets = k }) q

    same : i.charset ≡ j.charset → i.letter ≡ j.letter → i.text ≡ j.text
        → 61 ∷ 63 ∷ (i.charset ++ 63 ∷ i.letter ∷ 63 ∷ (i.text ++ 63 ∷ 61 ∷ [])) ≡ 61 ∷ 63 ∷ (j.charset ++ 63 ∷ j.letter ∷ 63 ∷ (j.text ++ 63 ∷ 61 ∷ []))
    same p q r =
        ap (λ (u : List ℕ). 61 ∷ 63 ∷ (u ++ 63 ∷ i.letter ∷ 63 ∷ (i.text ++ 63 ∷ 61 ∷ []))) p
        ∙ ap (λ (u : ℕ). 61 ∷ 63 ∷ (j.charset ++ 63 ∷ u ∷ 63 ∷ (i.text ++ 63 ∷ 61 ∷ []))) q
        ∙ ap (λ (u : List ℕ). 61 ∷ 63 ∷ (j.charset ++ 63 ∷ j.letter ∷ 63 ∷ (u ++ 63 ∷ 61 ∷ []))) r

word_some : (r : Coded) (w : List ℕ) → IsEncodedWord r w → 0 < length w
word_some r w i = let e = ap length i.shape.whole in omega arith

-- ---- the search for the first

-- no encoded word stands before the beginning of a text
pub none_yet : (at : Edges) (t : List ℕ) → NoneBefore at 0 t
none_yet at t = λ coded before word behind e s. omega arith

-- texts of one length at the front are the same
pub same_length : (x y s t : List ℕ) → x ++ s ≡ y ++ t → length x ≡ length y → x ≡ y
same_length x y s t e n = sym (take_at x s (length x) refl) ∙ ap (take (length x)) e ∙ take_at y t (length x) (sym n)

-- where none stands at i either, none stands before i + 1
pub none_more : (at : Edges) (t : List ℕ) (i : ℕ) (edge : Bool) → i < length t → edge ≡ ends_at_edge at true (take i t) → NoneBefore at i t
    → ((coded : Coded) (word behind : List ℕ) → drop i t ≡ word ++ behind → edge ≡ true → IsWordBefore at coded word behind → ⊥) → NoneBefore at (i + 1) t
none_more at t i edge lt g n here = λ coded before word behind e s. by coded word behind before e s.edge_before (s.word, s.edge_behind) (n coded before word behind e s)
  where
    by : (coded : Coded) (word behind before : List ℕ) → t ≡ before ++ (word ++ behind) → ends_at_edge at true before ≡ true → IsWordBefore at coded word behind
        → i ≤ length before → i + 1 ≤ length before
    by coded word behind before e edge_is w le = elim (cases_lt i (length before)) [
      | inl h ↦ omega arith
      | inr h ↦
          let n : length before ≡ i = omega arith in
          let d : drop i t ≡ word ++ behind = ap (drop i) e ∙ drop_at before (word ++ behind) i n in
          let k : take i t ≡ before = ap (take i) e ∙ take_at before (word ++ behind) i n in
          absurd (here coded word behind d (g ∙ ap (ends_at_edge at true) k ∙ edge_is) w)
    ]

edge_append : (at : Edges) (edge : Bool) (x : List ℕ) (c : ℕ) → ends_at_edge at edge (x ++ c ∷ []) ≡ is_edge at c
edge_append at edge [] c = refl
edge_append at edge (d ∷ x) c = edge_append at (is_edge at d) x c

-- a text up to the octet at i, with that octet, ends at an edge exactly where the octet is an edge
pub edge_more : (at : Edges) (t : List ℕ) (i x : ℕ) → i < length t → x ≡ get_or t i 0 → is_edge at x ≡ ends_at_edge at true (take (i + 1) t)
edge_more at t i x lt e = ap (is_edge at) e ∙ sym (edge_append at true (take i t) (get_or t i 0)) ∙ ap (ends_at_edge at true) (sym (take_more t i 0 lt))

-- at the end none stands in the whole
pub none_at_all : (at : Edges) (t : List ℕ) (i : ℕ) → length t ≤ i → NoneBefore at i t → HasNone at t
none_at_all at t i le n = λ coded before word behind e s.
    let h = n coded before word behind e s in
    let w = word_some coded word s.word in
    omega (arith, ap length e, length-append before (word ++ behind), length-append word behind)

-- the word that is read at i is the first
pub found : (at : Edges) (t : List ℕ) (coded : Coded) (i n : ℕ) (edge : Bool) → i < length t → edge ≡ ends_at_edge at true (take i t) → NoneBefore at i t → edge ≡ true
    → UnitAt (IsWordBefore at) coded n (drop i t) → FoundAt at coded i (i + n) t
found at t coded i n edge lt g none o u =
    let len : length (take i t) ≡ i = omega (arith, length-take i t) in
    record {
      before = take i t;
      word = u.unit;
      behind = u.rest;
      first = record {
        whole = sym (take-append-drop i t) ∙ ap (λ (v : List ℕ). take i t ++ v) u.whole;
        stands = record { edge_before = sym g ∙ o; word = u.is.0; edge_behind = u.is.1 };
        first = subst (λ (k : ℕ). NoneBefore at k t) (sym len) none;
      };
      start_is = sym len;
      end_is = omega (arith, u.counted);
    }

-- ---- a value's text

-- the first word is one
pub same_first : (at : Edges) (r s : Coded) (b c w v x y t : List ℕ) → IsFirst at r b w x t → IsFirst at s c v y t → (b ≡ c) × SameWord r s w v x y
same_first at r s b c w v x y t g h =
    let p = g.first s c v y h.whole h.stands in
    let q = h.first r b w x g.whole g.stands in
    let e : b ++ (w ++ x) ≡ c ++ (v ++ y) = sym g.whole ∙ h.whole in
    let f = same_length b c (w ++ x) (v ++ y) e (omega arith) in
    (f, one_word r s w v x y (append_cancel_left c (w ++ x) (v ++ y) (ap (λ (u : List ℕ). u ++ (w ++ x)) (sym f) ∙ e)) g.stands.word h.stands.word)

-- no value has two lists of spans
one_list : (at : Edges) (after : Bool) (value : List ℕ) (s t : List Span) → AreSpans at after s value → AreSpans at after t value → s ≡ t
one_list at after value _ _ (Plain _ _ n) (Plain _ _ m) = refl
one_list at after value _ _ (Plain _ _ n) (Worded _ u _ f h) = absurd (n f.coded f.before f.word f.behind f.is.whole f.is.stands)
one_list at after value _ _ (Worded _ u _ f h) (Plain _ _ n) = absurd (n f.coded f.before f.word f.behind f.is.whole f.is.stands)
one_list at after value _ _ (Worded _ u _ f h) (Worded _ v _ g k) =
    let q = same_first at f.coded g.coded f.before g.before f.word g.word f.behind g.behind value f.is g.is in
    let tail = one_list at true f.behind u v h (subst (λ (a : List ℕ). AreSpans at true v a) (sym q.1.behind) k) in
    ap (λ (a : List ℕ). kept after a ++ span_of f.coded ∷ u) q.0
    ∙ ap (λ (a : Coded). kept after g.before ++ span_of a ∷ u) q.1.coded
    ∙ ap (λ (a : List Span). kept after g.before ++ span_of g.coded ∷ a) tail

-- no value has two texts between edges of a kind
pub one_text_between : (at : Edges) (after : Bool) (value s t : List ℕ) → IsTextBetween at after value s → IsTextBetween at after value t → s ≡ t
one_text_between at after value s t g h = g.text_is ∙ ap text_of_spans (one_list at after value g.spans h.spans g.are h.are) ∙ sym h.text_is

-- no value has two texts
pub one_text : (after : Bool) (value s t : List ℕ) → IsText after value s → IsText after value t → s ≡ t
one_text after value s t g h = one_text_between edges.White after value s t g h

-- what was gathered, with the spans of the rest, is the text of the value
pub record Goes (at : Edges) (behind_word : Bool) (rest : List ℕ) (done : Spans) (value : List ℕ) : Type 0 where
  pub goes : (spans : List Span) → AreSpans at behind_word spans rest
      → (all : List Span) × AreSpans at false all value × (done.text.items ++ text_of_spans (InUtf8 done.run.items ∷ spans) ≡ text_of_spans all)

-- at the start nothing is gathered, and the rest is the whole value
pub starts : (at : Edges) (value : List ℕ) (done : Spans) → done.text.items ≡ [] → done.run.items ≡ [] → Goes at false value done value
starts at value done t r = record {
  goes = λ spans h.
      (spans, h, ap (λ (u : List ℕ). u ++ text_of_spans (InUtf8 done.run.items ∷ spans)) t ∙ ap (λ (u : List ℕ). text_of_spans (InUtf8 u ∷ spans)) r ∙ no_run spans);
}

-- one word more
pub goes_on : (at : Edges) (after : Bool) (rest value : List ℕ) (coded : Coded) (start end : ℕ) (done then new : Spans) → Goes at after rest done value
    → FoundAt at coded start end rest → Gathers done then (kept after (take start rest)) → Gathers then new (span_of coded ∷ []) → Goes at true (drop end rest) new value
goes_on at after rest value coded start end done then new g f k w = record {
  goes = λ spans h.
      let front : take start rest ≡ f.before = ap (take start) f.first.whole ∙ take_at f.before (f.word ++ f.behind) start (sym f.start_is) in
      let back : drop end rest ≡ f.behind = ap (drop end) (f.first.whole ∙ sym (append_assoc f.before f.word f.behind))
      ∙ drop_at (f.before ++ f.word) f.behind end (omega (arith, f.end_is, length-append f.before f.word)) in
      let first : FirstEncodedWord at rest = record { coded = coded; before = f.before; word = f.word; behind = f.behind; is = f.first } in
      let inner = Worded after spans rest first (subst (λ (u : List ℕ). AreSpans at true spans u) back h) in
      let q = g.goes (kept after f.before ++ span_of coded ∷ spans) inner in
      (q.0, q.1, w spans ∙ k (span_of coded ∷ spans) ∙ ap (λ (u : List ℕ). done.text.items ++ text_of_spans (InUtf8 done.run.items ∷ (kept after u ++ span_of coded ∷ spans))) front ∙ q.2);
}

-- where no encoded word is left, and the rest was gathered, the text is whole
pub ends : (at : Edges) (after : Bool) (rest value : List ℕ) (done new : Spans) → Goes at after rest done value → HasNone at rest → Gathers done new (Text rest ∷ [])
    → new.run.items ≡ [] → IsTextBetween at false value new.text.items
ends at after rest value done new g n p r =
    let q = g.goes (Text rest ∷ []) (Plain after rest n) in
    record {
      spans = q.0;
      are = q.1;
      text_is = sym (append-nil new.text.items)
          ∙ ap (λ (u : List ℕ). new.text.items ++ u) (sym (no_run []) ∙ ap (λ (u : List ℕ). text_of_spans (InUtf8 u ∷ [])) (sym r)) ∙ p [] ∙ q.2;
    }

pub record Places (start end : ℕ) (rest : List ℕ) : Type 0 where
  pub start_within : start ≤ length rest
  pub end_within : end ≤ length rest
  pub some : 0 < end

-- the first encoded word begins and ends within the text, and ends after at least one octet
pub places : (at : Edges) (coded : Coded) (rest : List ℕ) (start end : ℕ) → FoundAt at coded start end rest → Places start end rest
places at coded rest start end f =
    let w = word_some coded f.word f.first.stands.word in
    let e = ap length f.first.whole in
    let a = length-append f.before (f.word ++ f.behind) in
    let b = length-append f.word f.behind in
    record { start_within = omega (arith, f.start_is); end_within = omega (arith, f.end_is); some = omega (arith, f.end_is) }
