use Rattle.std.proofs.Common.{◌≡◌, ℕ, List, [], length, eqb, eqb-true, eq-eqb, false, sym, ap, ◌∙◌, subst, Vec, Global}
use Rattle.std.proofs.lemmas.List.{nil_from_length}
use Rattle.header_words.specs.Charsets.{charset_of}
use Rattle.header_words.specs.EncodedWords.{BeginsAtEdge, Spells, charset_name}
use Rattle.header_words.proofs.ShapeLemmas.{one_shape, shape_before, shape_word, whole_word, word_len, word_of, take_none, take_some}
use Rattle.header_words.proofs.encoded_word.word_at.Goals as goal

pub returns-then-not-begins_at_edge-clause-none : goal.returns-then-not-begins_at_edge-clause-none
returns-then-not-begins_at_edge-clause-none c = λ coded word rest e w.
    let s = c.in-Some.shape in
    let k = shape_before w.0.charset w.0.letter w.0.text word rest c.args.text.now w.0.shape e in
    let o = one_shape _ _ _ _ _ _ _ _ c.args.text.now c.in-Some.ensures.some k in
    let P : List ℕ → Type 0 = λ u. BeginsAtEdge c.args.edges u in
    let t = c.begins_at_edge.ensures.1 (subst P (sym o.behind) w.1) in
    let f = c.if-not-begins_at_edge.true in
    absurd cc

pub returns-then-is_empty-clause-none : goal.returns-then-is_empty-clause-none
returns-then-is_empty-clause-none c = λ coded word rest e w.
    let s = c.in-Some.shape in
    let k = shape_before w.0.charset w.0.letter w.0.text word rest c.args.text.now w.0.shape e in
    let o = one_shape _ _ _ _ _ _ _ _ c.args.text.now c.in-Some.ensures.some k in
    let n = c.cut.result.0.now in
    let z : n ≡ [] = nil_from_length n (eqb-true (length n) 0 cc) in
    w.0.named (sym (ap charset_name o.charset) ∙ sym c.cut.ensures.front ∙ z)

pub returns-in_default-2-clause-none : goal.returns-in_default-2-clause-none
returns-in_default-2-clause-none c = λ coded word rest e w.
    let s = c.in-Some.shape in
    let k = shape_before w.0.charset w.0.letter w.0.text word rest c.args.text.now w.0.shape e in
    let o = one_shape _ _ _ _ _ _ _ _ c.args.text.now c.in-Some.ensures.some k in
    let N : Type 0 = (octets : List ℕ) → Spells s.letter octets s.text.now → ⊥ in
    take_none {P = N} c.in_ok-octets.field-0 c.in_default-2.is c.in_ok-octets.ensures.none coded.octets
    (subst (λ (l : ℕ). Spells l coded.octets s.text.now) (sym o.letter) (subst (λ (u : List ℕ). Spells w.0.letter coded.octets u) (sym o.text) w.0.spelled))

pub returns-clause-some : goal.returns-clause-some
returns-clause-some c =
    let s = c.in-Some.shape in
    let h = c.in-Some.ensures.some in
    record {
      unit = word_of s.charset.now s.letter s.text.now;
      rest = s.behind.now;
      whole = whole_word s.charset.now s.letter s.text.now s.behind.now c.args.text.now h;
      is = (
        record {
          charset = s.charset.now;
          letter = s.letter;
          text = s.text.now;
          shape = shape_word s.charset.now s.letter s.text.now s.behind.now c.args.text.now h;
          named = λ e.
              let n = c.cut.result.0.now in
              let f : eqb (length n) 0 ≡ false = cc in
              let t = eq-eqb (length n) 0 (ap length (c.cut.ensures.front ∙ e)) in
              absurd cc;
          spelled = take_some (λ (v : Vec ℕ Global). Spells s.letter v.items s.text.now) c.in_ok-octets.field-0 c.in-Some-2.octets c.in-Some-2.is c.in_ok-octets.ensures.some;
          known = c.charset_named.ensures ∙ ap charset_of c.cut.ensures.front;
        },
        c.begins_at_edge.ensures.0 (let f = c.if-not-begins_at_edge.false in cc),
      );
      counted = word_len s.charset.now s.letter s.text.now s.behind.now c.args.text.now h;
    }
