use Rattle.std.proofs.Common.{◌≡◌, ◌++◌, ℕ, List, true, refl, get_or, ◌∙◌, subst}
use Rattle.text_words.specs.Sequence.{UnitAt}
use Rattle.header_words.specs.EncodedWords.{Coded, IsWordBefore}
use Rattle.header_words.specs.reading.Units.{coded_of}
use Rattle.header_words.specs.declared.encoded_word.Word.{Word}
use Rattle.header_words.proofs.ShapeLemmas.{take_none, take_some}
use Rattle.header_words.proofs.WordLemmas.{none_more, edge_more, none_at_all, found}
use Rattle.header_words.proofs.words.first_word.Goals as goal

pub returns-in-Some-clause-some : goal.returns-in-Some-clause-some
returns-in-Some-clause-some c =
    let at = c.args.edges in
    let b = c.args.value.now in
    let w = c.in-Some.word in
    let u = take_some (λ (x : Word). UnitAt (IsWordBefore at) (coded_of x) x.len c.split_at.result.1.now) c.in_ok-word_behind.field-0 w c.in-Some.is
    c.in_ok-word_behind.ensures.some in
    let o = take_some (λ (x : Word). c.loop-at.edge ≡ true) c.in_ok-word_behind.field-0 w c.in-Some.is c.in_ok-word_behind.ensures.edge in
    found at b (coded_of w) c.loop-at.at w.len c.loop-at.edge c.loop-at-test.true c.loop-at.invariant.edge_is c.loop-at.invariant.none o
    (subst (λ (t : List ℕ). UnitAt (IsWordBefore at) (coded_of w) w.len t) c.split_at.ensures.back u)

pub loop-at-preserved : goal.loop-at-preserved
loop-at-preserved c =
    let at = c.args.edges in
    let b = c.args.value.now in
    let t = c.split_at.result.1.now in
    let N : Type 0 = (coded : Coded) (word rest : List ℕ) → t ≡ word ++ rest → c.loop-at.edge ≡ true → IsWordBefore at coded word rest → ⊥ in
    let n = take_none {P = N} c.in_ok-word_behind.field-0 c.in-None.is c.in_ok-word_behind.ensures.none in
    record {
      edge_is = c.is_edge-edge.ensures ∙ edge_more at b c.loop-at.at (get_or b c.loop-at.at 0) c.loop-at-test.true refl;
      none = none_more at b c.loop-at.at c.loop-at.edge c.loop-at-test.true c.loop-at.invariant.edge_is c.loop-at.invariant.none (λ coded word rest e o w. n coded word rest
          (c.split_at.ensures.back ∙ e) o w);
    }

pub returns-clause-none : goal.returns-clause-none
returns-clause-none c = none_at_all c.args.edges c.args.value.now c.loop-at.at c.loop-at-test.false c.loop-at.invariant.none
