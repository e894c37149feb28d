use Rattle.std.proofs.Common.{ℕ, List, ◌++◌, sym, ap, ◌∙◌, subst, refl}
use Rattle.text_words.specs.Cuts.{Each, back}
use Rattle.text_words.proofs.CutLemmas.{front_back, front_each, run_cut}
use Rattle.header_words.specs.EncodedWords.{is_encoded}
use Rattle.header_words.proofs.encoded_word.encoded_text.Goals as goal

pub returns-in-None : goal.returns-in-None
returns-in-None c = λ x y r e.
    let k = run_cut is_encoded x y 63 r refl in
    c.in-None.ensures y (c.cut.ensures.back ∙ ap (back is_encoded) e ∙ sym k.back)

pub returns-in-Some : goal.returns-in-Some
returns-in-Some c =
    let t = c.args.text.now in
    let P : List ℕ → Type 0 = λ u. Each is_encoded u in
    let e = c.in-Some.ensures in (
      subst P (sym c.cut.ensures.front) (front_each is_encoded t),
      front_back is_encoded t ∙ ap (λ (u : List ℕ). u ++ back is_encoded t) (sym c.cut.ensures.front) ∙ ap (λ (u : List ℕ). c.cut.result.0.now ++ u) (sym c.cut.ensures.back ∙ e),
    )
