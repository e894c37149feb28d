use Rattle.std.proofs.Common.{◌≡◌, ◌++◌, ℕ, List, true}
use Rattle.header_words.specs.EncodedWords.{Coded, IsWordBefore}
use Rattle.header_words.proofs.ShapeLemmas.{none_map}
use Rattle.header_words.proofs.words.word_behind.Goals as goal

pub returns-then-edge-clause-none : goal.returns-then-edge-clause-none
returns-then-edge-clause-none c =
    let t = c.args.text.now in
    let at = c.args.edges in
    let P : Type 0 = (coded : Coded) (word rest : List ℕ) → t ≡ word ++ rest → IsWordBefore at coded word rest → ⊥ in
    let Q : Type 0 = (coded : Coded) (word rest : List ℕ) → t ≡ word ++ rest → c.args.edge ≡ true → IsWordBefore at coded word rest → ⊥ in
    none_map {P = P} {Q = Q} c.word_at.result (λ n coded word rest e o w. n coded word rest e w) c.word_at.ensures.none
