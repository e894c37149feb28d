use Rattle.std.proofs.Common.{◌<◌, List, ℕ, length, take, sym, subst}
use Rattle.header_words.specs.WordList.{IsLongestPiece}
use Rattle.header_words.proofs.WordListLemmas.{longest_here, shorter}
use Rattle.header_words.proofs.word_list.longest_piece.Goals as goal

pub returns-clause-longest : goal.returns-clause-longest
returns-clause-longest c =
    let f = c.floor_char_boundary-len in
    let l = longest_here c.args.text.now f.result c.utf8.text f.ensures.bound f.ensures.boundary f.ensures.nearest in
    let P : List ℕ → Type 0 = λ u. IsLongestPiece u c.split_at.result.1.now c.args.text.now in
    let Q : List ℕ → Type 0 = λ u. IsLongestPiece (take f.result c.args.text.now) u c.args.text.now in
    subst P (sym c.split_at.ensures.front) (subst Q (sym c.split_at.ensures.back) l)

pub returns-clause-shorter : goal.returns-clause-shorter
returns-clause-shorter c =
    let f = c.floor_char_boundary-len in
    let l = longest_here c.args.text.now f.result c.utf8.text f.ensures.bound f.ensures.boundary f.ensures.nearest in
    let P : List ℕ → Type 0 = λ u. length u < length c.args.text.now in
    λ some. subst P (sym c.split_at.ensures.back) (shorter _ _ c.args.text.now c.utf8.text l some)
