use Rattle.std.proofs.Common.{◌≡◌, length, true, eqb}
use Rattle.header_words.proofs.WordListLemmas.{is_empty}
use Rattle.message_lines.proofs.CutLemmas.{next_below}
use Rattle.message_lines.proofs.words.next_piece.Goals as goal

pub returns-then-is_empty : goal.returns-then-is_empty
returns-then-is_empty c =
    let piece = c.cut_within.result.0.now in
    let own = c.cut_within-then-is_empty in
    next_below c.args.line c.saturating_sub.result piece c.cut_within.result.1.now own.result.0.now own.result.1.now c.args.text.now c.saturating_sub.ensures c.cut_within.ensures
    (is_empty piece (let e : eqb (length piece) 0 ≡ true = cc in e)) c.utf8.text c.requires own.ensures
