use Rattle.std.proofs.Common.{◌≡◌, length, true, eqb, refl, ◌∙◌}
use Rattle.header_words.proofs.WordListLemmas.{is_empty}
use Rattle.message_lines.specs.Words.{AreWordsBehind}
use Rattle.message_lines.proofs.LineLemmas.{goes_begin}
use Rattle.message_lines.proofs.CutLemmas.{word_more, words_end, behind_utf8}
use Rattle.message_lines.proofs.words.push_words.Goals as goal

pub loop-rest-init : goal.loop-rest-init
loop-rest-init c = (c.utf8.value, goes_begin (AreWordsBehind c.args.line c.args.value.now) c.args.line c.args.text.now c.args.text.now refl)

pub loop-rest-preserved : goal.loop-rest-preserved
loop-rest-preserved c =
    let line = c.loop-rest.after in
    let piece = c.next_piece.result.0.now in
    let behind = c.next_piece.result.1.now in (
      behind_utf8 line piece behind c.loop-rest.rest.now c.next_piece.ensures,
      word_more (AreWordsBehind c.args.line c.args.value.now) c.args.line c.args.text.now line c.in_ok-after.after c.loop-rest.text c.push_piece.new.text piece behind c.loop-rest.rest.now
          c.as_bytes.result.now c.loop-rest.invariant.1 c.next_piece.ensures (c.as_bytes.ensures.value ∙ c.in_ok-word.ensures) c.in_ok-after.ensures.0 c.in_ok-after.ensures.1,
    )

pub returns : goal.returns
returns c = words_end _ _ _ _ _ c.loop-rest.rest.now c.loop-rest.invariant.1 (is_empty c.loop-rest.rest.now (let e : eqb (length c.loop-rest.rest.now) 0 ≡ true = cc in e))
