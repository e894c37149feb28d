use Rattle.std.proofs.Common.{◌≡◌, length, true, false, eqb}
use Rattle.header_words.proofs.WordListLemmas.{is_empty, is_some}
use Rattle.message_lines.proofs.BaseLemmas.{line_written, lines_end}
use Rattle.message_lines.proofs.bodies.push_base64.Goals as goal

pub loop-rest-preserved : goal.loop-rest-preserved
loop-rest-preserved c =
    let rest = c.loop-rest.rest.now in
    line_written c.loop-rest.text.items c.push_line.new.text.items _ rest c.split_at.result.0.now c.split_at.result.1.now c.min.result
    (is_some rest (let e : eqb (length rest) 0 ≡ false = cc in e)) c.min.ensures c.split_at.ensures.front c.split_at.ensures.back c.in_ok-push_line.ensures c.loop-rest.invariant

pub returns : goal.returns
returns c =
    let rest = c.loop-rest.rest.now in
    lines_end c.loop-rest.text.items _ rest (is_empty rest (let e : eqb (length rest) 0 ≡ true = cc in e)) c.loop-rest.invariant
