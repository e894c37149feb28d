use Rattle.std.proofs.lemmas.Result.{on_ok_weaker}
use Rattle.message_texts.proofs.PartLemmas.{disposition_written}
use Rattle.message_texts.proofs.leaves.push_disposition.Goals as goal

pub returns : goal.returns
returns c =
    on_ok_weaker c.end_line.result
    (λ w. disposition_written c.args.text.now c.begin_field.new.text c.push_disposition_pieces.new.text c.end_line.new.text c.in_ok-line.line c.args.inline c.args.name.now
    c.in_ok-line.ensures.0 c.in_ok-line.ensures.1 c.in_ok-push_disposition_pieces.ensures w) c.end_line.ensures
