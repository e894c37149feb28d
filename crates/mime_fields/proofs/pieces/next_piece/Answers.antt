use Rattle.header_tokens.proofs.ClosingLemmas.{tell_behind}
use Rattle.mime_fields.proofs.pieces.next_piece.Goals as goal

pub returns-in-Some-clause-closings : goal.returns-in-Some-clause-closings
returns-in-Some-clause-closings c =
    tell_behind c.args.closed.now c.args.text.now c.split_at.result.0.now c.split_at.result.1.now c.in-Some.more.now c.piece_len.result c.split_at.ensures.front
    c.split_at.ensures.back c.in-Some.ensures c.requires
