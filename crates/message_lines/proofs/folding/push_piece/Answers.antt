use Rattle.std.proofs.Common.{◌∙◌, sym}
use Rattle.message_lines.specs.Folding.{FieldPiece}
use Rattle.message_lines.proofs.LineLemmas.{behind, below, or_first, or_second}
use Rattle.message_lines.proofs.folding.push_piece.Goals as goal

pub returns-then-line : goal.returns-then-line
returns-then-line c =
    let p : FieldPiece = record { text = c.args.piece.now; encoded = c.args.encoded } in
    behind c.args.line p c.args.text.now c.push.new.self c.push-then-has_room.new.self c.args.line.encoded (sym c.has_room.ensures ∙ c.if-has_room.true) c.in_ok-push.ensures
    c.in_ok-push-2.ensures (or_first c.args.line.encoded c.args.encoded c.if-line.true)

pub returns-else-line : goal.returns-else-line
returns-else-line c =
    let p : FieldPiece = record { text = c.args.piece.now; encoded = c.args.encoded } in
    behind c.args.line p c.args.text.now c.push.new.self c.push-then-has_room.new.self c.args.encoded (sym c.has_room.ensures ∙ c.if-has_room.true) c.in_ok-push.ensures
    c.in_ok-push-2.ensures (or_second c.args.line.encoded c.args.encoded c.if-line.false)

pub returns : goal.returns
returns c =
    let p : FieldPiece = record { text = c.args.piece.now; encoded = c.args.encoded } in
    below c.args.line p c.args.text.now c.push-2.new.self c.push-3.new.self (sym c.has_room.ensures ∙ c.if-has_room.false) c.in_ok-push-3.ensures c.in_ok-push-4.ensures
