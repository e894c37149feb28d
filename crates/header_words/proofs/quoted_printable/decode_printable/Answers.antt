use Rattle.std.proofs.Common.{◌≡◌, length, refl, eqb, eqb-true, true}
use Rattle.std.proofs.lemmas.List.{nil_from_length}
use Rattle.header_words.proofs.PrintableLemmas.{written_more, written_all, shorter}
use Rattle.header_words.proofs.quoted_printable.decode_printable.Goals as goal

pub loop-rest-smaller : goal.loop-rest-smaller
loop-rest-smaller c = shorter c.loop-rest.rest.now c.piece_at-piece.result.rest.now _ c.piece_at-piece.result.wrong c.piece_at-piece.ensures

pub loop-rest-preserved : goal.loop-rest-preserved
loop-rest-preserved c =
    written_more c.loop-rest.octets.items _ _ c.loop-rest.rest.now c.piece_at-piece.result.rest.now c.args.text.now c.loop-rest.problem c.piece_at-piece.result.wrong _
    c.loop-rest.invariant c.piece_at-piece.ensures c.in_ok-push_piece.ensures refl

pub returns : goal.returns
returns c = written_all c.loop-rest.octets.items c.loop-rest.rest.now c.args.text.now c.loop-rest.problem c.loop-rest.invariant (nil_from_length c.loop-rest.rest.now
    (let e : eqb (length c.loop-rest.rest.now) 0 ≡ true = cc in eqb-true (length c.loop-rest.rest.now) 0 e))
