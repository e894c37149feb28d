use Rattle.std.proofs.Common.{◌≡◌, length, eqb, eqb-true, true, arith}
use Rattle.std.proofs.lemmas.List.{nil_from_length}
use Rattle.header_words.proofs.PrintableLemmas.{none_counted, counted_more, counted_all, shorter, read_fits}
use Rattle.header_words.proofs.quoted_printable.printable_len.Goals as goal

pub overflow_add-len : goal.overflow_add-len
overflow_add-len c =
    let f = read_fits c.loop-rest.rest.now c.piece_at-piece.result.rest.now _ c.piece_at-piece.result.wrong c.piece_at-piece.ensures in
    omega (arith, f, c.piece_len-len.ensures, c.loop-rest.invariant.within)

pub loop-rest-init : goal.loop-rest-init
loop-rest-init c = record { counted = none_counted c.args.text.now; within = omega arith }

pub loop-rest-smaller : goal.loop-rest-smaller
loop-rest-smaller c = shorter c.loop-rest.rest.now c.piece_at-piece.result.rest.now _ c.piece_at-piece.result.wrong c.piece_at-piece.ensures

pub loop-rest-preserved : goal.loop-rest-preserved
loop-rest-preserved c =
    let f = read_fits c.loop-rest.rest.now c.piece_at-piece.result.rest.now _ c.piece_at-piece.result.wrong c.piece_at-piece.ensures in
    record {
      counted = counted_more c.loop-rest.len c.piece_len-len.result _ c.loop-rest.rest.now c.piece_at-piece.result.rest.now c.args.text.now c.piece_at-piece.result.wrong
          c.loop-rest.invariant.counted c.piece_at-piece.ensures c.piece_len-len.ensures;
      within = omega (arith, f, c.piece_len-len.ensures, c.loop-rest.invariant.within);
    }

pub returns : goal.returns
returns c = counted_all c.loop-rest.len c.loop-rest.rest.now c.args.text.now c.loop-rest.invariant.counted (nil_from_length c.loop-rest.rest.now
    (let e : eqb (length c.loop-rest.rest.now) 0 ≡ true = cc in eqb-true (length c.loop-rest.rest.now) 0 e))
