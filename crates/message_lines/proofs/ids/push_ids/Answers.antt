use Rattle.std.proofs.Common.{◌≡◌, ◌+◌, [], length, drop, map, refl, sym, ap, ◌∙◌, arith}
use Rattle.std.proofs.lemmas.List.{drop_all}
use Rattle.message_lines.specs.Ids.{AreIdTexts, id_piece}
use Rattle.message_lines.proofs.LineLemmas.{goes_begin, goes_end}
use Rattle.message_lines.proofs.IdLemmas.{item_first, id_written}
use Rattle.message_lines.proofs.ids.push_ids.Goals as goal

pub loop-id-init : goal.loop-id-init
loop-id-init c = goes_begin (AreIdTexts c.args.list.now) c.args.line c.args.text.now c.args.text.now refl

pub loop-id-preserved : goal.loop-id-preserved
loop-id-preserved c =
    let ids = c.args.list.now in
    let at = c.loop-id.id-index in
    id_written ids (drop at ids) (drop (at + 1) ids) c.as_slice.result.now c.args.line c.args.text.now c.loop-id.after c.in_ok-after.after c.loop-id.text c.push_piece.new.text
    c.as_slice-in-loop-id.result.now c.loop-id.invariant
    (item_first ids c.as_slice-id-items.result.now at c.id-item.result c.as_slice.result.now c.as_slice-id-items.ensures c.loop-id-test.true c.id-item.is c.as_slice.ensures) (c.as_slice-in-loop-id.ensures.value ∙ c.in_ok-piece.ensures) c.in_ok-after.ensures.0 c.in_ok-after.ensures.1

pub returns : goal.returns
returns c =
    let ids = c.args.list.now in
    let none : drop c.loop-id.id-index ids ≡ [] = drop_all c.loop-id.id-index ids (omega (arith, ap length c.as_slice-id-items.ensures)) in
    goes_end (AreIdTexts ids) (AreIdTexts (drop c.loop-id.id-index ids)) c.args.line c.args.text.now c.loop-id.after c.loop-id.text c.loop-id.invariant
    (sym (ap (map id_piece) none))
