use Rattle.std.proofs.Common.{◌≡◌, length, refl, arith, sym, ap, ◌∙◌}
use Rattle.mime_tree.specs.reading.LineReading.{line_mark}
use Rattle.mime_tree.specs.declared.split.Mark.TheVariants as mark
use Rattle.mime_tree.proofs.LineLemmas.{here}
use Rattle.mime_tree.proofs.SplitLemmas.{at_plain, at_opens, at_closes, at_end_inside, at_end_outside, split_more, room_ends, room_inside, room_begins, room_stays}
use Rattle.mime_tree.proofs.BehindLemmas.{split_behind}
use Rattle.mime_tree.proofs.split.split.Goals as goal
use Rattle.mime_tree.proofs.split.split.Goals.{in-Plain, in-Opens+in_ok-end_part-in-Opens+else-len-most}

pub returns-in-Closes : goal.returns-in-Closes
returns-in-Closes c =
    let h = here c.args.bytes.now c.loop-at.at c.split_at.result.1.now c.split_at-in-loop-at.result.0.now c.line_len-len.result c.loop-at-test.true c.split_at.ensures.back
    c.line_len-len.ensures.value c.split_at-in-loop-at.ensures.front in
    let m : line_mark c.args.boundary.now c.split_at-in-loop-at.result.0.now ≡ mark.Closes = sym c.mark_of.ensures ∙ c.in-Closes.is in
    let e = c.from_vec.ensures ∙ c.in_ok-end_part-in-Closes.ensures in
    let s = at_closes c.loop-at.begun c.args.bytes.now c.args.boundary.now c.loop-at.pieces.items _ c.loop-at.at c.line_len-len.result _ h m c.loop-at.invariant.split e in (
      s,
      record {
        behind = split_behind c.args.bytes.now c.args.boundary.now _ s;
        few = room_ends c.args.most c.loop-at.begun c.args.bytes.now c.loop-at.at c.loop-at.pieces.items _ c.loop-at.invariant.room e;
      },
    )

pub returns-then-len-most : goal.returns-then-len-most
returns-then-len-most c =
    let h = here c.args.bytes.now c.loop-at.at c.split_at.result.1.now c.split_at-in-loop-at.result.0.now c.line_len-len.result c.loop-at-test.true c.split_at.ensures.back
    c.line_len-len.ensures.value c.split_at-in-loop-at.ensures.front in
    let m : line_mark c.args.boundary.now c.split_at-in-loop-at.result.0.now ≡ mark.Opens = sym c.mark_of.ensures ∙ c.in-Opens.is in
    let s = at_opens c.loop-at.begun _ c.args.bytes.now c.args.boundary.now c.loop-at.pieces.items _ c.loop-at.at c.line_len-len.result _ h m c.loop-at.invariant.split
    refl c.in_ok-end_part-in-Opens.ensures in
    split_more _ c.args.bytes.now c.args.boundary.now _ c.args.most _ s (omega arith)

pub loop-at-smaller : goal.loop-at-smaller
loop-at-smaller c =
    let h = here c.args.bytes.now c.loop-at.at c.split_at.result.1.now c.split_at-in-loop-at.result.0.now c.line_len-len.result c.loop-at-test.true c.split_at.ensures.back
    c.line_len-len.ensures.value c.split_at-in-loop-at.ensures.front in
    omega (arith, h.some)

pub loop-at-preserved : goal.loop-at-preserved
loop-at-preserved c =
    let h = here c.args.bytes.now c.loop-at.at c.split_at.result.1.now c.split_at-in-loop-at.result.0.now c.line_len-len.result c.loop-at-test.true c.split_at.ensures.back
    c.line_len-len.ensures.value c.split_at-in-loop-at.ensures.front in
    elim c.match-mark_of.branch [
      | in-Plain w ↦ record {
        within = h.within;
        room = room_stays c.args.most c.loop-at.begun _ c.loop-at.pieces.items _ c.loop-at.invariant.room w.begun-is (let e = w.pieces-is in (cc));
        split = at_plain c.loop-at.begun _ c.args.bytes.now c.args.boundary.now _ c.match-mark_of.pieces.items c.loop-at.at _ _ h
            (sym c.mark_of.ensures ∙ w.in-Plain.is) c.loop-at.invariant.split w.begun-is (let e = w.pieces-is in (cc));
      }
      | in-Opens+in_ok-end_part-in-Opens+else-len-most w ↦ record {
        within = h.within;
        room = room_begins c.args.most c.match-mark_of.begun _ c.match-mark_of.pieces.items w.begun-is
            (let q : c.match-mark_of.pieces.items ≡ w.end_part.new.pieces.items = (let e = w.pieces-is in (cc)) in
            omega (arith, ap length q, w.if-len-most.false, w.len.ensures));
        split = at_opens c.loop-at.begun _ c.args.bytes.now c.args.boundary.now _ c.match-mark_of.pieces.items c.loop-at.at _ _ h
            (sym c.mark_of.ensures ∙ w.in-Opens.is) c.loop-at.invariant.split w.begun-is (let e = w.pieces-is in let f = w.in_ok-end_part-in-Opens.ensures in (cc));
      }
    ]

pub returns-in-None : goal.returns-in-None
returns-in-None c =
    at_end_outside c.loop-at.begun c.args.bytes.now c.args.boundary.now c.loop-at.pieces.items c.loop-at.at c.loop-at-test.false c.loop-at.invariant.split c.in-None.is

pub returns-in_ok-push-in-Some : goal.returns-in_ok-push-in-Some
returns-in_ok-push-in-Some c =
    let e = c.from_vec-in-Some.ensures ∙ c.in_ok-push-in-Some.ensures.items in
    let s = at_end_inside c.loop-at.begun c.args.bytes.now c.args.boundary.now c.in-Some.start c.loop-at.pieces.items _ c.loop-at.at c.loop-at-test.false
    c.loop-at.invariant.split c.in-Some.is e in (
      s,
      record {
        behind = split_behind c.args.bytes.now c.args.boundary.now _ s;
        few = room_inside c.args.most c.loop-at.begun c.in-Some.start c.loop-at.at c.loop-at.pieces.items _ c.loop-at.invariant.room c.in-Some.is e;
      },
    )
