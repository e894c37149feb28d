use Rattle.std.proofs.Common.{◌≡◌, ◌-◌, ℕ, List, ◌++◌, length, take, sym, ap, ◌∙◌, subst, arith, take-append-drop}
use Rattle.std.proofs.lemmas.List.{length-drop}
use Rattle.header_tokens.specs.Kinds.{first_octet}
use Rattle.mime_fields.specs.reading.PieceSteps.{UnitOf}
use Rattle.header_tokens.proofs.ClosingLemmas.{tell_len, tell_end, tell_open}
use Rattle.mime_fields.proofs.PieceLemmas.{unclosed, piece_ends, piece_more, unit_moves}
use Rattle.mime_fields.proofs.pieces.piece_len.Goals as goal

pub returns-then-first_octet-eq59-clause-piece : goal.returns-then-first_octet-eq59-clause-piece
returns-then-first_octet-eq59-clause-piece c = piece_ends c.loop-at.at c.args.text.now c.loop-at.invariant.piece

pub returns-clause-piece : goal.returns-clause-piece
returns-clause-piece c = piece_ends c.loop-at.at c.args.text.now c.loop-at.invariant.piece

pub bounds-closed-rest : goal.bounds-closed-rest
bounds-closed-rest c =
    let n = tell_len c.args.closed.now c.args.text.now c.requires in
    omega (arith, n, length-drop c.loop-at.at c.args.text.now, ap length c.split_at.ensures.back, c.loop-at-test.true)

pub unit_len-at-requires-clause-open : goal.unit_len-at-requires-clause-open
unit_len-at-requires-clause-open c = λ f.
    let t = c.args.text.now in
    let rest = c.split_at.result.1.now in
    let e = c.split_at.ensures.back in
    let w : t ≡ take c.loop-at.at t ++ rest = sym (take-append-drop c.loop-at.at t) ∙ ap (λ (u : List ℕ). take c.loop-at.at t ++ u) (sym e) in
    let h = tell_end c.args.closed.now (take c.loop-at.at t) rest t w c.requires in
    unclosed rest (tell_open c.args.closed.now rest (length rest - 1) _ h (omega (arith, length-drop c.loop-at.at t, ap length e, c.loop-at-test.true)) f)

pub loop-at-preserved : goal.loop-at-preserved
loop-at-preserved c =
    let t = c.args.text.now in
    let P : List ℕ → Type 0 = λ u. UnitOf c.unit_len-at.result u in
    let u = subst P c.split_at.ensures.back c.unit_len-at.ensures in
    let m = unit_moves c.loop-at.at c.unit_len-at.result t c.loop-at.invariant.within u in
    record {
      within = m.within;
      piece = piece_more c.loop-at.at c.unit_len-at.result t c.loop-at.invariant.piece u
          (λ e. c.if-first_octet-eq59.false (c.first_octet.ensures ∙ ap first_octet c.split_at.ensures.back ∙ e));
    }
