use Rattle.std.proofs.Common.{rules, arith, ◌∙◌, sym, subst, Bool, true, ap}
use Rattle.std.proofs.lemmas.Result.{err_from_is_err_and}
use Rattle.gate_world.proofs.Joins.{join, widen}
use Rattle.imap_exchange.specs.Exchanges.{is_continue}
use Rattle.imap_exchange.specs.reading.Sending.{Offers, piece_at}
use Rattle.imap_exchange.proofs.Conversing.{first_piece, heard, unheard, wanting, opened, one_not_continue, one_continue, continued, rose_later, done, not_whole, ends}
use Rattle.imap_exchange.proofs.exchange.converse.Goals as goal

pub conversing-init : goal.conversing-init
conversing-init g c =
    record {
      tape = rw c.new-responses.ensures.items (widen _ c.send_piece.ensures.tape
          (λ x offers. first_piece c.args.pieces.now c.args.received.now c.send_piece.result c.send_piece.new.taken
          (subst (λ (b : Bool). Offers true c.send_piece.result b c.send_piece.new.taken (piece_at c.args.pieces.now 0) x) c.requires.none
          (subst (λ (b : Bool). Offers b c.send_piece.result c.args.taken.now c.send_piece.new.taken (piece_at c.args.pieces.now 0) x) c.requires.up offers))));
      place = rw c.new-responses.ensures.items (omega (arith, c.requires.some));
      room = omega arith;
      begun = omega (arith, c.offset-begun.ensures);
      down = c.send_piece.ensures.cause c.requires.up;
      alone = search rules;
      hidden = search rules;
    }

pub returns-in_err-response-clause-tape : goal.returns-in_err-response-clause-tape
returns-in_err-response-clause-tape g c =
    let is = err_from_is_err_and c.from_residual.result c.from_residual.ensures.1 in
    rw (is.1, is.2) (join _ c.conversing.invariant.tape c.in_err-response.ensures.tape
    (λ x y so reads. unheard c.args.due.now c.offset-begun.result c.next_response.new.received c.next_response.new.up c.in_err-response.field-0.0 c.offset-begun.ensures
    c.conversing.invariant.place so reads))

-- an open response
pub conversing-preserved-in-Continue-branch-2 : goal.conversing-preserved-in-Continue-branch-2
conversing-preserved-in-Continue-branch-2 g c =
    record {
      tape = rw c.in_ok-keep-in-Open.ensures (join _ c.conversing.invariant.tape c.in_ok-response.ensures.tape
          (λ x y so reads. opened c.in_ok-response.response c.in-Open.ensures.0 c.in-Open.ensures.1
          (heard c.offset-begun.result c.next_response.new.up c.in_ok-response.response c.offset-begun.ensures c.conversing.invariant.place c.in_ok-response.ensures.stays so
          reads)));
      place = rw c.in_ok-keep-in-Open.ensures (omega (
        arith,
        c.conversing.invariant.place,
        one_not_continue c.conversing.responses.items c.in-Open.response
            (ap is_continue c.in-Open.ensures.0 ∙ c.in-Open.ensures.2),
      ));
      room = omega (arith, c.conversing.invariant.room, c.in_ok-response.ensures.progress);
      begun = omega (arith, c.conversing.invariant.begun, c.in_ok-response.ensures.given);
      down = λ is. omega (arith, c.conversing.invariant.down (sym c.in_ok-response.ensures.stays ∙ is), c.in_ok-response.ensures.alone.link);
      alone = search rules;
      hidden = search rules;
    }

pub returns-in_err-keep-in-Open-clause-tape : goal.returns-in_err-keep-in-Open-clause-tape
returns-in_err-keep-in-Open-clause-tape g c =
    let is = err_from_is_err_and c.from_residual-in_err-keep-in-Open.result c.from_residual-in_err-keep-in-Open.ensures.1 in
    rw (is.1, is.2) (join _ c.conversing.invariant.tape c.in_ok-response.ensures.tape
    (λ x y so reads. let h = heard c.offset-begun.result c.next_response.new.up c.in_ok-response.response c.offset-begun.ensures c.conversing.invariant.place
    c.in_ok-response.ensures.stays so reads in
    wanting c.args.due.now c.next_response.new.received h.speaks h.taken_is))

pub returns-in_err-keep-in-Continue-clause-tape : goal.returns-in_err-keep-in-Continue-clause-tape
returns-in_err-keep-in-Continue-clause-tape g c =
    let is = err_from_is_err_and c.from_residual-in_err-keep-in-Continue.result c.from_residual-in_err-keep-in-Continue.ensures.1 in
    rw (is.1, is.2) (join _ c.conversing.invariant.tape c.in_ok-response.ensures.tape
    (λ x y so reads. let h = heard c.offset-begun.result c.next_response.new.up c.in_ok-response.response c.offset-begun.ensures c.conversing.invariant.place
    c.in_ok-response.ensures.stays so reads in
    wanting c.args.due.now c.next_response.new.received h.speaks h.taken_is))

-- a continuation
pub conversing-preserved : goal.conversing-preserved
conversing-preserved g c =
    let here = c.in-Continue.ensures in
    let counted = one_continue c.conversing.responses.items in
    record {
      tape = rw c.in_ok-keep-in-Continue.ensures (join _
          (join _ c.conversing.invariant.tape c.in_ok-response.ensures.tape
          (λ x y so reads. heard c.offset-begun.result c.next_response.new.up c.in_ok-response.response c.offset-begun.ensures c.conversing.invariant.place
          c.in_ok-response.ensures.stays so reads))
          c.send_piece-in-Continue.ensures.tape (λ x z h offers. continued c.in_ok-response.response c.next_place-at.result c.send_piece-in-Continue.result c.send_piece-in-Continue.new.taken here
          c.conversing.invariant.place c.next_place-at.ensures h offers));
      place = rw c.in_ok-keep-in-Continue.ensures (omega (arith, c.conversing.invariant.place, c.next_place-at.ensures, counted));
      room = omega (arith, c.conversing.invariant.room, c.in_ok-response.ensures.progress);
      begun = omega (arith, c.conversing.invariant.begun, c.in_ok-response.ensures.given);
      down = λ is. rose_later c.next_response.new.up _ _ _
          (λ was. omega (arith, c.conversing.invariant.down (sym c.in_ok-response.ensures.stays ∙ was), c.in_ok-response.ensures.alone.link))
          (λ was. c.send_piece-in-Continue.ensures.cause was is)
          (omega (arith, c.conversing.invariant.alone.link, c.in_ok-response.ensures.alone.link)) c.send_piece-in-Continue.ensures.alone.link;
      alone = search rules;
      hidden = search rules;
    }

pub returns-then-not-is_settled-clause-tape : goal.returns-then-not-is_settled-clause-tape
returns-then-not-is_settled-clause-tape g c =
    join _ c.conversing.invariant.tape c.in_ok-response.ensures.tape
    (λ x y so reads. not_whole c.args.due.now c.in_ok-response.response c.in-Done.status c.in-Done.code c.conversing.invariant.place c.in-Done.ensures.0 c.in-Done.ensures.1
    (sym c.is_settled.ensures ∙ c.if-not-is_settled.true)
    (heard c.offset-begun.result c.next_response.new.up c.in_ok-response.response c.offset-begun.ensures c.conversing.invariant.place c.in_ok-response.ensures.stays so reads))

pub returns-in-Done-clause-tape : goal.returns-in-Done-clause-tape
returns-in-Done-clause-tape g c =
    rw c.from_vec.ensures (join _ c.conversing.invariant.tape c.in_ok-response.ensures.tape
    (λ x y so reads. done c.args.due.now c.in_ok-response.response c.in-Done.status c.in-Done.code c.conversing.invariant.place c.in-Done.ensures.0 c.in-Done.ensures.1
    (sym c.is_settled.ensures ∙ c.if-not-is_settled.false)
    (heard c.offset-begun.result c.next_response.new.up c.in_ok-response.response c.offset-begun.ensures c.conversing.invariant.place c.in_ok-response.ensures.stays so reads)))

pub returns-in-Ends-clause-tape : goal.returns-in-Ends-clause-tape
returns-in-Ends-clause-tape g c =
    join _ c.conversing.invariant.tape c.in_ok-response.ensures.tape
    (λ x y so reads. ends c.args.due.now c.in_ok-response.response c.in-Ends.end c.conversing.invariant.place c.in-Ends.ensures
    (heard c.offset-begun.result c.next_response.new.up c.in_ok-response.response c.offset-begun.ensures c.conversing.invariant.place c.in_ok-response.ensures.stays so reads))
