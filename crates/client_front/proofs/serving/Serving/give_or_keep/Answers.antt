use Rattle.std.proofs.Common.{inl, inr}
use Rattle.client_front.proofs.Offered.{none-offered}
use Rattle.client_front.proofs.serving.Serving.give_or_keep.Goals as goal

-- it was late, or a wait failed, before it had taken all that is kept
pub returns-in_err-wait_for_all-clause-nothing : goal.returns-in_err-wait_for_all-clause-nothing
returns-in_err-wait_for_all-clause-nothing g c =
    rw c.from_residual-in_err-wait_for_all.ensures
    (inr (
      record { serving = c.offer.new.self; kept = c.offer.new.kept },
      none-offered g.S.ClientStream.takes c.args.keeps c.args.from.now c.in_ok-count.count (record { serving = c.args.self.now; kept = c.args.kept.now })
          (record { serving = c.offer.new.self; kept = c.offer.new.kept }) c.in_ok-count.ensures.offers c.if-count-gt0.false,
      inl c.in_err-wait_for_all.ensures.fails,
    ))

-- or once it had
pub returns-in_err-given-clause-nothing : goal.returns-in_err-given-clause-nothing
returns-in_err-given-clause-nothing g c =
    rw c.from_residual-in_err-given.ensures
    (inr (
      record { serving = c.offer.new.self; kept = c.offer.new.kept },
      none-offered g.S.ClientStream.takes c.args.keeps c.args.from.now c.in_ok-count.count (record { serving = c.args.self.now; kept = c.args.kept.now })
          (record { serving = c.offer.new.self; kept = c.offer.new.kept }) c.in_ok-count.ensures.offers c.if-count-gt0.false,
      inr (
        c.wait_for_all.new.clock,
        record { serving = c.wait_for_all.new.self; kept = c.wait_for_all.new.kept },
        c.in_ok-wait_for_all.ensures.all,
        c.in_ok-wait_for_all.ensures.none,
        c.in_err-given.ensures.fails c.wait_for_all.new.kept,
      ),
    ))

pub returns-clause-accepts : goal.returns-clause-accepts
returns-clause-accepts g c = inr (
  record { serving = c.offer.new.self; kept = c.offer.new.kept },
  record { serving = c.wait_for_all.new.self; kept = c.wait_for_all.new.kept },
  c.wait_for_all.new.clock,
  none-offered g.S.ClientStream.takes c.args.keeps c.args.from.now c.in_ok-count.count (record { serving = c.args.self.now; kept = c.args.kept.now })
      (record { serving = c.offer.new.self; kept = c.offer.new.kept }) c.in_ok-count.ensures.offers c.if-count-gt0.false,
  c.in_ok-wait_for_all.ensures.all,
  c.in_ok-wait_for_all.ensures.none,
  c.in_ok-given.ensures.in_time c.wait_for_all.new.kept,
)
