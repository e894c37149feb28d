use Rattle.std.proofs.Common.{◌≡◌, ◌||◌, ◌∙◌, Bool, sym, ap, refl, nat_lt}
use Rattle.gate_world.proofs.Joins.{widen}
use Rattle.imap_exchange.proofs.Conversing.{offered}
use Rattle.imap_exchange.proofs.sending.is_written.Goals as goal
use Rattle.imap_exchange.proofs.sending.is_written.Goals.{then-taken, else-taken}

pub returns-clause-tape : goal.returns-clause-tape
returns-clause-tape g c =
    let now : c.if-taken.taken ≡ (c.args.taken.now || nat_lt 0 c.write_some-count.result) = elim c.if-taken.branch [
      | then-taken w ↦ w.taken-is ∙ w.if-taken.true ∙ ap (λ (b : Bool). b || nat_lt 0 c.write_some-count.result) (sym w.if-taken.true)
      | else-taken w ↦ w.taken-is ∙ ap (λ (b : Bool). b || nat_lt 0 c.write_some-count.result) (sym w.if-taken.false)
    ] in
    widen _ c.write_some-count.ensures.tape
    (λ x t. offered _ c.args.taken.now c.if-taken.taken c.args.text.now c.write_some-count.result c.write_some-count.ensures.bound refl now t)
