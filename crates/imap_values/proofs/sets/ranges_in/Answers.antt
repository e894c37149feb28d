use Rattle.std.proofs.Common.{◌≡◌, ◌∙◌, ◌++◌, ℕ, ap, sym, arith}
use Rattle.imap_values.specs.Sets.{ranges_read}
use Rattle.imap_values.proofs.SetReadings.{range_end}
use Rattle.imap_values.proofs.sets.ranges_in.Goals as goal

pub returns : goal.returns
returns c =
    let none : c.loop-left.left ≡ 0 = omega (arith, c.loop-left-test.false) in
    sym (range_end c.loop-left.ranges.items c.loop-left.rest.now) ∙ ap (λ (n : ℕ). c.loop-left.ranges.items ++ ranges_read n c.loop-left.rest.now) (sym none)
    ∙ c.loop-left.invariant
