use Rattle.std.proofs.Common.{◌≡◌, ◌∙◌, ◌++◌, ℕ, ap, sym, arith}
use Rattle.imap_values.specs.Sets.{words_in}
use Rattle.imap_values.proofs.SetReadings.{word_end}
use Rattle.imap_values.proofs.sets.words_in.Goals as goal

pub returns : goal.returns
returns c =
    let none : c.loop-left.left ≡ 0 = omega (arith, c.loop-left-test.false) in
    sym (word_end c.loop-left.names c.loop-left.rest.now) ∙ ap (λ (n : ℕ). c.loop-left.names ++ words_in n c.loop-left.rest.now) (sym none) ∙ c.loop-left.invariant
