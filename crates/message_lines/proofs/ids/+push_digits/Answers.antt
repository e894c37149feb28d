use Rattle.std.proofs.Common.{◌≢◌, ℕ, [], ◌∷◌, ◌++◌, ap, ◌∙◌, arith}
use Rattle.message_lines.proofs.IdLemmas.{digit_more}
use Rattle.message_lines.proofs.ids.+push_digits.Goals as goal

pub returns : goal.returns
returns t c =
    let some : c.args.count ≢ 0 = omega arith in
    digit_more c.args.count c.args.number c.args.text.now.items c.push_digits.new.text.items c.push.new.self.items some c.in_ok-push_digits.ensures
    (c.in_ok-push.ensures.items ∙ ap (λ (d : ℕ). c.push_digits.new.text.items ++ d ∷ []) c.hex_digit.ensures)
