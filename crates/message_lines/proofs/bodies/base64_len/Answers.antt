use Rattle.std.proofs.Common.{ℕ, ◌+◌, ◌*◌, ap, sym, ◌∙◌}
use Rattle.message_lines.proofs.BaseLemmas.{base64_lines_len}
use Rattle.message_lines.proofs.bodies.base64_len.Goals as goal

pub returns : goal.returns
returns c =
    let symbols = c.div_ceil-symbols.result * 4 in
    ap (λ (n : ℕ). symbols + n * 2) c.div_ceil.ensures ∙ sym (base64_lines_len c.args.octets.now symbols (ap (λ (n : ℕ). n * 4) c.div_ceil-symbols.ensures))
