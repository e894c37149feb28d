use Rattle.std.proofs.Common.{ℕ, List, ◌∙◌, ap, take, drop}
use Rattle.header_words.proofs.PrintableLemmas.{dropped_break, kept_sign}
use Rattle.header_words.proofs.quoted_printable.break_at.Goals as goal

pub returns-then-len-eq0 : goal.returns-then-len-eq0
returns-then-len-eq0 c =
    kept_sign c.args.behind.now c.cut.result.1.now c.split_at.result.1.now c.split_at.result.0.now c.line_end_len-len.result c.cut.ensures.back c.line_end_len-len.ensures.value
    c.if-len-eq0.true
    (c.split_at.ensures.front ∙ ap (λ (u : List ℕ). take 1 u) c.requires) (c.split_at.ensures.back ∙ ap (λ (u : List ℕ). drop 1 u) c.requires)

pub returns : goal.returns
returns c =
    dropped_break c.args.behind.now c.cut.result.1.now c.split_at-3.result.1.now c.split_at-2.result.0.now c.line_end_len-len.result c.cut.ensures.back c.split_at-2.ensures.front
    c.line_end_len-len.ensures.value c.if-len-eq0.false c.split_at-3.ensures.back
