use Rattle.std.proofs.Common.{◌≡◌, ◌++◌, sym, ap, ◌∙◌, subst, List, ℕ, drop}
use Rattle.httparse.specs.Grammar.{LineEnd, print_blank}
use Rattle.http_service.proofs.CutTargetLemmas.{blank_more}
use Rattle.http_service.proofs.cut_target.after_blank_lines.Goals as goal

pub lines-preserved : goal.lines-preserved
lines-preserved c =
    let more = blank_more c.args.octets.now c.lines.rest.now c.lines.invariant (λ none. c.lines-test.true (c.line_end_len.ensures.value ∙ none)) in
    let rest = c.split_at.ensures.back ∙ ap (λ (n : ℕ). drop n c.lines.rest.now) c.line_end_len-in-lines.ensures.value in
    subst (λ (l : List ℕ). (ends : List LineEnd) × (c.args.octets.now ≡ print_blank ends ++ l)) (sym rest) more
