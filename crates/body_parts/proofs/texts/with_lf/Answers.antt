use Rattle.std.proofs.Common.{◌∙◌, ◌++◌, ℕ, List, ap, sym, drop}
use Rattle.body_parts.specs.Texts.{kept_octet}
use Rattle.body_parts.proofs.TextLemmas.{none_found, found, line_kept}
use Rattle.body_parts.proofs.texts.with_lf.Goals as goal

pub lines-preserved : goal.lines-preserved
lines-preserved c =
    let rest = c.lines.rest.now in
    let front = c.split_at.result.0.now in
    let after = c.split_at-in-Some.result.1.now in
    line_kept c.lines.kept.items rest front after _ c.args.text.now c.in-Some.at
    (c.in_ok-push_octet.ensures ∙ ap (λ (u : List ℕ). u ++ kept_octet 13 after) c.in_ok-extend_from_slice.ensures.items)
    c.split_at.ensures.front
    (c.split_at-in-Some.ensures.back ∙ ap (λ (u : List ℕ). drop 1 u) c.split_at.ensures.back)
    (found rest c.in-Some.at c.in-Some.ensures)
    c.lines.invariant

pub returns : goal.returns
returns c =
    let kept = c.lines.kept.items in
    c.in_ok-extend_from_slice-2.ensures.items ∙ ap (λ (u : List ℕ). kept ++ u) (sym (none_found c.lines.rest.now c.in_default.ensures)) ∙ c.lines.invariant
