use Rattle.std.proofs.Common.{List, ℕ, sym, ◌∙◌, subst}
use Rattle.thread_rule.specs.BaseSubject.{DropsBlob}
use Rattle.thread_rule.proofs.PieceLemmas.{of_none}
use Rattle.thread_rule.proofs.BlobLemmas.{no_blob, blob_here}
use Rattle.thread_rule.proofs.subject.behind_blob.Goals as goal

pub returns-in_err-gap : goal.returns-in_err-gap
returns-in_err-gap c =
    of_none _ c.from_residual-in_err-gap.result c.from_residual-in_err-gap.ensures
    (no_blob c.args.text.now c.in_ok-inside.inside.now c.in_ok-inside.ensures (λ t e. c.in_err-gap.ensures t (c.cut.ensures.back ∙ e)))

pub returns : goal.returns
returns c =
    let s = c.args.text.now in
    let i = c.in_ok-inside.inside.now in
    let g = c.in_ok-gap.gap.now in
    let P : List ℕ → Type 0 = λ u. DropsBlob s u in
    subst P (sym c.cut-2.ensures.back) (blob_here s i g c.in_ok-inside.ensures (sym c.cut.ensures.back ∙ c.in_ok-gap.ensures))
