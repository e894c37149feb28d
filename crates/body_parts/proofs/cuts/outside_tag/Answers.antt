use Rattle.std.proofs.Common.{ℕ, ◌++◌, take, drop, ap, ◌∙◌}
use Rattle.body_parts.specs.Cuts.{before_open_tag}
use Rattle.body_parts.proofs.OpenTagLemmas.{near_cut}
use Rattle.body_parts.proofs.cuts.outside_tag.Goals as goal

pub returns-clause-place : goal.returns-clause-place
returns-clause-place c =
    let t = c.args.text.now in
    near_cut t c.split_at.result.1.now c.saturating_sub-far.result c.open_tag.result c.split_at.ensures.back c.open_tag.ensures.place
    ∙ ap (λ (n : ℕ). take n t ++ before_open_tag (drop n t)) c.saturating_sub-far.ensures
