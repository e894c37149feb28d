use Rattle.std.proofs.Common.{subst, ◌≢◌, ℕ, List, ◌∷◌}
use Rattle.header_tokens.proofs.ClosingLemmas.{angle_none, angle_here, angle_within}
use Rattle.header_tokens.proofs.closings.angle_at.Goals as goal

pub split_at-requires : goal.split_at-requires
split_at-requires c =
    angle_within c.args.text.now c.in-Some.rest.now c.cut.result.0.now c.cut.result.1.now c.in-Some-behind.field-0.now c.in-Some.ensures c.cut.ensures.front c.cut.ensures.back
    c.in-Some-behind.ensures

pub returns-in-None : goal.returns-in-None
returns-in-None c =
    angle_none c.args.text.now c.in-Some.rest.now c.in-Some.ensures
    (subst (λ (u : List ℕ). (t : List ℕ) → u ≢ 62 ∷ t) c.cut.ensures.back c.in-None.ensures)

pub returns-in-Some-behind : goal.returns-in-Some-behind
returns-in-Some-behind c =
    angle_here c.args.text.now c.in-Some.rest.now c.cut.result.0.now c.cut.result.1.now c.in-Some-behind.field-0.now c.split_at.result.0.now c.split_at.result.1.now c.in-Some.ensures
    c.cut.ensures.front c.cut.ensures.back c.in-Some-behind.ensures c.split_at.ensures.front c.split_at.ensures.back
