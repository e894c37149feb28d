use Rattle.std.proofs.Common.{sym, ◌∙◌}
use Rattle.loose_addresses.proofs.AngleLemmas.{last_here}
use Rattle.loose_addresses.proofs.angles.last_angle.Goals as goal

pub returns-in-None : goal.returns-in-None
returns-in-None c = absurd (c.in-None.ensures c.in-Some.ensures.behind (c.split_at.ensures.back ∙ c.in-Some.ensures.at))

pub returns-in-Some-behind : goal.returns-in-Some-behind
returns-in-Some-behind c =
    last_here c.in-Some.at c.args.text.now c.split_at.result.0.now c.in-Some-behind.inner.now c.cut.result.0.now c.in-Some.ensures c.split_at.ensures.front
    (sym c.split_at.ensures.back ∙ c.in-Some-behind.ensures) c.cut.ensures.front
