use Rattle.std.proofs.Common.{◌∙◌}
use Rattle.served_maps.proofs.AmongLemmas.{made_of, steps_are}
use Rattle.served_maps.proofs.among.steps_among.Goals as goal

pub returns : goal.returns
returns g c = λ new sorted looked same.
    made_of _ _ _ _ _ _ _ c.in_ok-steps.ensures c.in_ok-first.ensures (c.as_slice.ensures.value ∙ c.in_ok-second.ensures)
    (c.as_slice-2.ensures.value ∙ c.in_ok-third.ensures)
    ∙ steps_are (record { same = g.R.Row.same; counts = g.R.Row.but_for_counts }) same c.args.ids.now c.args.old.now.entries c.args.fresh.now.entries new looked
    c.len-ids.ensures.ordered c.len-count.ensures.ordered sorted
