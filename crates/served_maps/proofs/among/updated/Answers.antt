use Rattle.served_maps.proofs.AmongLemmas.{updated_at}
use Rattle.served_maps.proofs.among.updated.Goals as goal

pub returns : goal.returns
returns g c = λ within q.
    updated_at c.args.ids.now c.args.old.entries c.args.fresh.entries c.len-count.ensures.ordered within q _ _ (c.clear_among.ensures q) (c.in_ok-put_rows.ensures q)
