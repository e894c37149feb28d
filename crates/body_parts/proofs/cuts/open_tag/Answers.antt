use Rattle.body_parts.proofs.OpenTagLemmas.{open_found, no_open_found}
use Rattle.body_parts.proofs.cuts.open_tag.Goals as goal

pub returns-in-None-clause-place : goal.returns-in-None-clause-place
returns-in-None-clause-place c =
    no_open_found c.args.text.now c.split_at.result.1.now c.after_last_close-closed.result c.split_at.ensures.back c.after_last_close-closed.ensures.place c.in-None.ensures

pub returns-in-Some-clause-place : goal.returns-in-Some-clause-place
returns-in-Some-clause-place c =
    open_found c.args.text.now c.split_at.result.1.now c.after_last_close-closed.result c.in-Some.at c.split_at.ensures.back c.after_last_close-closed.ensures.within
    c.after_last_close-closed.ensures.none c.after_last_close-closed.ensures.place c.in-Some.ensures
