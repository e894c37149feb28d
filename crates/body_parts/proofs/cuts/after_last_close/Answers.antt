use Rattle.body_parts.proofs.OpenTagLemmas.{no_close_found, close_found, none_behind}
use Rattle.body_parts.proofs.cuts.after_last_close.Goals as goal

pub returns-in-None-clause-none : goal.returns-in-None-clause-none
returns-in-None-clause-none c = no_close_found c.args.text.now c.in-None.ensures

pub returns-in-Some-clause-place : goal.returns-in-Some-clause-place
returns-in-Some-clause-place c = close_found c.args.text.now c.in-Some.at c.in-Some.ensures

pub returns-in-Some-clause-none : goal.returns-in-Some-clause-none
returns-in-Some-clause-none c = none_behind c.args.text.now c.in-Some.at c.in-Some.ensures
