use Rattle.std.proofs.Common.{◌∙◌}
use Rattle.set_given.proofs.HistoryLemmas.{served_has}
use Rattle.set_given.proofs.given.was_served.Goals as goal

pub returns : goal.returns
returns c g is = c.has.ensures ∙ served_has g.history c.args.given.now.state.now c.args.number is.state
