use Rattle.http_routes.proofs.Cuts.{cut-some, cut-none}
use Rattle.http_routes.proofs.cutting.after.Goals as goal

pub returns-in-Some : goal.returns-in-Some
returns-in-Some c = (cut-some c.args.mark c.args.text.now (c.in-Some.field-0-0, c.in-Some.after) c.in-Some.ensures.cases c.requires).1

pub returns-in-None : goal.returns-in-None
returns-in-None c = (cut-none c.args.mark c.args.text.now c.in-None.ensures.cases c.requires).1
