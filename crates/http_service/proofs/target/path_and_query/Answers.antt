use Rattle.std.proofs.Common.{sym, subst}
use Rattle.http_service.specs.Heads.{IsPathAndQuery}
use Rattle.http_service.proofs.TargetLemmas.{whole_target, after_authority}
use Rattle.http_service.proofs.target.path_and_query.Goals as goal

pub returns-in-None : goal.returns-in-None
returns-in-None c = whole_target c.args.target.now c.in-None.ensures

pub returns-in-Some : goal.returns-in-Some
returns-in-Some c = subst (IsPathAndQuery c.args.target.now) (sym c.cut.ensures.back) (after_authority c.args.target.now c.in-Some.rest.now c.in-Some.ensures)
