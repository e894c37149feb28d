use Rattle.http_routes.proofs.Compared.{merged-zero, merged-same}
use Rattle.http_routes.proofs.token.merged.Goals as goal

pub returns-clause-zero : goal.returns-clause-zero
returns-clause-zero c = merged-zero c.args.difference c.args.one c.args.other

pub returns-clause-same : goal.returns-clause-same
returns-clause-same c = merged-same c.args.difference c.args.one c.args.other
