use Rattle.std.proofs.Common.{subst}
use Rattle.std.specs.Option.{option_copied}
use Rattle.http_service.specs.reading.Values.{AreValues}
use Rattle.http_service.proofs.FieldLemmas.{token_is}
use Rattle.http_service.proofs.fields.token_of.Goals as goal

pub returns-in-Only : goal.returns-in-Only
returns-in-Only c = λ values are.
    token_is c.args.octets.now values c.in-Only.value c.of.result.now (option_copied c.bearer_token.result)
    (subst (AreValues c.args.octets.now values) c.in-Only.is are) c.of.ensures c.bearer_token.ensures
