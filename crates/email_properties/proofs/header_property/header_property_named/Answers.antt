use Rattle.email_properties.proofs.HeaderLemmas.{exact}
use Rattle.email_properties.proofs.header_property.header_property_named.Goals as goal

pub returns-clause-grammar : goal.returns-clause-grammar
returns-clause-grammar c = exact c.args.key.now c.header_in.result c.header_in.ensures
