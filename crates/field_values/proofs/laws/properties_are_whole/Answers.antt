use Rattle.field_values.proofs.PropertyLemmas.{property_whole, headers_whole}
use Rattle.field_values.proofs.laws.properties_are_whole.Goals as goal

pub returns-clause-property : goal.returns-clause-property
returns-clause-property c = λ asked fields d h. property_whole asked fields d h

pub returns-clause-headers : goal.returns-clause-headers
returns-clause-headers c = λ fields. headers_whole fields
