use Rattle.field_values.proofs.PropertyLemmas.{one_property}
use Rattle.field_values.proofs.laws.one_property_data.Goals as goal

pub returns : goal.returns
returns c = λ asked fields d e p q. one_property asked fields d e p q
