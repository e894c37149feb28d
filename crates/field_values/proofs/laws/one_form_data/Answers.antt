use Rattle.field_values.proofs.FormLemmas.{one_form_data}
use Rattle.field_values.proofs.laws.one_form_data.Goals as goal

pub returns : goal.returns
returns c = λ form raw d e p q. one_form_data form raw d e p q
