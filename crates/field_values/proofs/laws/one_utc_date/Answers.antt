use Rattle.std.proofs.Common.{refl, Some}
use Rattle.field_values.specs.UtcDates.{utc_moment}
use Rattle.field_values.proofs.FormLemmas.{one_moment_data}
use Rattle.field_values.proofs.laws.one_utc_date.Goals as goal

pub returns : goal.returns
returns c = λ seconds d e p q. one_moment_data (Some (utc_moment seconds)) (Some (utc_moment seconds)) d e refl p q
