use Rattle.field_values.proofs.MomentLemmas.{shown}
use Rattle.field_values.proofs.forms.date_value.Goals as goal

pub moment_text-requires : goal.moment_text-requires
moment_text-requires c = shown c.args.raw.now _ c.in-Some.moment c.in-Some.is c.in_ok-as_date.ensures
