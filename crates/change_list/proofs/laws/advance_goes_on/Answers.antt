use Rattle.change_list.proofs.AdvanceLaws.{advance_goes_on}
use Rattle.change_list.proofs.laws.advance_goes_on.Goals as goal

pub returns : goal.returns
returns g c = advance_goes_on
