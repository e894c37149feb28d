use Rattle.honest_store.proofs.Answered.{run_apart, run_well_formed}
use Rattle.honest_store.proofs.laws.stores_go_on.Goals as goal

pub returns : goal.returns
returns c = record { mail = run_well_formed; names = run_apart }
