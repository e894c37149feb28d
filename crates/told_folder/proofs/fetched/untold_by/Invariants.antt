use Rattle.std.proofs.Common.{◌≡◌, ℕ, take, nat_cmp}
use Rattle.std.specs.BTreeSet.{contains}
use Rattle.told_folder.specs.ToldBy.{is_told}
use Rattle.told_folder.proofs.fetched.untold_by.Given as goal

abbrev pub invariant-loop-response : goal.invariant-loop-response
invariant-loop-response l = (uid : ℕ) → contains nat_cmp l.told uid ≡ is_told (take l.response-index l.responses) uid
