use Rattle.std.proofs.Common.{◌≡◌}
use Rattle.serde_json.specs.View.{members_view}
use Rattle.email_checks.specs.Asked.{are_right, names_folder}
use Rattle.set_given.specs.Given.{Given}
use Rattle.set_given.specs.reading.Givens.{IsGiven}
use Rattle.email_checks.proofs.email_test.are_folders.Given as goal

-- the answer for all is that for those that are left
abbrev pub invariant-loop-key : goal.invariant-loop-key
invariant-loop-key l = (g : Given) → IsGiven l.given g
    → are_right (names_folder g) (members_view l.members.entries) ≡ are_right (names_folder g) (members_view l.key-iterator)
