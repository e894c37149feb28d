use Rattle.std.proofs.Common.{◌≡◌}
use Rattle.std.specs.List.{list_all}
use Rattle.serde_json.specs.View.{members_view}
use Rattle.set_given.specs.Given.{Given}
use Rattle.set_given.specs.reading.Givens.{IsGiven}
use Rattle.set_patches.specs.Patches.{member_keys}
use Rattle.email_checks.specs.Asked.{names_folder}
use Rattle.email_creation.proofs.mailboxes.name_folders.Given as goal

-- the answer for all is that for those that are left
abbrev pub invariant-loop-key : goal.invariant-loop-key
invariant-loop-key l = (g : Given) → IsGiven l.given g
    → list_all (names_folder g) (member_keys (members_view l.members.entries)) ≡ list_all (names_folder g) (member_keys (members_view l.key-iterator))
