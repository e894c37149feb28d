use Rattle.std.proofs.Common.{◌≡◌, []}
use Rattle.serde_json.specs.View.{members_view}
use Rattle.set_given.specs.Given.{Given}
use Rattle.set_given.specs.reading.Givens.{IsGiven}
use Rattle.set_patches.specs.Patches.{member_keys}
use Rattle.email_checks.specs.Asked.{with_named}
use Rattle.email_checks.proofs.folders_asked.folders_in.Given as goal

-- those so far with those of the members that are left
abbrev pub invariant-loop-key : goal.invariant-loop-key
invariant-loop-key l = (g : Given) → IsGiven l.given g
    → with_named g (member_keys (members_view l.key-iterator)) l.folders.keys ≡ with_named g (member_keys (members_view l.members.entries)) []
