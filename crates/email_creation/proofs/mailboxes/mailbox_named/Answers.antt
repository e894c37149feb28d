use Rattle.std.proofs.Common.{ℕ, true, false, List}
use Rattle.serde_json.specs.View.{members_view}
use Rattle.set_patches.specs.Patches.{member_keys}
use Rattle.email_creation.proofs.NamedLemmas.{named_as}
use Rattle.email_creation.proofs.mailboxes.mailbox_named.Goals as goal

pub returns-then-name_no_other : goal.returns-then-name_no_other
returns-then-name_no_other c = λ g given.
    let texts : List (List ℕ) = member_keys (members_view c.args.members.now.entries) in
    named_as g texts c.in-Some.folder.now true (c.if-not-name_folders.ensures g given) (c.in-Some.ensures g given) (c.if-name_no_other.ensures g given)

pub returns-else-name_no_other : goal.returns-else-name_no_other
returns-else-name_no_other c = λ g given.
    let texts : List (List ℕ) = member_keys (members_view c.args.members.now.entries) in
    named_as g texts c.in-Some.folder.now false (c.if-not-name_folders.ensures g given) (c.in-Some.ensures g given) (c.if-name_no_other.ensures g given)
