use Rattle.std.proofs.Common.{◌≡◌, drop}
use Rattle.serde_json.specs.Data.{no_members}
use Rattle.serde_json.specs.View.{members_view}
use Rattle.email_objects.specs.Properties.{with_keywords}
use Rattle.email_objects.proofs.metadata.keyword_members.Given as goal

-- the members with all keywords are those so far with the rest
abbrev pub invariant-loop-keyword : goal.invariant-loop-keyword
invariant-loop-keyword l =
    with_keywords l.keywords no_members ≡ with_keywords (drop l.keyword-index l.keywords) (members_view l.members.entries)
