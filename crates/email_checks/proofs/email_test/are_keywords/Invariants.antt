use Rattle.std.proofs.Common.{◌≡◌}
use Rattle.serde_json.specs.View.{members_view}
use Rattle.email_checks.specs.Asked.{are_right}
use Rattle.jmap_values.specs.Keywords.{is_keyword}
use Rattle.email_checks.proofs.email_test.are_keywords.Given as goal

-- the answer for all is that for those that are left
abbrev pub invariant-loop-key : goal.invariant-loop-key
invariant-loop-key l = are_right is_keyword (members_view l.members.entries) ≡ are_right is_keyword (members_view l.key-iterator)
