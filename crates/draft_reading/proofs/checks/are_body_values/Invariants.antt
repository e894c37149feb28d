use Rattle.std.proofs.Common.{◌≡◌}
use Rattle.serde_json.specs.View.{members_view}
use Rattle.draft_reading.specs.Parts.{is_body_value}
use Rattle.draft_reading.specs.Values.{each_member}
use Rattle.draft_reading.proofs.checks.are_body_values.Given as goal

-- the answer for all is that for those that are left
abbrev pub invariant-loop-key : goal.invariant-loop-key
invariant-loop-key l = each_member (λ k v. is_body_value v) (members_view l.members.entries) ≡ each_member (λ k v. is_body_value v) (members_view l._key-iterator)
