use Rattle.std.proofs.Common.{◌≡◌, ◌&&◌}
use Rattle.serde_json.specs.View.{members_view}
use Rattle.draft_reading.specs.Properties.{any_key}
use Rattle.draft_reading.specs.Values.{each_member, is_true}
use Rattle.draft_reading.proofs.checks.is_set.Given as goal

-- the answer for all is that for those that are left
abbrev pub invariant-loop-key : goal.invariant-loop-key
invariant-loop-key l =
    each_member (λ k v. any_key k && is_true v) (members_view l.members.entries) ≡ each_member (λ k v. any_key k && is_true v) (members_view l._key-iterator)
