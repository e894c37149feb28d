use Rattle.std.proofs.Common.{◌≡◌, map, nat_cmp}
use Rattle.std.specs.Cmp.Lexicographic.{slice_cmp}
use Rattle.serde_json.specs.View.{members_view}
use Rattle.mail_maps.specs.Keywords.{sorted_into}
use Rattle.set_patches.specs.Patches.{member_keys}
use Rattle.email_checks.specs.Keywords.{keyword_in, sorted_names}
use Rattle.email_checks.specs.reading.Sets.{set_keywords}
use Rattle.email_checks.proofs.keywords.keywords_in.Given as goal

-- those so far with those of the members that are left
abbrev pub invariant-loop-key : goal.invariant-loop-key
invariant-loop-key l =
    sorted_into (slice_cmp nat_cmp) (set_keywords l.keywords) (map keyword_in (member_keys (members_view l.key-iterator)))
    ≡ sorted_names (map keyword_in (member_keys (members_view l.members.entries)))
