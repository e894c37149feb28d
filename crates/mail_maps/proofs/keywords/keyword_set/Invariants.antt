use Rattle.std.proofs.Common.{◌≡◌, nat_cmp, drop, map}
use Rattle.std.specs.List.{flat_map}
use Rattle.std.specs.Cmp.Lexicographic.{slice_cmp}
use Rattle.mail_maps.specs.Keywords.{sorted_into, keyword_of, keywords_of}
use Rattle.mail_maps.specs.reading.Sets.{set_items}
use Rattle.mail_maps.proofs.keywords.keyword_set.Given as goal

abbrev pub invariant-loop-flag : goal.invariant-loop-flag
invariant-loop-flag l = sorted_into (slice_cmp nat_cmp) (map set_items l.set.keys) (flat_map keyword_of (drop l.flag-index l.flags)) ≡ keywords_of l.flags
