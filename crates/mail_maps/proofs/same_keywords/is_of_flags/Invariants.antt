use Rattle.std.proofs.Common.{◌≡◌, drop}
use Rattle.std.specs.List.{flat_map}
use Rattle.mail_maps.specs.Keywords.{has_name, keyword_of}
use Rattle.mail_maps.proofs.same_keywords.is_of_flags.Given as goal

abbrev pub invariant-loop-flag : goal.invariant-loop-flag
invariant-loop-flag l = has_name l.name (flat_map keyword_of (drop l.flag-index l.flags)) ≡ has_name l.name (flat_map keyword_of l.flags)
