use Rattle.std.proofs.Common.{◌≡◌, drop}
use Rattle.std.specs.List.{flat_map}
use Rattle.mail_maps.specs.Keywords.{keyword_of}
use Rattle.mail_maps.specs.reading.Compared.{are_among}
use Rattle.mail_maps.proofs.same_keywords.have_keywords.Given as goal

abbrev pub invariant-loop-flag : goal.invariant-loop-flag
invariant-loop-flag l = are_among l.names (flat_map keyword_of (drop l.flag-index l.flags)) ≡ are_among l.names (flat_map keyword_of l.flags)
