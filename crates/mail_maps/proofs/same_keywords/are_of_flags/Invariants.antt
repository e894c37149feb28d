use Rattle.std.proofs.Common.{◌≡◌, drop}
use Rattle.std.specs.List.{flat_map}
use Rattle.mail_maps.specs.Keywords.{keyword_of}
use Rattle.mail_maps.specs.reading.Compared.{are_among}
use Rattle.mail_maps.proofs.same_keywords.are_of_flags.Given as goal

abbrev pub invariant-loop-name : goal.invariant-loop-name
invariant-loop-name l = are_among (flat_map keyword_of l.flags) (drop l.name-index l.names) ≡ are_among (flat_map keyword_of l.flags) l.names
