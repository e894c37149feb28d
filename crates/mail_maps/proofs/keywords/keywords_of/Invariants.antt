use Rattle.std.proofs.Common.{◌≡◌, ◌++◌, map}
use Rattle.mail_maps.specs.Keywords.{keywords_of}
use Rattle.mail_maps.specs.reading.Sets.{set_items}
use Rattle.mail_maps.proofs.keywords.keywords_of.Given as goal

abbrev pub invariant-loop-keyword : goal.invariant-loop-keyword
invariant-loop-keyword l = l.names ++ map set_items l.keyword-iterator ≡ keywords_of l.flags
