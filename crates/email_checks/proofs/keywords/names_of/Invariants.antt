use Rattle.std.proofs.Common.{◌≡◌, ◌++◌, map}
use Rattle.mail_maps.specs.reading.Sets.{set_items}
use Rattle.email_checks.specs.reading.Sets.{set_keywords}
use Rattle.email_checks.proofs.keywords.names_of.Given as goal

-- the names so far, and those that are left
abbrev pub invariant-loop-keyword : goal.invariant-loop-keyword
invariant-loop-keyword l = l.names ++ map set_items l.keyword-iterator ≡ set_keywords l.keywords
