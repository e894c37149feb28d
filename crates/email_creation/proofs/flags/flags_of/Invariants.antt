use Rattle.std.proofs.Common.{◌≡◌, ◌++◌, map}
use Rattle.mail_maps.specs.reading.Sets.{set_items}
use Rattle.email_checks.specs.Keywords.{flag_of}
use Rattle.email_checks.specs.reading.Sets.{set_keywords}
use Rattle.email_creation.proofs.flags.flags_of.Given as goal

-- the flags so far, and those of the keywords that are left
abbrev pub invariant-loop-keyword : goal.invariant-loop-keyword
invariant-loop-keyword l = l.flags ++ map flag_of (map set_items l.keyword-iterator) ≡ map flag_of (set_keywords l.set)
