use Rattle.std.proofs.Common.{◌≡◌, ◌++◌, map}
use Rattle.mail_maps.specs.reading.Sets.{set_items}
use Rattle.email_checks.specs.Keywords.{flags_missing}
use Rattle.email_checks.specs.reading.Sets.{set_keywords}
use Rattle.email_checks.proofs.keywords.flags_missing.Given as goal

-- the flags so far, and those of the keywords that are left
abbrev pub invariant-loop-keyword : goal.invariant-loop-keyword
invariant-loop-keyword l = l.flags ++ flags_missing (map set_items l.keyword-iterator) (set_keywords l.those) ≡ flags_missing (set_keywords l.these) (set_keywords l.those)
