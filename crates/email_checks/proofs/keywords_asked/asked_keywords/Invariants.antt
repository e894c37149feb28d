use Rattle.std.proofs.Common.{◌≡◌, None, drop, map, option_map}
use Rattle.mail_maps.specs.Keywords.{keywords_of}
use Rattle.email_checks.specs.Asked.{asked_keywords}
use Rattle.email_checks.specs.reading.Sets.{set_keywords}
use Rattle.set_patches.specs.reading.Parts.{part_data}
use Rattle.email_checks.proofs.keywords_asked.asked_keywords.Given as goal

-- what the rest asks of those so far is what all ask
abbrev pub invariant-loop-part : goal.invariant-loop-part
invariant-loop-part l = asked_keywords (map part_data (drop l.part-index l.part-items)) (option_map set_keywords l.asked) (keywords_of l.flags)
    ≡ asked_keywords (map part_data l.part-items) None (keywords_of l.flags)
