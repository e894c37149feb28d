use Rattle.std.proofs.Common.{◌≡◌, drop, map}
use Rattle.jmap_arguments.specs.Arguments.{is_among}
use Rattle.set_patches.specs.reading.Parts.{part_data}
use Rattle.email_checks.specs.Asked.{has_repeat, keywords_pointed}
use Rattle.email_checks.specs.reading.Sets.{set_keywords}
use Rattle.email_checks.proofs.RepeatLemmas.{collides}
use Rattle.email_checks.proofs.keywords_asked.has_repeat.Given as goal

-- no keyword stood twice so far; the others stand twice among themselves, or stood before
abbrev pub invariant-loop-part : goal.invariant-loop-part
invariant-loop-part l = has_repeat (keywords_pointed (map part_data l.part-items))
    ≡ collides (λ k. is_among k (set_keywords l.keywords)) (keywords_pointed (map part_data (drop l.part-index l.part-items)))
