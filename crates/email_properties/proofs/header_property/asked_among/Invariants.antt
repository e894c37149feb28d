use Rattle.std.proofs.Common.{◌≡◌, drop, map}
use Rattle.email_properties.specs.HeaderProperties.{asked_among}
use Rattle.email_properties.proofs.header_property.asked_among.Given as goal

-- what is found among all is what is found among the rest
abbrev pub invariant-loop-ending : goal.invariant-loop-ending
invariant-loop-ending l = asked_among (map (λ e. (e.0.now, e.1, e.2)) l.endings) l.text
    ≡ asked_among (map (λ e. (e.0.now, e.1, e.2)) (drop l.ending-index l.endings)) l.text
