use Rattle.std.proofs.Common.{◌≡◌, drop, map}
use Rattle.jmap_core.specs.reading.Forms.{noted, known_capabilities}
use Rattle.jmap_core.proofs.request_body.using_of.Given as goal

-- what all names use is what the rest adds to those so far
abbrev pub invariant-loop-name : goal.invariant-loop-name
invariant-loop-name l = known_capabilities (map (λ t. t.now) l.name-items) ≡ noted l.uses (map (λ t. t.now) (drop l.name-index l.name-items))
