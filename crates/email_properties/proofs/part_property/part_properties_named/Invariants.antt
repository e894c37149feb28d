use Rattle.std.proofs.Common.{◌≡◌, drop, map, ◌++◌, option_map}
use Rattle.email_properties.specs.PartProperties.{part_property_in}
use Rattle.email_properties.specs.Properties.{all_read}
use Rattle.email_properties.proofs.part_property.part_properties_named.Given as goal

-- the properties so far, and those of the rest, are those of all
abbrev pub invariant-loop-key : goal.invariant-loop-key
invariant-loop-key l = all_read part_property_in (map (λ k. k.now) l.key-items)
    ≡ option_map (λ ps. l.properties.items ++ ps) (all_read part_property_in (map (λ k. k.now) (drop l.key-index l.key-items)))
