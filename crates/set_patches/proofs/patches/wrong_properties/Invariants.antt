use Rattle.std.proofs.Common.{◌≡◌, Bool, not, drop, filter, map, nat_cmp}
use Rattle.std.specs.Cmp.Lexicographic.{slice_cmp}
use Rattle.serde_json.specs.Data.{Data}
use Rattle.mail_maps.specs.Keywords.{sorted_into}
use Rattle.set_patches.specs.Patches.{Pointer, property_of, wrong_properties}
use Rattle.set_patches.specs.reading.Parts.{names_in, part_data}
use Rattle.set_patches.proofs.patches.wrong_properties.Given as goal

-- those so far with those of the parts that are left
abbrev pub invariant-loop-part : goal.invariant-loop-part
invariant-loop-part g l = (is_right : Pointer → Data → Bool) → g.T.PropertyTest.Tests l.test is_right
    → sorted_into (slice_cmp nat_cmp) (names_in l.names)
    (map (λ (p : Pointer × Data). property_of p.0) (filter (λ (p : Pointer × Data). not (is_right p.0 p.1)) (map part_data (drop l.part-index l.part-items))))
    ≡ wrong_properties is_right (map part_data l.part-items)
