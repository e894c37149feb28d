use Rattle.std.proofs.Common.{◌≡◌, drop, map}
use Rattle.std.specs.List.{list_any}
use Rattle.set_patches.specs.reading.Parts.{part_data, points_nowhere}
use Rattle.set_patches.proofs.patches.one_leads_nowhere.Given as goal

-- the answer for all is that for those that are left
abbrev pub invariant-loop-part : goal.invariant-loop-part
invariant-loop-part l =
    let test = points_nowhere (map (λ t. t.now) l.objects) in
    list_any test (map part_data l.part-items) ≡ list_any test (map part_data (drop l.part-index l.part-items))
