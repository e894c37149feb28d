use Rattle.std.proofs.Common.{◌≡◌, [], ◌∷◌, drop, map}
use Rattle.set_given.specs.Given.{Given}
use Rattle.set_given.specs.reading.Givens.{IsGiven}
use Rattle.set_patches.specs.reading.Parts.{part_data}
use Rattle.email_checks.specs.Asked.{asked_folders}
use Rattle.email_checks.proofs.folders_asked.asked_folders.Given as goal

-- what the rest asks of those so far is what all ask
abbrev pub invariant-loop-part : goal.invariant-loop-part
invariant-loop-part l = (g : Given) → IsGiven l.given g
    → asked_folders g (map part_data (drop l.part-index l.part-items)) l.folders.keys ≡ asked_folders g (map part_data l.part-items) (l.now ∷ [])
