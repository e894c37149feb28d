use Rattle.std.proofs.Common.{◌∙◌}
use Rattle.std.proofs.lemmas.Map.Entries.{entries_from_clone}
use Rattle.told_mail.proofs.ToldLemmas.{mirror_same, pair_same}
use Rattle.told_mail.proofs.mirror.Mirror.copy.Goals as goal

pub invariant_of-result : goal.invariant_of-result
invariant_of-result c =
    mirror_same c.self.inside.folders.items c.in_ok-folders.folders.items c.self.inside.marks c.in_ok-marks.marks c.self.inside.numbers c.in_ok-numbers.numbers
    c.self.inside.next_mark
    c.self.inside.next_folder (c.in_ok-folders.ensures ∙ c.as_slice.ensures.value)
    (entries_from_clone _ _ (λ x y e. e) (λ v w e. pair_same v w e.0 e.1) _ _ c.in_ok-marks.ensures.cases) c.in_ok-numbers.ensures c.self.invariant
