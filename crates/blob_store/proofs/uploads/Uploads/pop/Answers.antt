use Rattle.std.proofs.Common.{◌≡◌, ◌==◌, ◌-◌, ◌∷◌, Some, length, sym, ap, subst, ◌∙◌, arith}
use Rattle.std.specs.Cmp.Lexicographic.{pointwise}
use Rattle.indexmap.specs.IndexMap.{get}
use Rattle.blob_store.specs.Uploads.{octets_in_all}
use Rattle.blob_store.specs.reading.Kept.{gathered, AreKept}
use Rattle.blob_store.proofs.KeptLemmas.{Without, popped}
use Rattle.blob_store.proofs.uploads.Uploads.pop.Goals as goal

-- what is left where the oldest id is gone from the queue and from the map
left : (c : goal.After-drop-octets-inside) → Without (get (pointwise ◌==◌) c.self.inside.octets)
    (get (pointwise ◌==◌) c.swap_remove.new.self) c.in-Some.id c.pop_front.new.self.items
left c = popped _ _ c.in-Some.id c.pop_front.new.self.items (subst
    (AreKept (get (pointwise ◌==◌) c.self.inside.octets)) c.in-Some.ensures.items c.self.invariant.0) c.swap_remove.ensures.updates.0

pub invariant_of-self-in-Some-swap_remove : goal.invariant_of-self-in-Some-swap_remove
invariant_of-self-in-Some-swap_remove c =
    let w = left c in
    let had : Some c.in-Some-swap_remove.octets ≡ Some w.oldest = sym c.in-Some-swap_remove.is ∙ c.swap_remove.ensures.value ∙ w.had in
    let same : c.in-Some-swap_remove.octets ≡ w.oldest = cc had in (
      w.kept,
      omega (
        arith,
        c.self.invariant.1,
        ap (λ ids. octets_in_all (gathered (get (pointwise ◌==◌) c.self.inside.octets) ids)) c.in-Some.ensures.items,
        ap octets_in_all w.all,
        ap length same,
        ap length c.as_slice.ensures,
      ),
    )

pub returns-in-Some-swap_remove-clause-oldest : goal.returns-in-Some-swap_remove-clause-oldest
returns-in-Some-swap_remove-clause-oldest c octets rest is =
    let w = left c in
    let all : w.oldest ∷ gathered (get (pointwise ◌==◌) c.swap_remove.new.self) c.pop_front.new.self.items ≡ octets ∷ rest =
    sym w.all ∙ ap (gathered (get (pointwise ◌==◌) c.self.inside.octets)) (sym c.in-Some.ensures.items) ∙ c.self.view_is ∙ is in
    cc all

pub returns-in-Some-swap_remove-clause-fewer : goal.returns-in-Some-swap_remove-clause-fewer
returns-in-Some-swap_remove-clause-fewer c =
    let w = left c in
    let all = sym w.all ∙ ap (gathered (get (pointwise ◌==◌) c.self.inside.octets)) (sym c.in-Some.ensures.items) ∙ c.self.view_is in
    omega (arith, ap octets_in_all all)
