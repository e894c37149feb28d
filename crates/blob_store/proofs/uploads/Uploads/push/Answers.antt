use Rattle.std.proofs.Common.{◌≡◌, ◌==◌, ◌+◌, ◌∷◌, ◌++◌, [], Some, length, sym, ap, subst, ◌∙◌, cond, arith}
use Rattle.std.specs.Cmp.Lexicographic.{pointwise}
use Rattle.std.specs.Map.{lookup}
use Rattle.indexmap.specs.IndexMap.{get}
use Rattle.blob_store.specs.Uploads.{blob_id, upload_with, octets_in_all}
use Rattle.blob_store.specs.reading.Kept.{gathered, AreKept}
use Rattle.blob_store.proofs.KeptLemmas.{With, pushed, octets_of-push}
use Rattle.blob_store.proofs.uploads.Uploads.push.Goals as goal

pub invariant_of-self-in_err-insert : goal.invariant_of-self-in_err-insert
invariant_of-self-in_err-insert c =
    let total = c.self.inside.total in
    let at_old = subst (λ ids. AreKept (get (pointwise ◌==◌) c.self.inside.octets) ids × (total ≡ octets_in_all (gathered (get (pointwise ◌==◌) c.self.inside.octets) ids)))
    (sym c.reserve.ensures.items) c.self.invariant in
    subst (λ es. AreKept (λ k. lookup (pointwise ◌==◌ k) es) c.reserve.new.self.items
    × (total ≡ octets_in_all (gathered (λ k. lookup (pointwise ◌==◌ k) es) c.reserve.new.self.items)))
    (sym c.in_err-insert.ensures.err) at_old

-- what stands with the further id in the map and at the end of the queue
grown : (c : goal.After-self-1) → With (get (pointwise ◌==◌) c.self.inside.octets) (get (pointwise ◌==◌) c.insert.new.self) c.args.octets c.self.inside.ids.items
grown c = pushed _ _ c.args.octets c.self.inside.ids.items c.self.invariant.0
    (ap (λ id. upload_with id (gathered (get (pointwise ◌==◌) c.self.inside.octets) c.self.inside.ids.items)) (sym c.requires.id) ∙ ap (upload_with c.args.id) c.self.view_is
    ∙ c.requires.new)
    (λ q. c.in_ok-insert.ensures.updates.0 q ∙ ap (λ id. cond (pointwise ◌==◌ id q) (Some c.args.octets) (get (pointwise ◌==◌) c.self.inside.octets q)) c.requires.id)

-- the queue after the call
queue : (c : goal.After-self-1) → c.self.inside.ids.items ++ blob_id c.args.octets ∷ [] ≡ c.push_back.new.self.items
queue c = (λ i. sym c.reserve.ensures.items i ++ sym c.requires.id i ∷ []) ∙ sym c.in_ok-push_back.ensures.items

pub invariant_of-self-2 : goal.invariant_of-self-2
invariant_of-self-2 c =
    let w = grown c in
    let after = get (pointwise ◌==◌) c.insert.new.self in
    let before = get (pointwise ◌==◌) c.self.inside.octets in (
      subst (AreKept after) (queue c) w.kept,
      omega (
        arith,
        c.self.invariant.1,
        ap length c.as_slice.ensures,
        octets_of-push (gathered before c.self.inside.ids.items) c.args.octets,
        ap octets_in_all w.all,
        ap (λ ids. octets_in_all (gathered after ids)) (queue c),
      ),
    )

pub returns-clause-ok : goal.returns-clause-ok
returns-clause-ok c = ap (gathered (get (pointwise ◌==◌) c.insert.new.self)) (sym (queue c)) ∙ (grown c).all ∙ ap (λ us. us ++ c.args.octets ∷ []) c.self.view_is
