use Rattle.std.proofs.Common.{◌∙◌, ℕ, List, Option, subst}
use Rattle.std.specs.Prelude.{IfOk, MatchOption}
use Rattle.message_blobs.specs.NestedLeaves.{LeafSpells}
use Rattle.message_blobs.proofs.nested_leaves.leaf_of.Goals as goal

pub returns : goal.returns
returns c =
    let P : List ℕ → Type 0 = λ u. IfOk c.leaf.result (λ found. MatchOption found ((s : List ℕ) → LeafSpells u c.args.number s → ⊥) (λ s. LeafSpells u c.args.number s)) in
    subst P (c.in_ok-message.ensures ∙ c.in_ok-share.ensures) c.leaf.ensures
