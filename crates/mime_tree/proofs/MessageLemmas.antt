-- What was parsed is the message.
use Rattle.std.specs.Prelude.{IfOk, Result, Ok, Err}
use Rattle.std.proofs.Common.{◌≡◌, ℕ, ◌+◌, List, length, refl, inl, inr, sym, subst, arith}
use Rattle.mime_tree.specs.declared.head.Head.{Head}
use Rattle.mime_tree.specs.declared.part.Part.{Part}
use Rattle.mime_tree.specs.declared.tree.Built.{Built}
use Rattle.mime_tree.specs.declared.tree.TheConstants.{MAX_DEPTH, MAX_PARTS}
use Rattle.mime_tree.specs.Parts.{IsUnder, IsWithin}
use Rattle.mime_tree.specs.Heads.{IsHead, text_plain}
use Rattle.mime_tree.specs.Trees.{IsLeaf, IsTree, IsMessage}
use Rattle.mime_tree.specs.reading.Bounds.{HasMoreParts, IsBuilt}
use Rattle.mime_tree.proofs.TreeLemmas.{tree_zero}
use Rattle.mime_tree.proofs.UnderLemmas.{tree_within}

-- a tree that was built whole
pub whole_message : (b d : List ℕ) (t : Built) (p : Part) → d ≡ text_plain → p ≡ t.part → IsBuilt MAX_PARTS MAX_DEPTH b 0 (length b) d 1 t → IsMessage b p
whole_message b d t p e f i =
    let P : List ℕ → Type 0 = λ u. IsTree MAX_DEPTH b 0 (length b) u 1 t.part t.next in
    let Q : Part → Type 0 = λ x. IsMessage b x in
    subst Q (sym f) (record { levels = MAX_DEPTH; next = t.next; tree = subst P e i.tree; bounded = inl (refl, omega (arith, i.parts, i.few)) })

-- one leaf, where the tree has too many parts
pub leaf_message : (b d : List ℕ) (h : Head) (p : Part) (next : ℕ) → d ≡ text_plain → IsHead b 0 (length b) d h → IsLeaf h 1 p next
    → HasMoreParts MAX_PARTS MAX_DEPTH b 0 (length b) d 1 → IsMessage b p
leaf_message b d h p next e i l m =
    let P : List ℕ → Type 0 = λ u. IsTree 0 b 0 (length b) u 1 p next in
    let Q : List ℕ → Type 0 = λ u. HasMoreParts MAX_PARTS MAX_DEPTH b 0 (length b) u 1 in
    record { levels = 0; next = next; tree = subst P e (tree_zero 0 b 0 (length b) d 1 p next h refl i l); bounded = inr (refl, subst Q e m) }

-- each part of a message lies within it
pub message_within : (b : List ℕ) (p : Part) → IsMessage b p → (q : Part) → IsUnder q p → IsWithin q b
message_within b p h q u = tree_within h.levels b 0 (length b) text_plain 1 p h.next (omega arith) (omega arith) h.tree q u

-- so the leaf that is made, and what stands under it
pub leaf_messages : {E : Type 0} (b d : List ℕ) (h : Head) (r : Result Part E) → d ≡ text_plain → IsHead b 0 (length b) d h
    → HasMoreParts MAX_PARTS MAX_DEPTH b 0 (length b) d 1 → IfOk r (λ (p : Part). IsLeaf h 1 p (1 + 1)) → IfOk r (λ (p : Part). IsMessage b p)
leaf_messages b d h (Ok p) e i m l = leaf_message b d h p (1 + 1) e i l m
leaf_messages b d h (Err x) e i m l = tt

pub messages_within : {E : Type 0} (b : List ℕ) (r : Result Part E) → IfOk r (λ (p : Part). IsMessage b p)
    → IfOk r (λ (p : Part). (q : Part) → IsUnder q p → IsWithin q b)
messages_within b (Ok p) h = message_within b p h
messages_within b (Err x) h = tt
