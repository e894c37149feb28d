-- Each part under a message is a leaf or a multipart.
use Rattle.std.proofs.Common.{◌≡◌, ℕ, zero, suc, ◌+◌, ◌⊎◌, inl, inr, Bool, true, false, List, [], ◌∷◌, cond, refl, sym, ap, subst, ◌∙◌, Option, Some, None}
use Rattle.std.specs.Prelude.{slice_range}
use Rattle.text_words.specs.Cuts.{front}
use Rattle.mime_tree.specs.declared.head.Head.{Head}
use Rattle.mime_tree.specs.declared.split.Piece.{Piece}
use Rattle.mime_tree.specs.declared.part.Part.{Part}
use Rattle.mime_tree.specs.Parts.{children, IsUnder}
use Rattle.mime_tree.specs.Heads.{filled, boundary_of, default_in, is_multipart, leaf_media, text_plain}
use Rattle.mime_tree.specs.Trees.{IsLeaf, IsNode, AreTrees, ArePieces, IsPartOf, IsTree, IsSingle, IsMulti}
use Rattle.mime_tree.proofs.UnderLemmas.{UnderOne, under_first, none_under, itself_or_below, under_leaf}

abbrev pub IsEither : Part → Type 0
IsEither p = IsSingle p ⊎ IsMulti p

plain_single : is_multipart text_plain ≡ false
unfolding is_multipart text_plain front
plain_single = refl

leaf_single : (media : List ℕ) → is_multipart (leaf_media media) ≡ false
leaf_single media = by (is_multipart media) refl
  where
    by : (q : Bool) → is_multipart media ≡ q → is_multipart (cond q text_plain media) ≡ false
    by true e = plain_single
    by false e = e

leaf_is : (h : Head) (f : ℕ) (p : Part) (n : ℕ) → IsLeaf h f p n → IsEither p
leaf_is h f p n l = inl (record { number = f; number_is = l.number; children = l.children; media = ap is_multipart l.media ∙ leaf_single h.media })

node_is : (h : Head) (body : List ℕ) (qs : List Piece) (p : Part) → ArePieces (boundary_of h) body (Some qs) → IsNode h p → IsEither p
node_is h body qs p a i = inr (record { number = i.number; media = ap is_multipart i.media ∙ by (is_multipart h.media) refl a })
  where
    by : (q : Bool) → is_multipart h.media ≡ q → ArePieces (cond q (filled h.header.boundary) None) body (Some qs) → is_multipart h.media ≡ true
    by true e a = e
    by false e a = absurd cc

abbrev AllEither : ℕ → List ℕ → Type 0
AllEither more b = (s e : ℕ) (d : List ℕ) (f : ℕ) (p : Part) (n : ℕ) → IsTree more b s e d f p n → (q : Part) → IsUnder q p → IsEither q

trees_either : (more : ℕ) (b : List ℕ) → AllEither more b → (base : ℕ) (d : List ℕ) (qs : List Piece) (f : ℕ) (cs : List Part) (n : ℕ) → AreTrees (IsTree more b) base d qs f cs n
    → (q : Part) → UnderOne q cs → IsEither q
trees_either more b all base d [] f [] n t q u = absurd (none_under q u)
trees_either more b all base d [] f (c ∷ cs) n t q u = absurd t
trees_either more b all base d (x ∷ qs) f [] n t q u = absurd t
trees_either more b all base d (x ∷ qs) f (c ∷ cs) n t q u = by (under_first q c cs u) (λ i. trees_either more b all base d qs t.0 cs n t.2 q i)
  where
    by : IsUnder q c ⊎ UnderOne q cs → (UnderOne q cs → IsEither q) → IsEither q
    by (inl i) later = all (base + x.start) (base + x.end) d f c t.0 t.1 q i
    by (inr i) later = later i

leaf_either : (h : Head) (f : ℕ) (p : Part) (n : ℕ) → IsLeaf h f p n → (q : Part) → IsUnder q p → IsEither q
leaf_either h f p n l q u = let P : Part → Type 0 = λ x. IsEither x in subst P (sym (under_leaf q p l.children u)) (leaf_is h f p n l)

part_either : (more : ℕ) (b : List ℕ) → AllEither more b → (h : Head) (qs : Option (List Piece)) (f : ℕ) (p : Part) (n : ℕ)
    → ArePieces (boundary_of h) (slice_range b h.body h.end) qs → IsPartOf (IsTree more b) h qs f p n → (q : Part) → IsUnder q p → IsEither q
part_either more b all h None f p n a k q u = leaf_either h f p n k q u
part_either more b all h (Some qs) f p n a k q u = by (itself_or_below q p u)
  where
    by : (q ≡ p) ⊎ UnderOne q (children p) → IsEither q
    by (inl e) = let P : Part → Type 0 = λ x. IsEither x in subst P (sym e) (node_is h (slice_range b h.body h.end) qs p a k.0)
    by (inr i) = trees_either more b all h.body (default_in h.media) qs f (children p) n k.1 q i

-- each part of a tree, its root too, is a leaf or a multipart
pub tree_either : (more : ℕ) (b : List ℕ) → AllEither more b
unfolding IsTree
tree_either zero b s e d f p n t q u = leaf_either t.0 f p n t.2 q u
tree_either (suc more) b s e d f p n t q u = part_either more b (tree_either more b) t.0 t.2 f p n t.3 t.4 q u
