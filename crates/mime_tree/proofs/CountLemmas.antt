-- How many parts trees have.
use Rattle.std.proofs.Common.{◌≡◌, ◌≢◌, ℕ, zero, suc, ◌+◌, ◌-◌, ◌<◌, ◌≤◌, List, [], ◌∷◌, ◌++◌, length, refl, sym, ap, subst, ◌∙◌, arith, Option, Some, None}
use Rattle.std.specs.Prelude.{slice_range}
use Rattle.std.specs.List.{sum_by}
use Rattle.std.proofs.lemmas.List.Sums.{sum_by-append, sum_by-cons}
use Rattle.mime_tree.specs.declared.head.Head.{Head}
use Rattle.mime_tree.specs.declared.split.Piece.{Piece}
use Rattle.mime_tree.specs.declared.part.Part.{Part}
use Rattle.mime_tree.specs.declared.tree.Built.{Built}
use Rattle.mime_tree.specs.Parts.{children, parts_within}
use Rattle.mime_tree.specs.Heads.{IsHead, boundary_of, default_in}
use Rattle.mime_tree.specs.Trees.{IsLeaf, AreTrees, ArePieces, IsPartOf, IsTree}
use Rattle.mime_tree.specs.SameTrees.{AllSame, Same}
use Rattle.mime_tree.specs.reading.Bounds.{HasMoreThan, HasMoreParts, IsBuilt}
use Rattle.mime_tree.proofs.OneTree.{one_head, one_pieces, one_tree}
use Rattle.mime_tree.proofs.TreeLemmas.{tree_zero, tree_leaf}

-- how many parts these trees have together
abbrev pub total : ℕ → List Part → ℕ
total more cs = sum_by (parts_within more) cs

-- those of the first, and those of the others
total_cons : (more : ℕ) (c : Part) (cs : List Part) → total more (c ∷ cs) ≡ parts_within more c + total more cs
total_cons more c cs = sum_by-cons (parts_within more) c cs

-- with one more behind them
pub total_push : (more : ℕ) (cs : List Part) (c : Part) (ds : List Part) → ds ≡ cs ++ c ∷ [] → total more ds ≡ total more cs + parts_within more c
total_push more cs c ds e = ap (total more) e ∙ sum_by-append (parts_within more) cs (c ∷ []) ∙ omega (arith, total_cons more c [])

-- a tree has a part
pub parts_some : (more : ℕ) (p : Part) → 0 < parts_within more p
unfolding parts_within
parts_some zero p = omega arith
parts_some (suc more) p = omega arith

-- trees have as many parts as they are, or more
total_some : (more : ℕ) (cs : List Part) → length cs ≤ total more cs
total_some more [] = omega arith
total_some more (c ∷ cs) = omega (arith, parts_some more c, total_some more cs, total_cons more c cs)

all_same : (more : ℕ) → ((p q : Part) → Same more p q → parts_within more p ≡ parts_within more q) → (cs ds : List Part) → AllSame (Same more) cs ds → total more cs ≡ total more ds
all_same more each [] [] h = refl
all_same more each [] (d ∷ ds) h = absurd h
all_same more each (c ∷ cs) [] h = absurd h
all_same more each (c ∷ cs) (d ∷ ds) h = omega (arith, each c d h.0, all_same more each cs ds h.1, total_cons more c cs, total_cons more d ds)

-- trees that are the same have as many parts
pub same_parts : (more : ℕ) (p q : Part) → Same more p q → parts_within more p ≡ parts_within more q
unfolding parts_within Same
same_parts zero p q s = refl
same_parts (suc more) p q s = ap suc (all_same more (λ c d h. same_parts more c d h) (children p) (children q) s.children)

-- ---- leaves

leaf_children : (more : ℕ) (p : Part) → children p ≡ [] → parts_within more p ≡ 1
unfolding parts_within
leaf_children zero p e = refl
leaf_children (suc more) p e = ap (λ (cs : List Part). suc (total more cs)) e

tree_by : (most more : ℕ) (b : List ℕ) (s e : ℕ) (d : List ℕ) (first : ℕ) (t : Built) (h : Head) → most ≢ 0 → IsLeaf h first t.part t.next → t.parts ≡ 1
    → IsTree more b s e d first t.part t.next → IsBuilt most more b s e d first t
tree_by most more b s e d first t h m l n i = record {
  tree = i;
  parts = n ∙ sym (leaf_children more t.part l.children);
  few = omega arith;
  numbers = omega (arith, l.next_is);
}

-- a leaf where no level may be below is a tree of one part
pub tree_of_zero : (most more : ℕ) (b : List ℕ) (s e : ℕ) (d : List ℕ) (first : ℕ) (t : Built) (h : Head) → most ≢ 0 → more ≡ 0 → IsHead b s e d h
    → IsLeaf h first t.part t.next → t.parts ≡ 1 → IsBuilt most more b s e d first t
tree_of_zero most more b s e d first t h m z i l n =
    tree_by most more b s e d first t h m l n (tree_zero more b s e d first t.part t.next h z i l)

-- so is one whose body has no pieces
pub tree_of_leaf : (most more : ℕ) (b : List ℕ) (s e : ℕ) (d : List ℕ) (first : ℕ) (t : Built) (h : Head) → most ≢ 0 → more ≢ 0 → IsHead b s e d h
    → ArePieces (boundary_of h) (slice_range b h.body h.end) None → IsLeaf h first t.part t.next → t.parts ≡ 1 → IsBuilt most more b s e d first t
tree_of_leaf most more b s e d first t h m z i a l n =
    tree_by most more b s e d first t h m l n (tree_leaf more b s e d first t.part t.next h z i a l)

-- ---- more parts than are wanted

-- no tree has no part
pub more_than_none : (more : ℕ) (b : List ℕ) (s e : ℕ) (d : List ℕ) (first most : ℕ) → most ≡ 0 → HasMoreParts most more b s e d first
more_than_none more b s e d first most m = λ p next t. omega (arith, parts_some more p)

trees_len : (more : ℕ) (b : List ℕ) (base : ℕ) (d : List ℕ) (qs : List Piece) (f : ℕ) (cs : List Part) (n : ℕ) → AreTrees (IsTree more b) base d qs f cs n → length qs ≡ length cs
trees_len more b base d [] f [] n t = refl
trees_len more b base d [] f (c ∷ cs) n t = absurd t
trees_len more b base d (q ∷ qs) f [] n t = absurd t
trees_len more b base d (q ∷ qs) f (c ∷ cs) n t = ap suc (trees_len more b base d qs t.0 cs n t.2)

node_parts : (more : ℕ) (b : List ℕ) (s e : ℕ) (d : List ℕ) (first most : ℕ) (h : Head) → IsHead b s e d h
    → ((r : Option (List Piece)) (p : Part) (next : ℕ) → ArePieces (boundary_of h) (slice_range b h.body h.end) r → IsPartOf (IsTree more b) h r first p next
    → most < suc (total more (children p))) → (p : Part) (next : ℕ) → IsTree (suc more) b s e d first p next → most < parts_within (suc more) p
unfolding IsTree parts_within
node_parts more b s e d first most h i each p next t =
    let w = sym (one_head b s e d h t.0 i t.1) in
    let A : Head → Type 0 = λ x. ArePieces (boundary_of x) (slice_range b x.body x.end) t.2 in
    let B : Head → Type 0 = λ x. IsPartOf (IsTree more b) x t.2 first p next in
    each t.2 p next (subst A w t.3) (subst B w t.4)

by_level : (more : ℕ) (P : ℕ → Type 0) → more ≢ 0 → ((n : ℕ) → more ≡ suc n → n ≡ more - 1 → P (suc n)) → P more
by_level zero P m h = absurd (m refl)
by_level (suc n) P m h = h n refl (omega arith)

-- where the body has as many pieces as parts are wanted, or more, each tree has more parts
pub more_pieces : (more : ℕ) (b : List ℕ) (s e : ℕ) (d : List ℕ) (first most : ℕ) (h : Head) → most ≢ 0 → more ≢ 0 → IsHead b s e d h
    → ((r : Option (List Piece)) → ArePieces (boundary_of h) (slice_range b h.body h.end) r → HasMoreThan (most - 1) r) → HasMoreParts most more b s e d first
more_pieces more b s e d first most h k m i n = by_level more (λ (l : ℕ). HasMoreParts most l b s e d first) m
    (λ l e1 e2. node_parts l b s e d first most h i (λ r p next a t. by l r p next (n r a) t))
  where
    by : (l : ℕ) (r : Option (List Piece)) (p : Part) (next : ℕ) → HasMoreThan (most - 1) r → IsPartOf (IsTree l b) h r first p next → most < suc (total l (children p))
    by l None p next g t = absurd g
    by l (Some qs) p next g t =
        omega (arith, g, trees_len l b h.body (default_in h.media) qs first (children p) next t.1, total_some l (children p))

-- ---- children, one after another

-- each list of trees of the pieces has as many parts as those so far, and those of the trees of what is left
pub record ChildrenBack (more : ℕ) (b : List ℕ) (base : ℕ) (d : List ℕ) (ps left : List Piece) (first : ℕ) (cs : List Part) (next : ℕ) : Type 0 where
  pub back : (ds : List Part) (end : ℕ) → AreTrees (IsTree more b) base d ps first ds end
      → (rest : List Part) × AreTrees (IsTree more b) base d left next rest end × (total more ds ≡ total more cs + total more rest)

-- before any
pub back_begins : (more : ℕ) (b : List ℕ) (base : ℕ) (d : List ℕ) (ps : List Piece) (first : ℕ) → ChildrenBack more b base d ps ps first [] first
back_begins more b base d ps first = record { back = λ ds end t. (ds, t, omega arith) }

-- where the tree of the next piece is the next child
pub back_step : (more : ℕ) (b : List ℕ) (base : ℕ) (d d' : List ℕ) (ps : List Piece) (q : Piece) (left all : List Piece) (first : ℕ) (cs ds : List Part) (next : ℕ) (c : Part)
    (mid : ℕ) → all ≡ q ∷ left → d' ≡ d → ChildrenBack more b base d ps all first cs next → IsTree more b (base + q.start) (base + q.end) d' next c mid → ds ≡ cs ++ c ∷ []
    → ChildrenBack more b base d ps left first ds mid
back_step more b base d d' ps q left all first cs ds next c mid e k h t n = record {
  back = λ xs end g.
      let w = h.back xs end g in
      let P : List Piece → Type 0 = λ u. AreTrees (IsTree more b) base d u next w.0 end in
      let T : List ℕ → Type 0 = λ u. IsTree more b (base + q.start) (base + q.end) u next c mid in
      by w.0 (total more xs) end (subst P e w.1) (subst T k t) w.2;
}
  where
    sum_is : total more ds ≡ total more cs + parts_within more c
    sum_is = total_push more cs c ds n

    by : (rest : List Part) (sum end : ℕ) → AreTrees (IsTree more b) base d (q ∷ left) next rest end → IsTree more b (base + q.start) (base + q.end) d next c mid
        → sum ≡ total more cs + total more rest
        → (others : List Part) × AreTrees (IsTree more b) base d left mid others end × (sum ≡ total more ds + total more others)
    by [] sum end g i s = absurd g
    by (x ∷ xs) sum end g i s =
        let o = one_tree more b (base + q.start) (base + q.end) d next x c g.0 mid g.1 i in
        let P : ℕ → Type 0 = λ m. AreTrees (IsTree more b) base d left m xs end in
        let n : parts_within more x ≡ parts_within more c = same_parts more x c o.1 in
        (xs, subst P o.0 g.2, omega (arith, s, n, sum_is, total_cons more x xs))

-- where each tree of the next piece has too many parts, each tree has
pub more_children : (more : ℕ) (b : List ℕ) (s e : ℕ) (d d' : List ℕ) (first most parts : ℕ) (h : Head) (qs all left : List Piece) (q : Piece) (cs : List Part) (next : ℕ)
    → more ≢ 0 → IsHead b s e d h → ArePieces (boundary_of h) (slice_range b h.body h.end) (Some qs) → all ≡ q ∷ left → d' ≡ default_in h.media
    → ChildrenBack (more - 1) b h.body (default_in h.media) qs all first cs next → parts ≡ 1 + total (more - 1) cs → parts ≤ most
    → HasMoreParts (most - parts) (more - 1) b (h.body + q.start) (h.body + q.end) d' next → HasMoreParts most more b s e d first
more_children more b s e d d' first most parts h qs all left q cs next m i a w k c n le g = by_level more (λ (l : ℕ). HasMoreParts most l b s e d first) m
    (λ l e1 e2.
    let C : ℕ → Type 0 = λ x. ChildrenBack x b h.body (default_in h.media) qs all first cs next in
    let N : ℕ → Type 0 = λ x. parts ≡ 1 + total x cs in
    let G : ℕ → Type 0 = λ x. HasMoreParts (most - parts) x b (h.body + q.start) (h.body + q.end) d' next in
    node_parts l b s e d first most h i (λ r p end x t. pieces l (subst C (sym e2) c) (subst N (sym e2) n) (subst G (sym e2) g) r p end x t))
  where
    first_more : (l : ℕ) (rest : List Part) (end : ℕ) → HasMoreParts (most - parts) l b (h.body + q.start) (h.body + q.end) (default_in h.media) next
        → AreTrees (IsTree l b) h.body (default_in h.media) (q ∷ left) next rest end → most - parts < total l rest
    first_more l [] end g t = absurd t
    first_more l (x ∷ xs) end g t = omega (arith, g x t.0 t.1, total_cons l x xs)

    counted : (l : ℕ) → ChildrenBack l b h.body (default_in h.media) qs all first cs next → parts ≡ 1 + total l cs
        → HasMoreParts (most - parts) l b (h.body + q.start) (h.body + q.end) d' next → (p : Part) (end : ℕ)
        → AreTrees (IsTree l b) h.body (default_in h.media) qs first (children p) end → most < suc (total l (children p))
    counted l c n g p end t =
        let v = c.back (children p) end t in
        let P : List Piece → Type 0 = λ u. AreTrees (IsTree l b) h.body (default_in h.media) u next v.0 end in
        let G : List ℕ → Type 0 = λ u. HasMoreParts (most - parts) l b (h.body + q.start) (h.body + q.end) u next in
        let f = first_more l v.0 end (subst G k g) (subst P w v.1) in
        omega (arith, f, v.2, n, le)

    pieces : (l : ℕ) → ChildrenBack l b h.body (default_in h.media) qs all first cs next → parts ≡ 1 + total l cs
        → HasMoreParts (most - parts) l b (h.body + q.start) (h.body + q.end) d' next → (r : Option (List Piece)) (p : Part) (end : ℕ)
        → ArePieces (boundary_of h) (slice_range b h.body h.end) r → IsPartOf (IsTree l b) h r first p end → most < suc (total l (children p))
    pieces l c n g r p end x t =
        let P : Option (List Piece) → Type 0 = λ u. IsPartOf (IsTree l b) h u first p end in
        counted l c n g p end (subst P (one_pieces (boundary_of h) (slice_range b h.body h.end) r (Some qs) x a) t).1

-- the parts of a multipart are one more than those of its children
pub node_total : (more : ℕ) (p : Part) (cs : List Part) (parts : ℕ) → more ≢ 0 → children p ≡ cs → parts ≡ 1 + total (more - 1) cs → parts ≡ parts_within more p
unfolding parts_within
node_total zero p cs parts m e n = absurd (m refl)
node_total (suc more) p cs parts m e n =
    let l : suc more - 1 ≡ more = omega arith in
    let f : total (suc more - 1) cs ≡ total more (children p) = ap (λ (x : ℕ). total x cs) l ∙ ap (total more) (sym e) in
    omega (arith, n, f)
