-- Trees, piece by piece.
use Rattle.std.proofs.Common.{◌≡◌, ◌≢◌, ℕ, zero, suc, ◌+◌, ◌-◌, ◌≤◌, List, [], ◌∷◌, ◌++◌, refl, sym, subst, arith, append_assoc, Option, Some, None}
use Rattle.std.specs.Prelude.{slice_range}
use Rattle.std.proofs.lemmas.List.{append-nil}
use Rattle.mime_tree.specs.declared.head.Head.{Head}
use Rattle.mime_tree.specs.declared.split.Piece.{Piece}
use Rattle.mime_tree.specs.declared.part.Part.{Part}
use Rattle.mime_tree.specs.Parts.{children}
use Rattle.mime_tree.specs.Splits.{AreBehind}
use Rattle.mime_tree.specs.Heads.{IsHead, boundary_of, default_in}
use Rattle.mime_tree.specs.Trees.{IsLeaf, IsNode, AreTrees, ArePieces, IsPartOf, IsTree}
use Rattle.mime_tree.proofs.HeadLemmas.{range_len, header_within}

-- a body begins after its part's front and ends with the part
pub record BodyWithin (s e : ℕ) (h : Head) : Type 0 where
  pub from : s ≤ h.body
  pub ordered : h.body ≤ h.end
  pub end : h.end ≡ e

-- a head's body begins not before its octets, and ends with them
pub body_within : (b : List ℕ) (s e : ℕ) (d : List ℕ) (h : Head) → s ≤ e → IsHead b s e d h → BodyWithin s e h
body_within b s e d h le i =
    let n = header_within i.fields i.len (slice_range b s e) i.is_header in
    let r = range_len b s e in
    let body = i.body_is in
    let end = i.end_is in
    record { from = omega arith; ordered = omega arith; end = end }

-- the children so far are the first pieces'
pub record ChildrenSo (more : ℕ) (b : List ℕ) (base : ℕ) (d : List ℕ) (ps left : List Piece) (first : ℕ) (cs : List Part) (next : ℕ) : Type 0 where
  pub forth : (ds : List Part) (end : ℕ) → AreTrees (IsTree more b) base d left next ds end → AreTrees (IsTree more b) base d ps first (cs ++ ds) end

children_more : (more : ℕ) (b : List ℕ) (base : ℕ) (d : List ℕ) (ps : List Piece) (q : Piece) (left : List Piece) (first : ℕ) (cs : List Part) (next : ℕ) (c : Part) (mid : ℕ)
    → ChildrenSo more b base d ps (q ∷ left) first cs next → IsTree more b (base + q.start) (base + q.end) d next c mid → ChildrenSo more b base d ps left first (cs ++ c ∷ []) mid
children_more more b base d ps q left first cs next c mid h t = record {
  forth = λ ds end g.
      let P : List Part → Type 0 = λ u. AreTrees (IsTree more b) base d ps first u end in
      subst P (sym (append_assoc cs (c ∷ []) ds)) (h.forth (c ∷ ds) end (mid, t, g));
}

-- the tree of the next piece is the next child
pub children_step : (more : ℕ) (b : List ℕ) (base : ℕ) (d d' : List ℕ) (ps : List Piece) (q : Piece) (left all : List Piece) (first : ℕ) (cs ds : List Part) (next : ℕ) (c : Part)
    (mid : ℕ) → all ≡ q ∷ left → d' ≡ d → ChildrenSo more b base d ps all first cs next → IsTree more b (base + q.start) (base + q.end) d' next c mid → ds ≡ cs ++ c ∷ []
    → ChildrenSo more b base d ps left first ds mid
children_step more b base d d' ps q left all first cs ds next c mid e k h t n =
    let P : List Piece → Type 0 = λ u. ChildrenSo more b base d ps u first cs next in
    let Q : List Part → Type 0 = λ u. ChildrenSo more b base d ps left first u mid in
    let T : List ℕ → Type 0 = λ u. IsTree more b (base + q.start) (base + q.end) u next c mid in
    subst Q (sym n) (children_more more b base d ps q left first cs next c mid (subst P e h) (subst T k t))

children_all : (more : ℕ) (b : List ℕ) (base : ℕ) (d : List ℕ) (ps : List Piece) (first : ℕ) (cs : List Part) (next : ℕ) → ChildrenSo more b base d ps [] first cs next
    → AreTrees (IsTree more b) base d ps first cs next
children_all more b base d ps first cs next h = let P : List Part → Type 0 = λ u. AreTrees (IsTree more b) base d ps first u next in subst P (append-nil cs) (h.forth [] next refl)

-- where no piece is left, the children are the trees of all pieces
pub children_end : (more : ℕ) (b : List ℕ) (base : ℕ) (d : List ℕ) (ps left : List Piece) (first : ℕ) (cs : List Part) (next : ℕ) → left ≡ []
    → ChildrenSo more b base d ps left first cs next → AreTrees (IsTree more b) base d ps first cs next
children_end more b base d ps left first cs next e h = let P : List Piece → Type 0 = λ u. ChildrenSo more b base d ps u first cs next in
    children_all more b base d ps first cs next (subst P e h)

-- ---- places and numbers of what is left

pub record Placed (first next size : ℕ) (left : List Piece) : Type 0 where
  pub at : ℕ
  pub behind : AreBehind at left size
  pub few : next ≤ first + at

-- where pieces lie between two offsets, the first offset is at most the second
pub behind_end : (at n : ℕ) (ps : List Piece) → AreBehind at ps n → at ≤ n
behind_end at n [] h = h
behind_end at n (p ∷ ps) h = let e = behind_end p.end n ps h.2 in omega (arith, h.0, h.1)

pub record Fit (first next size : ℕ) (q : Piece) : Type 0 where
  pub ordered : q.start ≤ q.end
  pub within : q.end ≤ size
  pub room : next + (q.end - q.start) ≤ first + size

-- the next piece lies within the body, and there is room for as many numbers as it has octets
pub placed_head : (first next size : ℕ) (q : Piece) (left all : List Piece) → all ≡ q ∷ left → Placed first next size all → Fit first next size q
placed_head first next size q left all e h =
    let P : List Piece → Type 0 = λ u. AreBehind h.at u size in
    let b = subst P e h.behind in
    let w = behind_end q.end size left b.2 in
    record { ordered = b.1; within = w; room = omega (arith, b.0, b.1, h.few) }

-- what is left after a piece is placed, where the piece took at most one number more than it has octets
pub placed_next : (first next mid size : ℕ) (q : Piece) (left all : List Piece) → all ≡ q ∷ left → Placed first next size all → mid ≤ next + (q.end - q.start) + 1
    → Placed first mid size left
placed_next first next mid size q left all e h m =
    let P : List Piece → Type 0 = λ u. AreBehind h.at u size in
    let b = subst P e h.behind in
    record { at = q.end; behind = b.2; few = omega (arith, b.0, b.1, h.few) }

-- ---- a part by its head

-- where no level may be below, a leaf is a tree
pub tree_zero : (more : ℕ) (b : List ℕ) (s e : ℕ) (d : List ℕ) (first : ℕ) (p : Part) (next : ℕ) (h : Head) → more ≡ 0 → IsHead b s e d h → IsLeaf h first p next
    → IsTree more b s e d first p next
unfolding IsTree
tree_zero zero b s e d first p next h m i l = (h, i, l)
tree_zero (suc more) b s e d first p next h m i l = absurd (omega arith)

tree_suc : (more : ℕ) (b : List ℕ) (s e : ℕ) (d : List ℕ) (first : ℕ) (p : Part) (next : ℕ) (h : Head) (qs : Option (List Piece)) → more ≢ 0 → IsHead b s e d h
    → ArePieces (boundary_of h) (slice_range b h.body h.end) qs → IsPartOf (IsTree (more - 1) b) h qs first p next → IsTree more b s e d first p next
unfolding IsTree
tree_suc zero b s e d first p next h qs m i j k = absurd (m refl)
tree_suc (suc more) b s e d first p next h qs m i j k =
    let less : suc more - 1 ≡ more = omega arith in
    let P : ℕ → Type 0 = λ n. IsPartOf (IsTree n b) h qs first p next in
    (h, i, qs, j, subst P less k)

-- where levels may be below, a leaf whose body has no pieces is a tree
pub tree_leaf : (more : ℕ) (b : List ℕ) (s e : ℕ) (d : List ℕ) (first : ℕ) (p : Part) (next : ℕ) (h : Head) → more ≢ 0 → IsHead b s e d h
    → ArePieces (boundary_of h) (slice_range b h.body h.end) None → IsLeaf h first p next → IsTree more b s e d first p next
tree_leaf more b s e d first p next h m i j l = tree_suc more b s e d first p next h None m i j l

-- where levels may be below, a multipart with a tree for each piece of its body is a tree
pub tree_node : (more : ℕ) (b : List ℕ) (s e : ℕ) (d : List ℕ) (first : ℕ) (p : Part) (next : ℕ) (h : Head) (qs : List Piece) → more ≢ 0 → IsHead b s e d h
    → ArePieces (boundary_of h) (slice_range b h.body h.end) (Some qs) → IsNode h p → AreTrees (IsTree (more - 1) b) h.body (default_in h.media) qs first (children p) next
    → IsTree more b s e d first p next
tree_node more b s e d first p next h qs m i j k t = tree_suc more b s e d first p next h (Some qs) m i j (k, t)
