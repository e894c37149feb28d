use Rattle.std.proofs.Common.{◌≡◌, ℕ, ◌+◌, ◌-◌, ◌<◌, ◌≤◌, List, [], ◌∷◌, ◌++◌, length, drop, get_or, arith, sym, ap, subst, ◌∙◌, add-one, drop-cons, Some}
use Rattle.std.specs.Prelude.{slice_range}
use Rattle.std.proofs.lemmas.List.{drop_all}
use Rattle.mime_tree.specs.declared.split.Piece.{Piece}
use Rattle.mime_tree.specs.declared.part.Part.{Part}
use Rattle.mime_tree.specs.Heads as heads
use Rattle.mime_tree.specs.Heads.{boundary_of}
use Rattle.mime_tree.specs.declared.split.SplitBody.{SplitBody}
use Rattle.mime_tree.specs.reading.Bounds.{IsSplitBody}
use Rattle.mime_tree.specs.Trees.{AreTrees, ArePieces, IsTree}
use Rattle.mime_tree.proofs.TreeLemmas.{body_within, behind_end, ChildrenSo, tree_node, placed_head, placed_next, children_step, children_end}
use Rattle.mime_tree.proofs.CountLemmas.{tree_of_zero, tree_of_leaf, more_than_none, more_pieces, more_children, total_push, back_step, node_total}
use Rattle.mime_tree.proofs.tree.+part_at.Goals as goal

piece_at : (ps : List Piece) (i : ℕ) (d : Piece) → i < length ps → drop i ps ≡ get_or ps i d ∷ drop (i + 1) ps
piece_at ps i d lt = rw add-one (drop-cons ps i d lt)

abbrev default_of : List ℕ → List ℕ
default_of m = heads.default_in m

children_of : (more : ℕ) (b : List ℕ) (base : ℕ) (d : List ℕ) (ps qs : List Piece) (i first : ℕ) (cs ds : List Part) (next : ℕ) → length ps ≤ i → ps ≡ qs → ds ≡ cs
    → ChildrenSo more b base d ps (drop i ps) first cs next → AreTrees (IsTree more b) base d qs first ds next
children_of more b base d ps qs i first cs ds next le e f h =
    let P : List Piece → Type 0 = λ u. AreTrees (IsTree more b) base d u first ds next in
    let Q : List Part → Type 0 = λ u. AreTrees (IsTree more b) base d ps first u next in
    subst P e (subst Q (sym f) (children_end more b base d ps (drop i ps) first cs next (drop_all i ps le) h))

pub returns-then-most-eq0 : goal.returns-then-most-eq0
returns-then-most-eq0 t c = more_than_none c.args.more _ _ _ _ _ c.args.most c.if-most-eq0.true

pub returns-then-more-eq0 : goal.returns-then-more-eq0
returns-then-more-eq0 t c =
    tree_of_zero c.args.most c.args.more _ _ _ _ _ _ c.in_ok-head.head c.if-most-eq0.false c.if-more-eq0.true c.in_ok-head.ensures c.in_ok-built_leaf.ensures.leaf
    c.in_ok-built_leaf.ensures.one

pub returns-in_ok-built_leaf-in-Undelimited : goal.returns-in_ok-built_leaf-in-Undelimited
returns-in_ok-built_leaf-in-Undelimited t c =
    tree_of_leaf c.args.most c.args.more _ _ _ _ _ _ c.in_ok-head.head c.if-most-eq0.false c.if-more-eq0.false c.in_ok-head.ensures
    (let S : SplitBody → Type 0 = λ r. IsSplitBody (c.args.most - 1) (boundary_of c.in_ok-head.head) (slice_range c.args.bytes.now c.in_ok-head.head.body c.in_ok-head.head.end) r in
    subst S c.in-Undelimited.is c.in_ok-pieces_of.ensures)
    c.in_ok-built_leaf-in-Undelimited.ensures.leaf c.in_ok-built_leaf-in-Undelimited.ensures.one

pub returns-in-TooMany : goal.returns-in-TooMany
returns-in-TooMany t c =
    more_pieces c.args.more _ _ _ _ _ c.args.most c.in_ok-head.head c.if-most-eq0.false c.if-more-eq0.false c.in_ok-head.ensures
    (let S : SplitBody → Type 0 = λ r. IsSplitBody (c.args.most - 1) (boundary_of c.in_ok-head.head) (slice_range c.args.bytes.now c.in_ok-head.head.body c.in_ok-head.head.end) r in
    subst S c.in-TooMany.is c.in_ok-pieces_of.ensures)

pub returns-in-None : goal.returns-in-None
returns-in-None t c =
    let h = c.in_ok-head.head in
    let ps = c.as_slice-piece-items.result.now in
    let d = piece_at ps c.loop-piece.piece-index (record { start = 0; end = 0 }) c.loop-piece-test.true in
    let S : SplitBody → Type 0 = λ r. IsSplitBody (c.args.most - 1) (boundary_of h) (slice_range c.args.bytes.now h.body h.end) r in
    let q = subst S c.in-Pieces.is c.in_ok-pieces_of.ensures in
    let A : List Piece → Type 0 = λ u. ArePieces (boundary_of h) (slice_range c.args.bytes.now h.body h.end) (Some u) in
    more_children c.args.more _ _ _ _ _ _ c.args.most c.loop-piece.parts h ps _ _ _ c.loop-piece.children.items c.loop-piece.next c.if-more-eq0.false
    c.in_ok-head.ensures (subst A (sym c.as_slice-piece-items.ensures) q.0) d
    (c.default_in-default.ensures ∙ ap default_of c.as_slice.ensures) c.loop-piece.invariant.back c.loop-piece.invariant.parts c.loop-piece.invariant.few
    (rw c.in-None.is at c.in_ok-part_at-in-Pieces.ensures)

pub returns-in_ok-part-in-Pieces : goal.returns-in_ok-part-in-Pieces
returns-in_ok-part-in-Pieces t c =
    let h = c.in_ok-head.head in
    let w = body_within _ _ _ _ h c.requires.ordered c.in_ok-head.ensures in
    let p = c.loop-piece.invariant.placed in
    let S : SplitBody → Type 0 = λ r. IsSplitBody (c.args.most - 1) (boundary_of h) (slice_range c.args.bytes.now h.body h.end) r in
    let q = subst S c.in-Pieces.is c.in_ok-pieces_of.ensures in
    record {
      tree = tree_node c.args.more _ _ _ _ _ _ _ h c.in-Pieces.pieces c.if-more-eq0.false c.in_ok-head.ensures q.0 c.in_ok-part-in-Pieces.ensures.node
          (children_of _ _ _ _ _ _ _ _ _ _ _ c.loop-piece-test.false c.as_slice-piece-items.ensures c.in_ok-part-in-Pieces.ensures.children c.loop-piece.invariant.so_far);
      parts = node_total c.args.more c.in_ok-part-in-Pieces.part c.loop-piece.children.items c.loop-piece.parts c.if-more-eq0.false c.in_ok-part-in-Pieces.ensures.children
          c.loop-piece.invariant.parts;
      few = c.loop-piece.invariant.few;
      numbers = omega (arith, p.few, behind_end p.at _ _ p.behind, w.from, w.ordered, w.end);
    }

pub part_at-requires : goal.part_at-requires
part_at-requires t c =
    let w = body_within _ _ _ _ c.in_ok-head.head c.requires.ordered c.in_ok-head.ensures in
    let ps = c.as_slice-piece-items.result.now in
    let d = piece_at ps c.loop-piece.piece-index (record { start = 0; end = 0 }) c.loop-piece-test.true in
    let f = placed_head c.args.first c.loop-piece.next (c.in_ok-head.head.end - c.in_ok-head.head.body) _ _ _ d c.loop-piece.invariant.placed in (
      omega (arith, c.decreases),
      (
        c.requires.shared,
        (
          omega (arith, f.ordered),
          (omega (arith, f.within, f.ordered, w.ordered, w.end, c.requires.within), omega (arith, f.room, f.ordered, w.from, w.ordered, w.end, c.requires.room)),
        ),
      ),
    )

pub loop-piece-preserved : goal.loop-piece-preserved
loop-piece-preserved t c =
    let ps = c.as_slice-piece-items.result.now in
    let d = piece_at ps c.loop-piece.piece-index (record { start = 0; end = 0 }) c.loop-piece-test.true in
    let f = placed_head c.args.first c.loop-piece.next (c.in_ok-head.head.end - c.in_ok-head.head.body) _ _ _ d c.loop-piece.invariant.placed in
    let i = rw c.in-Some.is at c.in_ok-part_at-in-Pieces.ensures in
    let e = c.in_ok-push-in-Some.ensures.items ∙ ap (λ (x : Part). c.loop-piece.children.items ++ x ∷ []) c.part_of.ensures in
    let k = c.default_in-default.ensures ∙ ap default_of c.as_slice.ensures in
    record {
      so_far = children_step (c.args.more - 1) c.args.bytes.now c.in_ok-head.head.body _ _ ps _ _ _ c.args.first c.loop-piece.children.items _ c.loop-piece.next _ _ d k
          c.loop-piece.invariant.so_far i.tree e;
      back = back_step (c.args.more - 1) c.args.bytes.now c.in_ok-head.head.body _ _ ps _ _ _ c.args.first c.loop-piece.children.items _ c.loop-piece.next _ _ d k
          c.loop-piece.invariant.back i.tree e;
      placed = placed_next c.args.first c.loop-piece.next _ (c.in_ok-head.head.end - c.in_ok-head.head.body) _ _ _ d c.loop-piece.invariant.placed
          (omega (arith, i.numbers, f.ordered));
      parts = omega (arith, i.parts, c.loop-piece.invariant.parts, total_push (c.args.more - 1) c.loop-piece.children.items c.in-Some.built.part _ e);
      few = omega (arith, i.few, c.loop-piece.invariant.few);
    }

pub overflow_add-place : goal.overflow_add-place
overflow_add-place t c =
    let w = body_within _ _ _ _ c.in_ok-head.head c.requires.ordered c.in_ok-head.ensures in
    let ps = c.as_slice-piece-items.result.now in
    let d = piece_at ps c.loop-piece.piece-index (record { start = 0; end = 0 }) c.loop-piece-test.true in
    let f = placed_head c.args.first c.loop-piece.next (c.in_ok-head.head.end - c.in_ok-head.head.body) _ _ _ d c.loop-piece.invariant.placed in
    omega (arith, f.within, f.ordered, w.ordered, w.end, c.requires.within)

pub overflow_add-place-in-loop-piece : goal.overflow_add-place-in-loop-piece
overflow_add-place-in-loop-piece t c =
    let w = body_within _ _ _ _ c.in_ok-head.head c.requires.ordered c.in_ok-head.ensures in
    let ps = c.as_slice-piece-items.result.now in
    let d = piece_at ps c.loop-piece.piece-index (record { start = 0; end = 0 }) c.loop-piece-test.true in
    let f = placed_head c.args.first c.loop-piece.next (c.in_ok-head.head.end - c.in_ok-head.head.body) _ _ _ d c.loop-piece.invariant.placed in
    omega (arith, f.within, f.ordered, w.ordered, w.end, c.requires.within)
