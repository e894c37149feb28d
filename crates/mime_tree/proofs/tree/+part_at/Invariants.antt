use Rattle.std.proofs.Common.{◌≡◌, ◌+◌, ◌-◌, ◌≤◌, drop}
use Rattle.mime_tree.specs.Heads.{default_in}
use Rattle.mime_tree.proofs.TreeLemmas.{ChildrenSo, Placed}
use Rattle.mime_tree.proofs.CountLemmas.{total, ChildrenBack}
use Rattle.mime_tree.proofs.tree.+part_at.Given as goal

abbrev pub decreases-part_at : goal.decreases-part_at
decreases-part_at l = l.more

abbrev pub invariant-loop-piece : goal.invariant-loop-piece
invariant-loop-piece l = record {
  so_far : ChildrenSo (l.more - 1) l.bytes l.head.body (default_in l.head.media) l.piece-items (drop l.piece-index l.piece-items) l.first l.children.items l.next;
  back : ChildrenBack (l.more - 1) l.bytes l.head.body (default_in l.head.media) l.piece-items (drop l.piece-index l.piece-items) l.first l.children.items l.next;
  placed : Placed l.first l.next (l.head.end - l.head.body) (drop l.piece-index l.piece-items);
  parts : l.parts ≡ 1 + total (l.more - 1) l.children.items;
  few : l.parts ≤ l.most;
}
