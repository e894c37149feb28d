use Rattle.std.proofs.Common.{arith, sym}
use Rattle.told_folder.proofs.VanishLemmas.{clear_taken, clear_left}
use Rattle.told_folder.proofs.telling.clear_marks.Goals as goal
use Rattle.told_folder.proofs.telling.clear_marks.Goals.{then-contains, else-contains}

pub loop-message-preserved : goal.loop-message-preserved
loop-message-preserved g c =
    elim c.if-contains.branch [
      | then-contains w ↦ λ q. rw w.marks-is (clear_taken _ c.args.messages.now _ c.message-item.result q _ _ _ (omega arith) c.message-item.is (sym w.if-contains.ensures)
          (c.loop-message.invariant q) (w.remove.ensures.updates.0 q))
      | else-contains w ↦ λ q. rw w.marks-is (clear_left _ c.args.messages.now _ c.message-item.result q _ _ (omega arith) c.message-item.is (sym w.if-contains.ensures)
          (c.loop-message.invariant q))
    ]
