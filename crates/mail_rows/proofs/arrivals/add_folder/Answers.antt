use Rattle.std.proofs.Common.{sym}
use Rattle.mail_rows.proofs.LoopLemmas.{message_taken, message_passed}
use Rattle.mail_rows.proofs.arrivals.add_folder.Goals as goal
use Rattle.mail_rows.proofs.arrivals.add_folder.Goals.{then-is_new+in_ok-add, else-is_new}

pub loop-message-preserved : goal.loop-message-preserved
loop-message-preserved c =
    elim c.if-is_new.branch [
      | then-is_new+in_ok-add w ↦ rw w.arrivals-is (message_taken c.args.marks.now c.args.held.now.folder.number _ _ c.message-item.result _ _ _ c.loop-message-test.true
          c.message-item.is (sym w.if-is_new.ensures) w.in_ok-add.ensures
          c.loop-message.invariant)
      | else-is_new w ↦ rw w.arrivals-is (message_passed c.args.marks.now c.args.held.now.folder.number _ _ c.message-item.result _ _ c.loop-message-test.true c.message-item.is
          (sym w.if-is_new.ensures) c.loop-message.invariant)
    ]
