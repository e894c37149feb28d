use Rattle.mail_batches.specs.Items.{put_text, set_text}
use Rattle.mail_batches.proofs.WriteLemmas.{tagged_added}
use Rattle.mail_batches.proofs.write.write_item.Goals as goal

pub returns-in_ok-push-in-MessagePut : goal.returns-in_ok-push-in-MessagePut
returns-in_ok-push-in-MessagePut c =
    rw c.in-MessagePut.is (tagged_added c.write_message.result _ _ _ 3 (put_text c.in-MessagePut.folder c.in-MessagePut.message) c.in_ok-push-in-MessagePut.ensures.items
    c.write_message.ensures)

pub returns-in_ok-push-in-MessageSet : goal.returns-in_ok-push-in-MessageSet
returns-in_ok-push-in-MessageSet c =
    rw c.in-MessageSet.is (tagged_added c.write_set.result _ _ _ 4 (set_text c.in-MessageSet.mark c.in-MessageSet.folder c.in-MessageSet.uid c.in-MessageSet.flags)
    c.in_ok-push-in-MessageSet.ensures.items c.write_set.ensures)
