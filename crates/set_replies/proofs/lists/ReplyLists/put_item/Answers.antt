use Rattle.std.proofs.lemmas.Result.{on_ok_weaker}
use Rattle.set_jobs.specs.declared.done.Done.TheVariants.{MadeMailbox, Changed, Gone, Not}
use Rattle.set_order.specs.reading.Items.{item_data}
use Rattle.set_replies.specs.reading.Listing.{lists_data}
use Rattle.set_replies.specs.reading.Types.{served_in}
use Rattle.set_replies.proofs.WholeLemmas.{whole_as, whole_listed}
use Rattle.set_replies.proofs.lists.ReplyLists.put_item.Goals as goal

pub returns-in-MadeMailbox-clause-whole : goal.returns-in-MadeMailbox-clause-whole
returns-in-MadeMailbox-clause-whole c = λ w.
    on_ok_weaker c.put_mailbox.result (λ is.
    whole_as _ _ is (whole_listed c.args.method (served_in c.args.state.now) (item_data c.args.item.now) (MadeMailbox c.in-MadeMailbox.number) (lists_data c.args.self.now) w))
    c.put_mailbox.ensures

pub returns-in-Changed-clause-whole : goal.returns-in-Changed-clause-whole
returns-in-Changed-clause-whole c = λ w.
    on_ok_weaker c.put_changed.result (λ is.
    whole_as _ _ is (whole_listed c.args.method (served_in c.args.state.now) (item_data c.args.item.now) (Changed c.in-Changed.number c.in-Changed.asked) (lists_data c.args.self.now) w))
    c.put_changed.ensures

pub returns-in-Gone-clause-whole : goal.returns-in-Gone-clause-whole
returns-in-Gone-clause-whole c = λ w.
    on_ok_weaker c.put_gone.result (λ is.
    whole_as _ _ is (whole_listed c.args.method (served_in c.args.state.now) (item_data c.args.item.now) (Gone c.in-Gone.number) (lists_data c.args.self.now) w))
    c.put_gone.ensures

pub returns-in-Not-clause-whole : goal.returns-in-Not-clause-whole
returns-in-Not-clause-whole c = λ w.
    on_ok_weaker c.put_refusal.result (λ is.
    whole_as _ _ is (whole_listed c.args.method (served_in c.args.state.now) (item_data c.args.item.now) (Not c.in-Not.error) (lists_data c.args.self.now) w))
    c.put_refusal.ensures
