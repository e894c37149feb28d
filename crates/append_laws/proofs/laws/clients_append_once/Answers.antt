use Rattle.append_laws.proofs.Once.{segment_once}
use Rattle.append_laws.proofs.laws.clients_append_once.Goals as goal

pub returns : goal.returns
returns c = segment_once (record {
  once = c.no_append_is_repeated.ensures;
  answers = c.exchanges_are_answers.ensures;
  by = c.made_by_one_append.ensures;
  jobs = record {
    creation_appends = c.creations_append_once.ensures.once;
    creation_makes = c.creations_append_once.ensures.makes_nothing;
    import_appends = c.imports_append_once.ensures.once;
    import_makes = c.imports_append_once.ensures.makes_nothing;
    email_update = c.email_items_append_nothing.ensures.update;
    email_destroy = c.email_items_append_nothing.ensures.destroy;
    email_updates = c.email_updates_send_what_is_asked.ensures;
    email_destroys = c.email_destroys_send_both.ensures;
    mailbox_create = c.mailbox_items_append_nothing.ensures.create;
    mailbox_update = c.mailbox_items_append_nothing.ensures.update;
    mailbox_destroy = c.mailbox_items_append_nothing.ensures.destroy;
    mailbox_creates = c.mailbox_creations_send_what_is_asked.ensures;
    mailbox_updates = c.mailbox_updates_send_what_is_asked.ensures;
    mailbox_destroys = c.mailbox_destroys_send_delete.ensures;
  };
})
