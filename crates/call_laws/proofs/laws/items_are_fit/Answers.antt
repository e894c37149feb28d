use Rattle.std.proofs.Common.{◌≡◌, ◌≤◌}
use Rattle.set_arguments.specs.declared.set_method.SetMethod.{SetMethod}
use Rattle.set_items.specs.Commands.{BeginsHeld, IsFit, appends_of}
use Rattle.set_calls.specs.Promises.{creation_count}
use Rattle.set_given.specs.Given.{Given}
use Rattle.set_jobs.specs.declared.job.Job.{Job}
use Rattle.set_order.specs.Ordered.{Item}
use Rattle.call_laws.specs.Appends.{appends_due}
use Rattle.call_laws.proofs.Fit.{at_most, begins, each_job, one_at_most}
use Rattle.call_laws.proofs.laws.items_are_fit.Goals as goal

pub returns-clause-fit : goal.returns-clause-fit
returns-clause-fit c uploads m a h created g item drawn job is =
    each_job {P = λ (n : SetMethod) (g : Given) (i : Item) (j : Job). IsFit j × BeginsHeld g.mail j} (record {
      email_create = λ g key ms ready drawn job made. (c.creations_append_once.ensures.fit ready drawn.now drawn.word job made, begins g.mail ready drawn job made);
      email_update = λ g text patch job is. (c.email_items_are_fit.ensures.update g text patch job is, c.email_items_begin_held.ensures.update g text patch job is);
      email_destroy = λ g text job is. (c.email_items_are_fit.ensures.destroy g text job is, c.email_items_begin_held.ensures.destroy g text job is);
      mailbox_create = λ g key ms job is. (c.mailbox_items_are_fit.ensures.create g ms job is, c.mailbox_items_begin_held.ensures.create g ms job is);
      mailbox_update = λ g text patch job is. (c.mailbox_items_are_fit.ensures.update g text patch job is, c.mailbox_items_begin_held.ensures.update g text patch job is);
      mailbox_destroy = λ g removes text job is.
          (c.mailbox_items_are_fit.ensures.destroy g removes text job is, c.mailbox_items_begin_held.ensures.destroy g removes text job is);
    }) uploads m a g item drawn job is

pub returns-clause-append : goal.returns-clause-append
returns-clause-append c uploads m a h created g item drawn job is =
    each_job {P = λ (n : SetMethod) (g : Given) (i : Item) (j : Job). appends_of j.steps ≤ creation_count i} (record {
      email_create = λ g key ms ready drawn job made. one_at_most (appends_of job.steps) (c.creations_append_once.ensures.once ready drawn.now drawn.word job made);
      email_update = λ g text patch job is. at_most (appends_of job.steps) 0 (c.email_items_append_nothing.ensures.update g text patch job is);
      email_destroy = λ g text job is. at_most (appends_of job.steps) 0 (c.email_items_append_nothing.ensures.destroy g text job is);
      mailbox_create = λ g key ms job is. at_most (appends_of job.steps) 1 (c.mailbox_items_append_nothing.ensures.create g ms job is);
      mailbox_update = λ g text patch job is. at_most (appends_of job.steps) 0 (c.mailbox_items_append_nothing.ensures.update g text patch job is);
      mailbox_destroy = λ g removes text job is. at_most (appends_of job.steps) 0 (c.mailbox_items_append_nothing.ensures.destroy g removes text job is);
    }) uploads m a g item drawn job is

pub returns-clause-each : goal.returns-clause-each
returns-clause-each c uploads m a g item drawn job is =
    each_job {P = λ (n : SetMethod) (g : Given) (i : Item) (j : Job). appends_of j.steps ≡ appends_due n i} (record {
      email_create = λ g key ms ready drawn job made. c.creations_append_once.ensures.once ready drawn.now drawn.word job made;
      email_update = c.email_items_append_nothing.ensures.update;
      email_destroy = c.email_items_append_nothing.ensures.destroy;
      mailbox_create = λ g key ms job is. c.mailbox_items_append_nothing.ensures.create g ms job is;
      mailbox_update = c.mailbox_items_append_nothing.ensures.update;
      mailbox_destroy = c.mailbox_items_append_nothing.ensures.destroy;
    }) uploads m a g item drawn job is
