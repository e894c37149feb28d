use Rattle.gate_serving.proofs.Needs.{answered_from}
use Rattle.gate_serving.proofs.laws.obeyed_requests_answered.Goals as goal

pub returns : goal.returns
returns c =
    answered_from c.obeyed_rounds_stand.ensures c.obeyed_bodies_come.ensures.up
    (record {
      plans = c.obeyed_plans_end_ok.ensures;
      partly = c.items_end_by_their_causes.ensures.partly;
      fit = c.items_are_fit.ensures.fit;
      imports = c.imports_append_once.ensures.fit;
      bodies = c.obeyed_bodies_come.ensures.come;
      fetches = c.finished_lives_go_on.ensures.body;
      blames = c.changes_blame_the_link.ensures.changes;
      lacks = c.changes_blame_the_link.ensures.lacks;
    })
    (record { begun = c.changes_begin_over_mail.ensures.begun; lacks = c.changes_begin_over_mail.ensures.lacks_begun })
