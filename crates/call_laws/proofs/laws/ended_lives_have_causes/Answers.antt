use Rattle.call_laws.proofs.Lives.{calls_end, items_ended}
use Rattle.call_laws.proofs.laws.ended_lives_have_causes.Goals as goal

pub returns-clause-calls : goal.returns-clause-calls
returns-clause-calls c uses uploads begun now calls responses asks events h does up told over =
    calls_end (record {
      fetches = c.finished_lives_go_on.ensures.body;
      unavailable = λ uploads m a h created items mail life now events runs.
          c.calls_end_by_their_causes.ensures.unavailable _ items mail life now events (c.items_are_fit.ensures.fit uploads m a h created) runs;
      known = λ fits items mail life now events runs. c.calls_end_by_their_causes.ensures.unavailable _ items mail life now events fits runs;
      imports = c.imports_append_once.ensures.fit;
    }) h does up told over

pub returns-clause-items : goal.returns-clause-items
returns-clause-items c call m life done events mid does over = items_ended call m life done events mid does over
