use Rattle.call_laws.proofs.Histories.{call_goes, joined}
use Rattle.call_laws.proofs.laws.calls_keep_one_history.Goals as goal

pub returns-clause-one : goal.returns-clause-one
returns-clause-one c uses uploads earlier call before asks result events after h k does told ready =
    call_goes c.changes_draw_no_epoch.ensures.changes h does told k ready

pub returns-clause-joins : goal.returns-clause-joins
returns-clause-joins c h j k first later = joined h j k first later
