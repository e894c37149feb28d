use Rattle.std.proofs.Common.{refl}
use Rattle.call_laws.proofs.SetCalls.{call_by}
use Rattle.call_laws.proofs.laws.set_calls_end_by_their_causes.Goals as goal

pub returns : goal.returns
returns c uses uploads earlier call before asks e events after m d a h does named is right told current =
    call_by (record {
      partly = c.changing_calls_end_by_their_causes.ensures.partly;
      unavailable = c.changing_calls_end_by_their_causes.ensures.unavailable;
      fail = c.changing_calls_end_by_their_causes.ensures.fail;
      others = c.changing_calls_end_by_their_causes.ensures.others;
      fit = c.items_are_fit.ensures.fit;
    }) e m d a h does refl named is right told current
