use Rattle.std.proofs.Common.{sym, subst}
use Rattle.gate_words.specs.reading.Lent.{IsGiven}
use Rattle.gate_words.proofs.Values.{next-values}
use Rattle.gate_words.proofs.settings.given_values.Goals as goal

pub loop-setting-preserved : goal.loop-setting-preserved
loop-setting-preserved c =
    subst (IsGiven c.with_setting-given.result) (sym (next-values c.args.name c.args.settings.now c.loop-setting.setting-index _ c.loop-setting-test.true))
    (c.with_setting-given.ensures _ c.loop-setting.invariant)
