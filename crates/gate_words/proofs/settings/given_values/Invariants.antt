use Rattle.std.proofs.Common.{take, map}
use Rattle.gate_words.specs.Options.{values_of}
use Rattle.gate_words.specs.reading.Lent.{setting_in, IsGiven}
use Rattle.gate_words.proofs.settings.given_values.Given as goal

-- the values that the settings so far give
abbrev pub invariant-loop-setting : goal.invariant-loop-setting
invariant-loop-setting l = IsGiven l.given (values_of l.name (map setting_in (take l.setting-index l.settings)))
