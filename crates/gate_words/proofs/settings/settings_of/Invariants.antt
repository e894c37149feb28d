use Rattle.std.proofs.Common.{◌≡◌, ◌++◌, None, drop, map, string_bytes, option_map}
use Rattle.gate_words.specs.reading.Words.{settings}
use Rattle.gate_words.specs.reading.Lent.{setting_in}
use Rattle.gate_words.proofs.settings.settings_of.Given as goal

-- all words spell the settings so far, and then what the rest spells
abbrev pub invariant-loop-word : goal.invariant-loop-word
invariant-loop-word l =
    settings None (map string_bytes l.words) ≡ option_map (λ more. map setting_in l.settings.items ++ more) (settings l.waiting (map string_bytes (drop l.word-index l.words)))
