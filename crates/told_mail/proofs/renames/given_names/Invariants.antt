use Rattle.std.proofs.Common.{take}
use Rattle.told_mail.specs.Renames.{names_given}
use Rattle.told_mail.specs.reading.Renaming.{HasNames}
use Rattle.told_mail.proofs.renames.given_names.Given as goal

abbrev pub invariant-loop-held : goal.invariant-loop-held
invariant-loop-held l = HasNames l.given (names_given l.from l.to (take l.held-index l.folders))
