use Rattle.std.proofs.Common.{refl}
use Rattle.told_mail.specs.Mail.{folder_in, message_in}
use Rattle.told_mail.proofs.WellLemmas.{well_with_flags, well_with_attributes, well_with_renamed}
use Rattle.told_mail.proofs.laws.setting_keeps_well_formed.Goals as goal

pub returns-clause-flags : goal.returns-clause-flags
returns-clause-flags c = λ m n uid flags kept w. well_with_flags m n uid flags (message_in m.folders n uid) kept refl w

pub returns-clause-attributes : goal.returns-clause-attributes
returns-clause-attributes c = λ m n attributes kept w. well_with_attributes m n attributes (folder_in m.folders n) kept refl w

pub returns-clause-renames : goal.returns-clause-renames
returns-clause-renames c = well_with_renamed
