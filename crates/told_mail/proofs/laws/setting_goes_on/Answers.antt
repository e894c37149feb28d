use Rattle.told_mail.proofs.FieldLemmas.{with_flags_next, with_attributes_next}
use Rattle.told_mail.proofs.RenameLemmas.{renamed_next}
use Rattle.told_mail.proofs.laws.setting_goes_on.Goals as goal

pub returns-clause-flags : goal.returns-clause-flags
returns-clause-flags c = with_flags_next

pub returns-clause-attributes : goal.returns-clause-attributes
returns-clause-attributes c = with_attributes_next

pub returns-clause-renames : goal.returns-clause-renames
returns-clause-renames c = renamed_next
