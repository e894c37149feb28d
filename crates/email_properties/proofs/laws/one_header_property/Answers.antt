use Rattle.email_properties.proofs.HeaderLemmas.{sound, complete, one}
use Rattle.email_properties.proofs.laws.one_header_property.Goals as goal

pub returns-clause-read : goal.returns-clause-read
returns-clause-read c = λ h key. (complete h key, sound h key)

pub returns-clause-one : goal.returns-clause-one
returns-clause-one c = one
