use Rattle.gate_words.proofs.Values.{more-given}
use Rattle.gate_words.proofs.settings.with_value.Goals as goal

pub returns-in_default : goal.returns-in_default
returns-in_default c = λ values given. more-given c.args.given c.args.value.now values given c.in_default.not-Absent
