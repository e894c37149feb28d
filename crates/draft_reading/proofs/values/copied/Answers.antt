use Rattle.std.proofs.Common.{ap, ◌∙◌}
use Rattle.std.specs.Str.{is_utf8}
use Rattle.std.proofs.lemmas.Result.{IfOk-weaker}
use Rattle.std.proofs.lemmas.Str.{is_utf8-from_IsUtf8}
use Rattle.draft_reading.proofs.values.copied.Goals as goal

pub returns-clause-utf8 : goal.returns-clause-utf8
returns-clause-utf8 c = IfOk-weaker c.copy_of.result _ _ (λ t is. ap is_utf8 is ∙ is_utf8-from_IsUtf8 c.args.text.now c.utf8.text) c.copy_of.ensures
