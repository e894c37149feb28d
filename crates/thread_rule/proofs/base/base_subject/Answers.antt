use Rattle.std.proofs.Common.{◌∙◌}
use Rattle.thread_rule.specs.BaseSubject.{spaced}
use Rattle.thread_rule.proofs.NormalForms.{copied_form}
use Rattle.thread_rule.proofs.base.base_subject.Goals as goal

pub returns : goal.returns
returns c =
    copied_form c.copy_of.result c.as_slice.result.now (spaced c.args.text.now) c.base_of.result.now
    (c.as_slice.ensures.value ∙ c.in_ok-spaced.ensures) c.base_of.ensures c.copy_of.ensures
