use Rattle.std.proofs.Common.{◌∙◌, sym}
use Rattle.mail_batches.specs.Rules.{AreFlags}
use Rattle.mail_batches.proofs.RuleLemmas.{flags_names, flags_told, wrong}
use Rattle.mail_batches.proofs.rules.are_flags.Goals as goal

pub returns-then-not-are_names : goal.returns-then-not-are_names
returns-then-not-are_names c = wrong (AreFlags c.args.names.now) _ (rw c.as_slice.ensures at (sym c.are_names.ensures ∙ c.if-not-are_names.true)) (flags_names c.args.names.now)

pub returns : goal.returns
returns c = flags_told c.is_kept.result c.args.names.now (rw c.as_slice.ensures at (sym c.are_names.ensures ∙ c.if-not-are_names.false)) c.is_kept.ensures
