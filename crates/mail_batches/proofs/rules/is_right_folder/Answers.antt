use Rattle.std.proofs.Common.{◌∙◌, sym}
use Rattle.mail_batches.specs.Rules.{IsRightFolder}
use Rattle.mail_batches.proofs.RuleLemmas.{folder_told, name_text, numbers_to, wrong}
use Rattle.mail_batches.proofs.rules.is_right_folder.Goals as goal

pub returns-then-not-has_right_numbers : goal.returns-then-not-has_right_numbers
returns-then-not-has_right_numbers c =
    wrong (IsRightFolder c.args.folder.now) _ (sym c.has_right_numbers.ensures ∙ c.if-not-has_right_numbers.true) (numbers_to c.args.folder.now)

pub returns-then-not-are_of_texts : goal.returns-then-not-are_of_texts
returns-then-not-are_of_texts c =
    wrong (IsRightFolder c.args.folder.now) _ (rw c.as_slice.ensures at (sym c.are_of_texts.ensures ∙ c.if-not-are_of_texts.true)) (name_text c.args.folder.now)

pub returns : goal.returns
returns c =
    folder_told c.are_flags.result c.args.folder.now (sym c.has_right_numbers.ensures ∙ c.if-not-has_right_numbers.false)
    (rw c.as_slice.ensures at (sym c.are_of_texts.ensures ∙ c.if-not-are_of_texts.false)) c.are_flags.ensures
