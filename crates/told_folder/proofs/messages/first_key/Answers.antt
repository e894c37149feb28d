use Rattle.std.proofs.Common.{◌∙◌, sym}
use Rattle.told_folder.proofs.PartLemmas.{first_entry, no_entry}
use Rattle.told_folder.proofs.messages.first_key.Goals as goal

pub returns-in-Some : goal.returns-in-Some
returns-in-Some c = λ keyed. first_entry c.args.first c.args.after.now.entries keyed _ _ (sym (c.range.ensures.between tt) ∙ c.in-Some.ensures.steps)

pub returns-in-None : goal.returns-in-None
returns-in-None c = λ keyed. no_entry c.args.first c.args.after.now.entries keyed (sym (c.range.ensures.between tt) ∙ c.in-None.ensures.steps.0)
