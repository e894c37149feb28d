use Rattle.std.proofs.Common.{◌≡◌, true, false, sym, ◌∙◌}
use Rattle.set_replies.proofs.ListLemmas.{object_is}
use Rattle.set_replies.proofs.replies.object_or_null.Goals as goal

pub returns : goal.returns
returns c = object_is c.args.members (λ none. absurd (let no : true ≡ false = sym (c.is_empty.ensures.1 none) ∙ c.if-is_empty.false in cc))
