use Rattle.std.proofs.Common.{ap, ◌∙◌}
use Rattle.std.proofs.lemmas.Result.{IfOk-weaker}
use Rattle.serde_json.specs.Data.{Data}
use Rattle.serde_json.specs.Written.{has_float}
use Rattle.set_replies.specs.reading.Listing.{lists_data}
use Rattle.set_replies.proofs.WholeLemmas.{reply_data_whole}
use Rattle.set_replies.proofs.replies.reply_over.Goals as goal

pub returns-clause-whole : goal.returns-clause-whole
returns-clause-whole c =
    IfOk-weaker c.reply_value.result _ _
    (λ value is. ap (λ (d : Data). has_float d) is ∙ reply_data_whole c.args.method c.as_str.result.now c.as_str-2.result.now (lists_data c.in_ok-lists.lists) c.in_ok-lists.ensures.whole)
    c.reply_value.ensures
