use Rattle.std.proofs.Common.{◌∙◌}
use Rattle.std.proofs.lemmas.Result.{IfOk-weaker}
use Rattle.query_changes.proofs.ToldLemmas.{are_now_in}
use Rattle.query_changes.proofs.told.now_in.Goals as goal

pub returns : goal.returns
returns c =
    IfOk-weaker c.among.result _ _ (λ v is. is ∙ are_now_in c.in_ok-ids.ids c.args.list.now c.args.touched.now c.in_ok-ids.ensures) c.among.ensures
