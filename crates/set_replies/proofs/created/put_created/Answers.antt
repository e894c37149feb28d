use Rattle.std.proofs.Common.{◌∙◌, ap, map}
use Rattle.std.proofs.lemmas.Result.{on_ok_weaker}
use Rattle.set_replies.specs.Created.{created_in}
use Rattle.set_replies.specs.Lists.{Served}
use Rattle.set_replies.specs.reading.Items.{done_data}
use Rattle.set_replies.proofs.StateLemmas.{apart, served_is}
use Rattle.set_replies.proofs.created.put_created.Goals as goal

pub returns : goal.returns
returns c = λ h of.
    on_ok_weaker c.put_all_made.result
    (λ is. is ∙ ap (λ (s : Served). created_in s c.args.created.now (map done_data c.args.done.now)) (served_is h c.args.state.now of))
    (c.put_all_made.ensures (apart h c.args.state.now of))
