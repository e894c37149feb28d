use Rattle.std.proofs.Common.{not, rules}
use Rattle.std.proofs.lemmas.Fn.{filter_same}
use Rattle.told_folder.specs.declared.message.Message.{Message}
use Rattle.told_folder.proofs.telling.clear_messages.Goals as goal

pub returns : goal.returns
returns g c = filter_same _ (λ (x : Message). not (g.U.Uids.has c.args.gone.now x.uid)) _ (λ x b q k. search rules) _ _ c.retain.ensures.filtered
