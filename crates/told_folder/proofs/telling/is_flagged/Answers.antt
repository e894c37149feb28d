use Rattle.std.proofs.Common.{◌≡◌, ◌∙◌, subst}
use Rattle.std.specs.Prelude.{IsTrue, ◌↔◌}
use Rattle.told_folder.specs.declared.message.Message.{Message}
use Rattle.told_folder.proofs.KeyedLemmas.{some_same}
use Rattle.told_folder.proofs.telling.is_flagged.Goals as goal

pub returns-in-Some : goal.returns-in-Some
returns-in-Some c = λ x found. subst (λ (m : Message). IsTrue c.are_same.result ↔ (m.flags ≡ c.args.flags.now)) (some_same _ _ (c.in-Some.ensures ∙ found)) c.are_same.ensures
