use Rattle.std.proofs.Common.{◌≡◌, fold, drop, max}
use Rattle.small_answers.specs.ToldResponses.{greatest_uid}
use Rattle.small_store.proofs.fetches.greatest_uid.Given as goal

abbrev pub invariant-loop-message : goal.invariant-loop-message
invariant-loop-message l = fold (λ n m. max n m.uid) l.greatest (drop l.message-index l.messages) ≡ greatest_uid l.messages
