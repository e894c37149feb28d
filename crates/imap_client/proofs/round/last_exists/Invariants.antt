use Rattle.std.proofs.Common.{◌≡◌, drop}
use Rattle.told_mail.specs.Exchanges.{last_told}
use Rattle.imap_client.specs.Rounds as rounds
use Rattle.imap_client.proofs.round.last_exists.Given as goal

abbrev pub invariant-loop-response : goal.invariant-loop-response
invariant-loop-response l = last_told rounds.exists_in l.last (drop l.response-index l.responses) ≡ last_told rounds.exists_in 4294967295 l.responses
