use Rattle.imap_client.specs.declared.connection.Stage.TheVariants as stage
use Rattle.imap_client.specs.declared.round.RoundStage.TheVariants as round
use Rattle.imap_client.proofs.Connections.{connecting_stops}
use Rattle.imap_client.proofs.RoundSteps.{round_stops}
use Rattle.imap_client.proofs.laws.refusals_stop.Goals as goal

pub returns-clause-connecting : goal.returns-clause-connecting
returns-clause-connecting c = λ preauth user password. connecting_stops preauth user password stage.Asking

pub returns-clause-round : goal.returns-clause-round
returns-clause-round c = λ special_use m. round_stops (record { stage = round.Listing special_use; mail = m })
