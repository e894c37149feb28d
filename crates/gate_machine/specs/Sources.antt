-- What is known comes of what exchanges told in its epoch.
use Rattle.std.specs.Prelude.{◌≡◌, List, fold, Some}
use Rattle.told_folder.specs.declared.exchange.Exchange.{Exchange}
use Rattle.told_changes.specs.Told.{told}
use Rattle.mail_state.specs.History.{HasRoom}
use Rattle.mail_state.specs.Telling.{IsTold}
use Rattle.gate_machine.specs.History.{KnownMail}
use Rattle.gate_machine.specs.Machine.{MachineState}

-- The history is of what exchanges told, no place of it has passed the last one, and further exchanges told what was told since.
pub record IsOfExchanges (k : KnownMail) : Type 0 where
  pub history : IsTold k.history
  pub room : HasRoom k.history
  pub exchanges : List Exchange
  pub since : k.told.mail ≡ fold told k.history.mail exchanges

-- what the machine knows, where it is ready
abbrev pub KnowsExchanges : MachineState → Type 0
KnowsExchanges m = (k : KnownMail) → m.known ≡ Some k → IsOfExchanges k
