-- What the machine serves: which history, and that the folder of each of its Emails is told.
use Rattle.std.specs.Prelude.{◌≡◌, ℕ, All, IsSome, Some}
use Rattle.mail_maps.specs.declared.row.EmailRow.{EmailRow}
use Rattle.mail_state.specs.History.{MailHistory}
use Rattle.told_mail.specs.Mail.{folder_in}
use Rattle.gate_machine.specs.History.{KnownMail}
use Rattle.gate_machine.specs.Machine.{MachineState}

-- the machine is ready, and serves this history
abbrev pub Serves : MachineState → MailHistory → Type 0
Serves m h = (k : KnownMail) × (m.known ≡ Some k) × (k.history ≡ h)

-- the folder of each Email is told
abbrev pub HasFoldersTold : KnownMail → Type 0
HasFoldersTold k = All (λ (e : ℕ × EmailRow). IsSome (folder_in k.told.mail.folders e.1.folder)) k.history.numbered.rows

-- so it is of what the machine knows, where it is ready
abbrev pub TellsServedFolders : MachineState → Type 0
TellsServedFolders m = (k : KnownMail) → m.known ≡ Some k → HasFoldersTold k
