-- What may be told of a check.
use Rattle.std.specs.Prelude.{◌≡◌, ◌+◌, ◌-◌, ◌^◌, ℕ, List, [], map, min, length, Option, Some, None, sum_by}
use Rattle.std.specs.BTreeMap.{is_at}
use Rattle.std.specs.Map.{lookup}
use Rattle.std.specs.Ordering.{nat_cmp}
use Rattle.told_folder.specs.declared.message.Message.{Message}
use Rattle.told_folder.specs.declared.message.NumberedFolder.{NumberedFolder}
use Rattle.mail_maps.specs.declared.row.MailboxRow.{MailboxRow}
use Rattle.mail_maps.specs.declared.row.Role.{Role}
use Rattle.mail_maps.specs.Mailboxes.{mailboxes_of}
use Rattle.imap_client.specs.Rounds.{is_selectable}
use Rattle.store_causes.specs.declared.check.Checked.{Checked}
use Rattle.check_report.specs.declared.finding.FolderFinding.{FolderFinding}
use Rattle.check_report.specs.declared.finding.Finding.{Finding}

abbrev pub role_of : Option MailboxRow → Option Role
role_of (Some row) = row.role
role_of None = None

-- the role of the Mailbox of this number
abbrev pub role_at : List (ℕ × MailboxRow) → ℕ → Option Role
role_at rows number = role_of (lookup (is_at (nat_cmp number)) rows)

-- the octets of the messages' headers, up to 2^64 - 1
abbrev pub header_octets : List Message → ℕ
header_octets messages = min (sum_by (λ (m : Message). length m.header) messages) (2 ^ 64 - 1)

-- what may be told of a folder that is served in this role
abbrev pub folder_finding : NumberedFolder → Option Role → FolderFinding
folder_finding held role = record {
  name = held.folder.name;
  selectable = is_selectable held;
  validity = held.folder.validity;
  modseq = held.folder.modseq;
  messages = length held.messages;
  header_octets = header_octets held.messages;
  role = role;
}

-- the folders, each with the role in which it is served
abbrev pub folder_findings : List NumberedFolder → List FolderFinding
folder_findings folders = map (λ (h : NumberedFolder). folder_finding h (role_at (mailboxes_of folders []) h.folder.number)) folders

-- what may be told of the check
pub record IsFindingOf (checked : Checked) (finding : Finding) : Type 0 where
  pub preauth : finding.preauth ≡ checked.preauth
  pub let_in : finding.let_in ≡ checked.let_in
  pub special_use : finding.special_use ≡ checked.special_use
  pub folders : finding.folders.items ≡ folder_findings checked.mirror.mail.folders
  pub cause : finding.cause ≡ checked.cause
  pub again : finding.again ≡ checked.again
  pub beginning : finding.beginning ≡ checked.beginning
