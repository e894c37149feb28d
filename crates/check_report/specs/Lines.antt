-- The lines of a report.
use Rattle.std.specs.Prelude.{ℕ, Bool, true, false, ◌+◌, ◌-◌, ◌^◌, ◌++◌, ◌==◌, List, [], ◌∷◌, codes, decimal, min, count_by, sum_by, if◌then◌else◌, Option, Some, None}
use Rattle.std.specs.List.{flat_map}
use Rattle.mail_maps.specs.declared.row.Role.{Role}
use Rattle.mail_maps.specs.declared.row.Role.TheVariants as role
use Rattle.store_causes.specs.declared.cause.Asked.{Asked}
use Rattle.store_causes.specs.declared.cause.Asked.TheVariants as asked
use Rattle.store_causes.specs.declared.cause.StoreCause.{StoreCause}
use Rattle.store_causes.specs.declared.cause.StoreCause.TheVariants as cause
use Rattle.check_report.specs.declared.finding.FolderFinding.{FolderFinding}
use Rattle.check_report.specs.declared.folders.TheConstants as text
use Rattle.check_report.specs.declared.reports.TheConstants as report_text
use Rattle.check_report.specs.Shown.{shown}
use Rattle.check_report.specs.CauseLines.{again_piece, begins_piece, cause_piece}

-- ---- folders

abbrev pub role_name : Role → List ℕ
role_name role.Inbox = codes "inbox"
role_name role.All = codes "all"
role_name role.Archive = codes "archive"
role_name role.Drafts = codes "drafts"
role_name role.Flagged = codes "flagged"
role_name role.Junk = codes "junk"
role_name role.Sent = codes "sent"
role_name role.Trash = codes "trash"

abbrev pub role_piece : Option Role → List ℕ
role_piece (Some r) = codes ", role " ++ role_name r
role_piece None = []

abbrev pub modseq_piece : ℕ → List ℕ
modseq_piece modseq =
    if modseq == 0 then codes "no mod-sequences (all flags are asked each time), " else codes "HIGHESTMODSEQ " ++ decimal modseq ++ codes ", "

-- what is fetched told
abbrev pub counts_piece : FolderFinding → List ℕ
counts_piece f = text.MESSAGES.now ++ decimal f.messages ++ text.HEADERS.now ++ decimal f.header_octets ++ role_piece f.role

-- what SELECT and what is fetched told
abbrev pub selected_piece : FolderFinding → List ℕ
selected_piece f = text.UIDVALIDITY.now ++ decimal f.validity ++ codes ", " ++ modseq_piece f.modseq ++ counts_piece f

abbrev pub told_piece : FolderFinding → List ℕ
told_piece f =
    if f.selectable then (if f.validity == 0 then codes "not selected yet" else selected_piece f) else codes "can't be selected, and is passed over"

abbrev pub folder_line : FolderFinding → List ℕ
folder_line f = shown f.name ++ codes ": " ++ told_piece f ++ codes "\n"

-- ---- a round

-- up to 2^64 - 1
abbrev pub messages_of : List FolderFinding → ℕ
messages_of fs = min (sum_by (λ (f : FolderFinding). f.messages) fs) (2 ^ 64 - 1)

abbrev pub octets_of : List FolderFinding → ℕ
octets_of fs = min (sum_by (λ (f : FolderFinding). f.header_octets) fs) (2 ^ 64 - 1)

-- a round takes those that can be selected
abbrev pub folders_of : List FolderFinding → ℕ
folders_of fs = count_by (λ (f : FolderFinding). f.selectable) fs

abbrev pub taken_piece : List FolderFinding → List ℕ
taken_piece fs = text.FOLDERS.now ++ decimal (folders_of fs) ++ text.HEADERS.now ++ decimal (octets_of fs) ++ codes "\n"

abbrev pub round_line : List FolderFinding → List ℕ
round_line fs = text.ROUND.now ++ decimal (messages_of fs) ++ taken_piece fs

-- ---- how far it came

abbrev pub login_lines : Bool → Bool → List ℕ → List ℕ
login_lines true let_in user = codes "it asks no login: it lets in whoever reaches it (PREAUTH)\n"
login_lines false true user = codes "it lets " ++ user ++ codes " in\n"
login_lines false false user = []

abbrev pub greeting_lines : List ℕ → List ℕ → Option Bool → Bool → List ℕ
greeting_lines store user (Some preauth) let_in = store ++ codes " greets\n" ++ login_lines preauth let_in user
greeting_lines store user None let_in = []

abbrev pub special_use_line : Bool → List ℕ
special_use_line true = codes "it tells special uses (RFC 6154): folders have the roles that it tells\n"
special_use_line false = codes "it does not tell special uses (RFC 6154): but for INBOX a folder has a role only where LIST tells it unasked\n"

abbrev pub connected_lines : Bool → List FolderFinding → List ℕ
connected_lines special_use fs = report_text.HAS_BOTH.now ++ special_use_line special_use ++ flat_map folder_line fs

-- this is asked in a round
abbrev pub is_of_round : Asked → Bool
is_of_round asked.Listing = true
is_of_round (asked.Selecting name) = true
is_of_round (asked.Fetching name) = true
is_of_round _ = false

-- a client connected, where the cause is this
abbrev pub is_connected : Option StoreCause → Bool
is_connected None = true
is_connected (Some (cause.Unanswered a b)) = is_of_round a
is_connected (Some (cause.Refused a)) = is_of_round a
is_connected (Some (cause.NoValidity name)) = true
is_connected (Some other) = false

-- what is told of the mail, where a client connected
abbrev pub read_lines : Bool → List FolderFinding → Option StoreCause → List ℕ
read_lines special_use fs c = if is_connected c then connected_lines special_use fs else []

-- the cause: where a first round was done what that took stands before it
abbrev pub end_piece : List ℕ → List ℕ → List FolderFinding → Bool → StoreCause → List ℕ
end_piece store user fs true c = round_line fs ++ report_text.FIRST_ALONE.now ++ again_piece store user c
end_piece store user fs false c = cause_piece store user c

-- what a first round takes and that the store can be used, or the cause, and how octets begin that can't be read
abbrev pub last_lines : List ℕ → List ℕ → List FolderFinding → Option StoreCause → Bool → Option (List ℕ) → List ℕ
last_lines store user fs None again beginning = round_line fs ++ report_text.USABLE.now
last_lines store user fs (Some c) again beginning = end_piece store user fs again c ++ begins_piece beginning ++ codes "\n"

abbrev pub lines_of : List ℕ → List ℕ → Option Bool → Bool → Bool → List FolderFinding → Option StoreCause → Bool → Option (List ℕ) → List ℕ
lines_of store user preauth let_in special_use fs c again beginning =
    greeting_lines store user preauth let_in ++ read_lines special_use fs c ++ last_lines store user fs c again beginning

-- The whole report on a store that is named so, and on its user: a function of what may be told alone.
abbrev pub report_of : List ℕ → List ℕ → Option Bool → Bool → Bool → List FolderFinding → Option StoreCause → Bool → Option (List ℕ) → List ℕ
report_of store user preauth let_in special_use fs c again beginning = lines_of (shown store) (shown user) preauth let_in special_use fs c again beginning
