-- Where the code of a command says that a message went (RFC 4315 section 3, RFC 9051 sections 6.3.12 and 6.4.8).
use Rattle.std.specs.Prelude.{ℕ, ◌==◌, ◌||◌, ◌&&◌, nat_le, nat_lt, not, Bool, false, List, [], ◌∷◌, ◌++◌, Option, Some, None, find, if◌then◌else◌, is_some}
use Rattle.std.specs.List.{list_all, filter_map}
use Rattle.std.specs.Option.{option_map}
use Rattle.imap_types.specs.declared.code.Code.{Code}
use Rattle.imap_types.specs.declared.code.Code.TheVariants as code
use Rattle.imap_types.specs.declared.command.Command.{Command}
use Rattle.imap_types.specs.declared.command.Command.TheVariants as command
use Rattle.imap_types.specs.declared.response.Response.{Response}
use Rattle.imap_types.specs.declared.response.Response.TheVariants as response
use Rattle.imap_types.specs.declared.response.Status.{Status}
use Rattle.imap_types.specs.declared.response.Status.TheVariants as status
use Rattle.imap_types.specs.declared.uid_set.UidRange.{UidRange}
use Rattle.told_folder.specs.declared.exchange.Exchange.{Exchange}
use Rattle.told_folder.specs.declared.message.Folder.{Folder}
use Rattle.told_folder.specs.declared.telling.TheConstants.{MAX_MARK}
use Rattle.told_mail.specs.Mail.{Mail, named, message_in}
use Rattle.told_changes.specs.declared.landing.Landing.{Landing}

-- ---- one UID

abbrev pub holds_some : UidRange → Bool
holds_some r = nat_le r.first r.last

-- the range holds no UID but this one
abbrev pub is_within : ℕ → UidRange → Bool
is_within u r = not (holds_some r) || (r.first == u && r.last == u)

abbrev pub only_from : List UidRange → Option UidRange → Option ℕ
only_from rs None = None
only_from rs (Some r) = if list_all (is_within r.first) rs then Some r.first else None

-- the one UID of a set of one
abbrev pub only_uid : List UidRange → Option ℕ
only_uid rs = only_from rs (find holds_some rs)

abbrev pub is_the : ℕ → Option ℕ → Bool
is_the u None = false
is_the u (Some v) = v == u

-- ---- codes

abbrev pub untagged_code : Response → Option Code
untagged_code (response.Untagged status.Ok c) = Some c
untagged_code _ = None

-- the codes of untagged OKs in their order, then that of the tagged line
abbrev pub codes_told : List Response → Code → List Code
codes_told rs c = filter_map untagged_code rs ++ c ∷ []

-- where a COPYUID of this validity says that the UID went, and no other with it
abbrev pub copied_to : ℕ → ℕ → Code → Option ℕ
copied_to validity uid (code.CopyUid v from to) =
    if v == validity && is_the uid (only_uid from.ranges) then only_uid to.ranges else None
copied_to validity uid _ = None

abbrev pub appended_at : ℕ → Code → Option ℕ
appended_at validity (code.AppendUid v uid) = if v == validity then Some uid else None
appended_at validity _ = None

abbrev pub first_of_all : List ℕ → Option ℕ
first_of_all [] = None
first_of_all (u ∷ us) = Some u

-- ---- landings

-- the folder that the command puts a message into
abbrev pub target_of : Mail → Command → Option Folder
target_of m (command.Move uid name) = option_map (λ h. h.folder) (named m.folders name)
target_of m (command.Append name flags date message) = option_map (λ h. h.folder) (named m.folders name)
target_of m _ = None

-- the UID that the message got in a folder of this validity: the first COPYUID that is usable counts; an APPEND that would need a mark
-- where none is left counts as one without a code
abbrev pub landed_uid : ℕ → ℕ → Command → List Response → Code → Option ℕ
landed_uid next_mark validity (command.Move uid name) rs c = first_of_all (filter_map (copied_to validity uid) (codes_told rs c))
landed_uid next_mark validity (command.Append name flags date message) rs c = if nat_le next_mark MAX_MARK then appended_at validity c else None
landed_uid next_mark validity _ rs c = None

abbrev pub landing_in : ℕ → Command → List Response → Code → Option Folder → Option Landing
landing_in next_mark c rs co None = None
landing_in next_mark c rs co (Some f) = option_map (λ uid. record { folder = f.number; uid = uid }) (landed_uid next_mark f.validity c rs co)

-- where the exchange's usable code says that its message went
abbrev pub landing : Mail → Exchange → Option Landing
landing m x = landing_in m.next_mark x.command x.responses x.code (target_of m x.command)

-- ---- contradictions

abbrev pub is_below_next : ℕ → Option Folder → Bool
is_below_next uid None = false
is_below_next uid (Some f) = nat_lt uid f.next

-- the UID is below the one before which all of the target is known, or is held there
abbrev pub is_contradicted : Mail → Option Folder → Landing → Bool
is_contradicted m target l = is_below_next l.uid target || is_some (message_in m.folders l.folder l.uid)

abbrev pub contradiction_at : Mail → Command → Option Landing → Option Landing
contradiction_at m c None = None
contradiction_at m c (Some l) = if is_contradicted m (target_of m c) l then Some l else None

abbrev pub contradiction_as : Status → Mail → Exchange → Option Landing
contradiction_as status.Ok m x = contradiction_at m x.command (landing m x)
contradiction_as _ m x = None

-- the landing that contradicts the mail; an exchange without OK has none
abbrev pub contradiction : Mail → Exchange → Option Landing
contradiction m x = contradiction_as x.status m x

abbrev pub unless_contradicted : Mail → Command → Option Landing → Option Landing
unless_contradicted m c None = None
unless_contradicted m c (Some l) = if is_contradicted m (target_of m c) l then None else Some l

abbrev pub told_landing_as : Status → Mail → Exchange → Option Landing
told_landing_as status.Ok m x = unless_contradicted m x.command (landing m x)
told_landing_as _ m x = None

-- where its message went, as it is told; an exchange without OK tells nothing
abbrev pub told_landing : Mail → Exchange → Option Landing
told_landing m x = told_landing_as x.status m x
