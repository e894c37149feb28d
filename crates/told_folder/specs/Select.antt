-- What a SELECT tells of its folder (RFC 9051 section 6.3.2, RFC 7162 sections 3.1.2 and 3.2.11).
use Rattle.std.specs.Prelude.{ℕ, ◌==◌, Bool, true, false, List, [], ◌∷◌, Option, Some, None, if◌then◌else◌, unwrap_or}
use Rattle.std.specs.List.{list_any, filter_map}
use Rattle.imap_types.specs.declared.code.Code.TheVariants as code
use Rattle.imap_types.specs.declared.response.Response.{Response}
use Rattle.imap_types.specs.declared.response.Response.TheVariants as response
use Rattle.imap_types.specs.declared.response.Status.TheVariants as status
use Rattle.told_folder.specs.Keyed.{last_of}
use Rattle.told_folder.specs.declared.message.NumberedFolder.{NumberedFolder}

abbrev pub is_closed : Response → Bool
is_closed (response.Untagged status.Ok code.Closed) = true
is_closed _ = false

-- the responses after the last CLOSED; all where there is none
abbrev pub after_closed : List Response → List Response
after_closed [] = []
after_closed (r ∷ rs) = if list_any is_closed rs then after_closed rs else (if is_closed r then rs else r ∷ rs)

-- the last value that one of the responses tells, else this one
abbrev pub last_told : (Response → Option ℕ) → ℕ → List Response → ℕ
last_told value was rs = unwrap_or (last_of (filter_map value rs)) was

abbrev pub validity_in : Response → Option ℕ
validity_in (response.Untagged status.Ok (code.UidValidity v)) = Some v
validity_in _ = None

abbrev pub modseq_in : Response → Option ℕ
modseq_in (response.Untagged status.Ok (code.HighestModSeq n)) = Some n
modseq_in _ = None

abbrev pub denies_modseq : Response → Bool
denies_modseq (response.Untagged status.Ok code.NoModSeq) = true
denies_modseq _ = false

-- 0 where there is NOMODSEQ, or no HIGHESTMODSEQ
abbrev pub modseq_told : List Response → ℕ
modseq_told rs = if list_any denies_modseq rs then 0 else last_told modseq_in 0 rs

-- under another validity the folder is another, and has no messages yet
abbrev pub under : ℕ → NumberedFolder → NumberedFolder
under v h = if v == h.folder.validity then h else record { folder = record h.folder { validity = v; next = 1 }; messages = [] }

abbrev pub with_modseq : ℕ → NumberedFolder → NumberedFolder
with_modseq n h = record { folder = record h.folder { modseq = n }; messages = h.messages }

abbrev pub selected_as : List Response → NumberedFolder → NumberedFolder
selected_as rs h = with_modseq (modseq_told rs) (under (last_told validity_in h.folder.validity rs) h)
