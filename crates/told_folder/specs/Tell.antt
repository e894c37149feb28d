-- What the responses of an exchange tell of the messages of one folder (RFC 9051, RFC 7162).
use Rattle.std.specs.Prelude.{◌≡◌, ℕ, ℤ, ◌+◌, ◌==◌, ◌&&◌, nat_le, nat_lt, not, Bool, true, false, List, [], ◌∷◌, Option, Some, None, filter, if◌then◌else◌}
use Rattle.std.specs.Prelude.{length, take}
use Rattle.std.specs.List.{list_any}
use Rattle.imap_types.specs.declared.response.Response.{Response}
use Rattle.imap_types.specs.declared.response.Response.TheVariants as response
use Rattle.imap_types.specs.declared.response.FetchItems.{FetchItems}
use Rattle.imap_types.specs.declared.uid_set.UidRange.{UidRange}
use Rattle.told_folder.specs.Keyed.{with_key, put_keyed}
use Rattle.told_folder.specs.Folders.{uid_of}
use Rattle.told_folder.specs.declared.headers.TheConstants.{MAX_HEADER_OCTETS}
use Rattle.told_folder.specs.declared.message.Message.{Message}
use Rattle.told_folder.specs.declared.telling.TheConstants.{MAX_MARK}

-- the messages of the folder that is told of, and the next mark
pub record Telling : Type 0 where
  pub messages : List Message
  pub next_mark : ℕ

-- ---- VANISHED (RFC 7162 section 3.2.10)

abbrev pub is_in : UidRange → ℕ → Bool
is_in r u = nat_le r.first u && nat_le u r.last

abbrev pub covers : List UidRange → ℕ → Bool
covers rs u = list_any (λ r. is_in r u) rs

abbrev pub without_those : (ℕ → Bool) → List Message → List Message
without_those gone xs = filter (λ x. not (gone x.uid)) xs

-- ---- FETCH (RFC 9051 section 7.5.2)

abbrev pub with_flags : Message → Option (List (List ℕ)) → Message
with_flags x None = x
with_flags x (Some flags) = record x { flags = flags }

-- up to the last line end, and with it
abbrev pub whole_lines : List ℕ → List ℕ
whole_lines [] = []
whole_lines (b ∷ bs) = if list_any (λ c. c == 10) (b ∷ bs) then b ∷ whole_lines bs else []

-- a header that was cut loses its last line where that has no line end
abbrev pub kept_header : List ℕ → List ℕ
kept_header bs = if nat_lt (length bs) MAX_HEADER_OCTETS then bs else whole_lines (take MAX_HEADER_OCTETS bs)

-- a new message, where all of it is told and a mark is left
abbrev pub new_message : ℕ → ℕ → Option (List (List ℕ)) → Option ℤ → Option ℕ → Option (List ℕ) → Option Message
new_message mark uid (Some flags) (Some date) (Some size) (Some header) =
    if nat_le mark MAX_MARK then Some (record { uid = uid; mark = mark; flags = flags; date = date; size = size; header = kept_header header }) else None
new_message mark uid _ _ _ _ = None

abbrev pub with_new : Telling → Option Message → Telling
with_new t None = t
with_new t (Some x) = record { messages = put_keyed uid_of x t.messages; next_mark = t.next_mark + 1 }

-- a message that is held takes the flags, and one that isn't is added where the command adds
abbrev pub tell_uid : Bool → Telling → ℕ → FetchItems → Option Message → Telling
tell_uid adds t uid items (Some x) = record t { messages = put_keyed uid_of (with_flags x items.flags) t.messages }
tell_uid true t uid items None = with_new t (new_message t.next_mark uid items.flags items.date items.size items.header)
tell_uid false t uid items None = t

abbrev pub tell_fetch : Bool → Telling → Option ℕ → FetchItems → Telling
tell_fetch adds t None items = t
tell_fetch adds t (Some uid) items = tell_uid adds t uid items (with_key uid_of uid t.messages)

-- ---- responses in order

abbrev pub tell_response : Bool → Telling → Response → Telling
tell_response adds t (response.Fetch seq items) = tell_fetch adds t items.uid items
tell_response adds t (response.Vanished earlier uids) = record t { messages = without_those (covers uids.ranges) t.messages }
tell_response adds t _ = t

abbrev pub tell_responses : Bool → Telling → List Response → Telling
tell_responses adds t [] = t
tell_responses adds t (r ∷ rs) = tell_responses adds (tell_response adds t r) rs

-- each of these responses tells what is known
abbrev pub AllKnown : Bool → Telling → List Response → Type 0
AllKnown adds t [] = Unit {0}
AllKnown adds t (r ∷ rs) = (tell_response adds t r ≡ t) × AllKnown adds t rs
