-- The responses by which the small store tells its mail (RFC 9051 section 7, RFC 7162 section 3.2).
use Rattle.std.specs.Prelude.{ℕ, ◌+◌, ◌==◌, nat_lt, nat_le, ◌&&◌, ◌||◌, Bool, true, List, [], ◌∷◌, ◌++◌, Option, Some, None, filter, map, fold, min, max}
use Rattle.std.specs.Prelude.{take, count_by, length, codes, if◌then◌else◌}
use Rattle.imap_types.specs.declared.code.Code.{Code}
use Rattle.imap_types.specs.declared.code.Code.TheVariants as code
use Rattle.imap_types.specs.declared.response.Response.{Response}
use Rattle.imap_types.specs.declared.response.Response.TheVariants as response
use Rattle.imap_types.specs.declared.response.Status.TheVariants as status
use Rattle.imap_types.specs.declared.uid_set.UidSet.{UidSet}
use Rattle.imap_types.specs.Items.{kept, no_items, body_limit}
use Rattle.honest_store.specs.StoreMail.{StoreMessage, StoreFolder}
use Rattle.honest_store.specs.Headers.{header_told}

abbrev pub set_of : ℕ → UidSet
set_of u = record { ranges = record { first = u; last = u } ∷ [] }

abbrev pub ok_response : Code → Response
ok_response c = response.Untagged status.Ok c

abbrev pub list_response : StoreFolder → Response
list_response f = response.List f.attributes f.delimiter f.name

-- ---- FETCH

-- a message's place among those of its folder, from 1 on (RFC 9051 section 2.3.1.2)
abbrev pub sequence_number : List StoreMessage → StoreMessage → ℕ
sequence_number ms m = count_by (λ other. nat_lt other.uid m.uid) ms + 1

abbrev pub flags_response : List StoreMessage → StoreMessage → Response
flags_response ms m = response.Fetch (sequence_number ms m) (record no_items { uid = Some m.uid; flags = Some m.flags })

abbrev pub change_response : List StoreMessage → StoreMessage → Response
change_response ms m = response.Fetch (sequence_number ms m) (record no_items { uid = Some m.uid; flags = Some m.flags; modseq = Some m.modseq })

abbrev pub header_response : Bool → List StoreMessage → StoreMessage → Response
header_response with_modseq ms m = response.Fetch (sequence_number ms m) (record {
  uid = Some m.uid;
  flags = Some m.flags;
  modseq = if with_modseq then Some m.modseq else None;
  date = Some m.date;
  size = Some m.size;
  header = Some (header_told m.octets);
  body = None;
})

abbrev pub body_response : List StoreMessage → StoreMessage → Response
body_response ms m = response.Fetch (sequence_number ms m) (record no_items { uid = Some m.uid; body = Some (take body_limit m.octets) })

-- ---- which messages are told of

abbrev pub with_uids : (ℕ → Bool) → List StoreMessage → List StoreMessage
with_uids test ms = filter (λ m. test m.uid) ms

abbrev pub greatest_uid : List StoreMessage → ℕ
greatest_uid ms = fold (λ n m. max n m.uid) 0 ms

-- of a range, whose ends stand in either order
abbrev pub is_between : ℕ → ℕ → ℕ → Bool
is_between from to u = nat_le (min from to) u && nat_le u (max from to)

-- of `from:*`
abbrev pub is_from_on : ℕ → List StoreMessage → ℕ → Bool
is_from_on from ms u = nat_le from u || u == greatest_uid ms

-- ---- SELECT

abbrev pub closed_responses : Option ℕ → List Response
closed_responses None = []
closed_responses (Some n) = ok_response code.Closed ∷ []

-- the UIDs that went since this mod-sequence, and the messages that changed
abbrev pub changes_since : StoreFolder → ℕ → List Response
changes_since f since =
    map (λ e. response.Vanished true (set_of e.uid)) (filter (λ e. nat_lt since e.modseq) f.expunged)
    ++ map (change_response f.messages) (filter (λ m. nat_lt since m.modseq) f.messages)

-- where the client knows the folder under its UIDVALIDITY
abbrev pub known_changes : StoreFolder → Option (ℕ × ℕ) → List Response
known_changes f None = []
known_changes f (Some known) = if known.0 == f.validity then changes_since f known.1 else []

abbrev pub system_flags : List (List ℕ)
system_flags = kept (codes "\\seen" ∷ codes "\\answered" ∷ codes "\\flagged" ∷ codes "\\draft" ∷ codes "\\deleted" ∷ [])

abbrev pub folder_responses : StoreFolder → List Response
folder_responses f =
    response.Flags system_flags ∷ list_response f ∷ response.Exists (length f.messages) ∷ ok_response (code.UidValidity f.validity)
    ∷ ok_response (code.UidNext f.uid_next) ∷ ok_response (code.HighestModSeq f.highest) ∷ []

abbrev pub select_responses : Option ℕ → StoreFolder → Option (ℕ × ℕ) → List Response
select_responses selected f known = closed_responses selected ++ folder_responses f ++ known_changes f known
