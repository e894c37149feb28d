-- What a fetch tells of a message, and of which messages.
use Rattle.std.specs.Prelude.{ℕ, ◌==◌, nat_lt, nat_le, ◌||◌, Bool, true, List, [], ◌∷◌, Some, None, filter, map, take, if◌then◌else◌}
use Rattle.imap_types.specs.declared.response.Response.{Response}
use Rattle.imap_types.specs.declared.response.Response.TheVariants as response
use Rattle.imap_types.specs.declared.response.FetchItems.{FetchItems}
use Rattle.imap_types.specs.declared.code.Code.TheVariants as code
use Rattle.imap_types.specs.declared.response.Status.TheVariants as status
use Rattle.imap_types.specs.Items.{no_items, body_limit}
use Rattle.honest_store.specs.StoreMail.{StoreMessage}
use Rattle.honest_store.specs.Headers.{header_told}
use Rattle.honest_store.specs.Sessions.{StoreAnswer}
use Rattle.small_answers.specs.ToldResponses.{is_between, sequence_number}
use Rattle.small_store.specs.declared.fetches.Asked.{Asked}
pub use Rattle.small_store.specs.declared.fetches.Asked.TheVariants as asked
use Rattle.small_store.specs.declared.fetches.Which.{Which}
pub use Rattle.small_store.specs.declared.fetches.Which.TheVariants as which

abbrev pub is_asked : Which → StoreMessage → Bool
is_asked which.All m = true
is_asked (which.Range from to) m = is_between from to m.uid
is_asked (which.FromOn from last) m = nat_le from m.uid || m.uid == last
is_asked (which.One uid) m = m.uid == uid
is_asked (which.ChangedSince modseq) m = nat_lt modseq m.modseq

abbrev pub items_of : Asked → StoreMessage → FetchItems
items_of asked.Flags m = record no_items { uid = Some m.uid; flags = Some m.flags }
items_of asked.Change m = record no_items { uid = Some m.uid; flags = Some m.flags; modseq = Some m.modseq }
items_of (asked.Header with_modseq) m = record {
  uid = Some m.uid;
  flags = Some m.flags;
  modseq = if with_modseq then Some m.modseq else None;
  date = Some m.date;
  size = Some m.size;
  header = Some (header_told m.octets);
  body = None;
}
items_of asked.Body m = record no_items { uid = Some m.uid; body = Some (take body_limit m.octets) }

abbrev pub response_of : Asked → List StoreMessage → StoreMessage → Response
response_of a ms m = response.Fetch (sequence_number ms m) (items_of a m)

-- the message of this sequence number, where it is asked for
abbrev pub told_at : Which → Asked → ℕ → StoreMessage → List Response
told_at w a seq m = if is_asked w m then response.Fetch seq (items_of a m) ∷ [] else []

-- the answer that tells of those that are asked for
abbrev pub answer_of : Which → Asked → List StoreMessage → StoreAnswer
answer_of w a ms = record { responses = map (response_of a ms) (filter (is_asked w) ms); status = status.Ok; code = code.Absent }
