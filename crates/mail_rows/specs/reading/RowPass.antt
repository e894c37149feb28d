-- One pass over the rows: which go, and which of those that remain are changed; and the rows after it.
use Rattle.std.specs.Prelude.{ℕ, ◌==◌, List, [], ◌∷◌, ◌++◌, Bool, false, not, ◌||◌, ◌&&◌, if◌then◌else◌, map, filter, is_some, Option, Some, None}
use Rattle.std.specs.BTreeMap.{BTreeMap, get}
use Rattle.std.specs.Option.{option_map}
use Rattle.std.specs.Ordering.{nat_cmp}
use Rattle.change_list.specs.declared.entries.Entry.{Entry}
use Rattle.change_list.specs.declared.entries.Kind.TheVariants.{Added, Changed, Removed}
use Rattle.told_folder.specs.Folders.{message_in}
use Rattle.told_folder.specs.declared.message.Message.{Message}
use Rattle.told_folder.specs.declared.message.NumberedFolder.{NumberedFolder}
use Rattle.mail_maps.specs.declared.row.EmailRow.{EmailRow}
use Rattle.mail_maps.specs.Rows.{Rows}
use Rattle.mail_maps.specs.Keywords.{keywords_of}
use Rattle.mail_maps.specs.Serve.{same_names}
use Rattle.mail_maps.specs.Visible.{Placed, shown, placed_in, is_served}
use Rattle.mail_rows.specs.declared.remaining.RemovedEmail.{RemovedEmail}
use Rattle.mail_rows.specs.declared.remaining.Found.{Found}
use Rattle.mail_rows.specs.declared.remaining.Update.{Update}

-- ---- messages at their places

abbrev pub if_served : ℕ → Message → Option Placed
if_served folder x = if is_served x then Some (record { folder = folder; message = x }) else None

abbrev pub served_if : ℕ → Option Message → Option Placed
served_if folder None = None
served_if folder (Some x) = if_served folder x

abbrev pub served_at : List NumberedFolder → ℕ → ℕ → Option Placed
served_at hs folder uid = served_if folder (message_in hs folder uid)

-- ---- the pass

-- whether what is served of a row changes with this folder and these keywords
abbrev pub is_changed_to : EmailRow → ℕ → List (List ℕ) → Bool
is_changed_to row folder keywords = not (row.folder == folder) || not (same_names row.keywords keywords)

-- whether it does where its message is this one
abbrev pub is_moved : EmailRow → Placed → Bool
is_moved row p = is_changed_to row p.folder (keywords_of p.message.flags)

-- whether the row itself does, its UID with it
abbrev pub is_another : EmailRow → Placed → Bool
is_another row p = is_moved row p || not (row.uid == p.message.uid)

-- what the row takes from the message
abbrev pub update_of : ℕ → Placed → Update
update_of number p = record { number = number; folder = p.folder; uid = p.message.uid; keywords = keywords_of p.message.flags }

abbrev pub touch_of_change : ℕ → Entry
touch_of_change number = record { id = number; kind = Changed; counts_only = false }

abbrev pub touch_of_addition : ℕ → Entry
touch_of_addition number = record { id = number; kind = Added; counts_only = false }

abbrev pub touch_of_removal : RemovedEmail → Entry
touch_of_removal g = record { id = g.number; kind = Removed; counts_only = false }

-- what the pass has found
pub record PassSoFar : Type 0 where
  pub gone : List RemovedEmail
  pub changed : List Entry
  pub updates : List Update

abbrev pub none_passed : PassSoFar
none_passed = record { gone = []; changed = []; updates = [] }

abbrev pub pass_of : Found → PassSoFar
pass_of f = record { gone = f.gone.items; changed = f.changed.items; updates = f.updates.items }

abbrev pub gone_of : ℕ × EmailRow → RemovedEmail
gone_of e = record { number = e.0; mark = e.1.mark }

abbrev pub change_where : Bool → ℕ → List Entry
change_where moved number = if moved then touch_of_change number ∷ [] else []

abbrev pub update_where : Bool → ℕ → Placed → List Update
update_where other number p = if other then update_of number p ∷ [] else []

abbrev pub gather_where : Option Placed → PassSoFar → ℕ × EmailRow → PassSoFar
gather_where None g e = record g { gone = g.gone ++ gone_of e ∷ [] }
gather_where (Some p) g e = record g {
  changed = g.changed ++ change_where (is_moved e.1 p) e.0;
  updates = g.updates ++ update_where (is_another e.1 p) e.0 p;
}

abbrev pub gather_one : List NumberedFolder → PassSoFar → ℕ × EmailRow → PassSoFar
gather_one hs g e = gather_where (shown hs e.1.mark) g e

abbrev pub gather_all : List NumberedFolder → PassSoFar → Rows → PassSoFar
gather_all hs g [] = g
gather_all hs g (e ∷ es) = gather_all hs (gather_one hs g e) es

-- ---- in the end

-- the rows that go
abbrev pub is_hidden : List NumberedFolder → ℕ × EmailRow → Bool
is_hidden hs e = not (is_some (shown hs e.1.mark))

abbrev pub gone_in : List NumberedFolder → Rows → List RemovedEmail
gone_in hs rows = map gone_of (filter (is_hidden hs) rows)

abbrev pub changes_where : Option Placed → ℕ × EmailRow → List Entry
changes_where None e = []
changes_where (Some p) e = change_where (is_moved e.1 p) e.0

abbrev pub changes_in : List NumberedFolder → Rows → List Entry
changes_in hs [] = []
changes_in hs (e ∷ es) = changes_where (shown hs e.1.mark) e ++ changes_in hs es

abbrev pub updates_where : Option Placed → ℕ × EmailRow → List Update
updates_where None e = []
updates_where (Some p) e = update_where (is_another e.1 p) e.0 p

abbrev pub updates_in : List NumberedFolder → Rows → List Update
updates_in hs [] = []
updates_in hs (e ∷ es) = updates_where (shown hs e.1.mark) e ++ updates_in hs es

-- ---- the row of a number, as rows go and are updated

abbrev pub row_left : List RemovedEmail → ℕ → Option EmailRow → Option EmailRow
row_left [] q o = o
row_left (g ∷ gs) q o = row_left gs q (if g.number == q then None else o)

abbrev pub with_update : Update → EmailRow → EmailRow
with_update u row = record row { folder = u.folder; uid = u.uid; keywords = u.keywords }

abbrev pub row_if : Update → ℕ → Option EmailRow → Option EmailRow
row_if u q o = if u.number == q then option_map (with_update u) o else o

abbrev pub row_updated : List Update → ℕ → Option EmailRow → Option EmailRow
row_updated [] q o = o
row_updated (u ∷ us) q o = row_updated us q (row_if u q o)

-- ---- messages without a row, by the index of marks

abbrev pub is_new_message : BTreeMap ℕ ℕ → Message → Bool
is_new_message marks x = is_served x && not (is_some (get nat_cmp marks x.mark))

abbrev pub is_unmarked : BTreeMap ℕ ℕ → Placed → Bool
is_unmarked marks p = is_new_message marks p.message

abbrev pub unmarked : BTreeMap ℕ ℕ → List NumberedFolder → List Placed
unmarked marks [] = []
unmarked marks (h ∷ hs) = filter (is_unmarked marks) (placed_in h) ++ unmarked marks hs
