-- The Threads that a step touches: those in which an Email comes or goes.
use Rattle.std.specs.Prelude.{◌≡◌, ℕ, ◌==◌, ◌&&◌, ◌||◌, not, List, Bool, false, Option, Some, None}
use Rattle.std.specs.BTreeSet.{BTreeSet, contains}
use Rattle.std.specs.List.{list_any}
use Rattle.std.specs.Ordering.{nat_cmp}
use Rattle.change_list.specs.Advance.{row_at, advance_entries}
use Rattle.change_list.specs.Touches.{finds, leaves}
use Rattle.change_list.specs.declared.entries.Entry.{Entry}
use Rattle.served_maps.specs.Past.{tests_of}
use Rattle.mail_maps.specs.Rows.{Rows}
use Rattle.mail_maps.specs.declared.row.EmailRow.{EmailRow}
use Rattle.mail_maps.specs.Threads.{threads_of}
use Rattle.mail_maps.specs.Serve.{thread_of, thread_tests}

-- whether the Email of this number goes by the touch
abbrev pub removes : ℕ → Entry → Bool
removes n e = e.id == n && not (leaves e.kind)

abbrev pub is_in_thread : ℕ → Option EmailRow → Bool
is_in_thread t None = false
is_in_thread t (Some row) = row.thread == t

-- whether an Email comes into the Thread by the touch
abbrev pub adds_to : Rows → ℕ → Entry → Bool
adds_to rows t e = is_in_thread t (row_at rows e.id) && not (finds e.kind)

-- whether this is the Thread, and one of these Emails was in it
abbrev pub has_lost : BTreeSet ℕ → ℕ → ℕ × List ℕ → Bool
has_lost gone t d = d.0 == t && list_any (λ n. contains nat_cmp gone n) d.1

-- the same, of the Emails that go by these touches
abbrev pub loses : List Entry → ℕ → ℕ × List ℕ → Bool
loses touches t d = d.0 == t && list_any (λ n. list_any (removes n) touches) d.1

-- whether an Email came into the Thread or left it
abbrev pub is_touched : List (ℕ × List ℕ) → Rows → List Entry → ℕ → Bool
is_touched threads rows touches t = list_any (adds_to rows t) touches || list_any (loses touches t) threads

-- the Threads come to those of the rows, by these touches
pub record StepsThreads (before : List (ℕ × List ℕ)) (rows : Rows) (now : List (ℕ × List ℕ)) (steps : List Entry) : Type 0 where
  pub threads : now ≡ threads_of rows
  pub touches : steps ≡ advance_entries (tests_of thread_of thread_tests) before now

-- each Thread that isn't touched stays as it was
abbrev pub OthersStay : List (ℕ × List ℕ) → Rows → List Entry → Type 0
OthersStay threads rows touches = (t : ℕ) → is_touched threads rows touches t ≡ false → row_at (threads_of rows) t ≡ row_at threads t
