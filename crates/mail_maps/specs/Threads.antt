-- Threads (RFC 8621 section 3): which Emails each has, by when they were received, then number.
use Rattle.std.specs.Prelude.{ℕ, ℤ, List, [], ◌∷◌, map, filter, Option, Some, None}
use Rattle.std.specs.declared.cmp.Ordering.{Ordering}
use Rattle.std.specs.Ordering.{nat_cmp, int_cmp, ordering_then}
use Rattle.mail_maps.specs.declared.row.EmailRow.{EmailRow}
use Rattle.mail_maps.specs.Keywords.{sorted_into}
use Rattle.mail_maps.specs.Rows.{Rows, in_thread}

abbrev pub distinct : List ℕ → List ℕ
distinct xs = sorted_into nat_cmp [] xs

-- by received, then number
abbrev pub pair_cmp : ℤ × ℕ → ℤ × ℕ → Ordering
pair_cmp a b = ordering_then (int_cmp a.0 b.0) (nat_cmp a.1 b.1)

-- when each Email of a Thread was received, with its number
abbrev pub pairs_in : Rows → ℕ → List (ℤ × ℕ)
pairs_in rows thread = map {B = ℤ × ℕ} (λ (e : ℕ × EmailRow). (e.1.received, e.0)) (filter (in_thread thread) rows)

abbrev pub emails_in : Rows → ℕ → List ℕ
emails_in rows thread = map (λ (p : ℤ × ℕ). p.1) (sorted_into pair_cmp [] (pairs_in rows thread))

abbrev pub thread_numbers : Rows → List ℕ
thread_numbers rows = distinct (map (λ (e : ℕ × EmailRow). e.1.thread) rows)

-- each Thread with its Emails, ascending
abbrev pub threads_of : Rows → List (ℕ × List ℕ)
threads_of rows = map {B = ℕ × List ℕ} (λ t. (t, emails_in rows t)) (thread_numbers rows)

-- this, where any of those is there
abbrev pub where_any : {A B : Type 0} → List A → B → Option B
where_any [] b = None
where_any (x ∷ xs) b = Some b

-- the Emails of a Thread, where it has any
abbrev pub thread_at : Rows → ℕ → Option (List ℕ)
thread_at rows thread = where_any (pairs_in rows thread) (emails_in rows thread)
