-- What a client does to the list that it has (RFC 8620 section 5.6): it takes ids out, and then puts others in, each at its index.
use Rattle.std.specs.Prelude.{ℕ, not, List, [], ◌∷◌, filter, insert}
use Rattle.std.specs.List.{enumerate_from}
use Rattle.change_list.specs.Copy.{holds_id}

-- the list without some numbers
abbrev pub without_numbers : List ℕ → List ℕ → List ℕ
without_numbers numbers list = filter (λ n. not (holds_id numbers n)) list

-- with numbers put in at indices, one after the other
abbrev pub with_inserted : List ℕ → List (ℕ × ℕ) → List ℕ
with_inserted list [] = list
with_inserted list (e ∷ more) = with_inserted (insert list e.0 e.1) more

abbrev pub spliced : List ℕ → List ℕ → List (ℕ × ℕ) → List ℕ
spliced list removed added = with_inserted (without_numbers removed list) added

-- those of the list's numbers, with their indices, that are among these
abbrev pub added_in : List ℕ → List ℕ → List (ℕ × ℕ)
added_in numbers list = filter (λ (e : ℕ × ℕ). holds_id numbers e.1) (enumerate_from 0 list)
