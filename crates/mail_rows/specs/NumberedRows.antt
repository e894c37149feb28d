-- Emails by ascending number, with the number that the next new one gets.
use Rattle.std.specs.Prelude.{ℕ, ◌<◌, ◌==◌, [], Bool, ◌≡◌, ◌∷◌, false}
use Rattle.std.specs.List.{list_any}
use Rattle.mail_maps.specs.Rows.{Rows}
use Rattle.mail_maps.specs.declared.row.EmailRow.{EmailRow}

pub record NumberedRows : Type 0 where
  pub rows : Rows
  pub next : ℕ

-- each number is below the next one
abbrev pub AreBelow : ℕ → Rows → Type 0
AreBelow next [] = Unit {0}
AreBelow next (e ∷ es) = (e.0 < next) × AreBelow next es

abbrev pub none_numbered : NumberedRows
none_numbered = record { rows = []; next = 1 }

abbrev pub has_row_mark : ℕ → ℕ × EmailRow → Bool
has_row_mark mark e = e.1.mark == mark

-- whether an Email has the mark
abbrev pub knows : Rows → ℕ → Bool
knows rows mark = list_any (has_row_mark mark) rows

-- no two Emails have one mark
abbrev pub MarksApart : Rows → Type 0
MarksApart [] = Unit {0}
MarksApart (e ∷ es) = (knows es e.1.mark ≡ false) × MarksApart es
