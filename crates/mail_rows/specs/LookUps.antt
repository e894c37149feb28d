-- The Email of a mark.
use Rattle.std.specs.Prelude.{◌≡◌, ◌≢◌, ℕ, Some}
use Rattle.change_list.specs.Advance.{row_at}
use Rattle.mail_maps.specs.declared.row.EmailRow.{EmailRow}
use Rattle.mail_maps.specs.Rows.{Rows}

-- the row has the mark, and is found by its number
pub record IsOfMark (rows : Rows) (mark : ℕ) (row : EmailRow) : Type 0 where
  pub number : ℕ
  pub there : row_at rows number ≡ Some row
  pub marked : row.mark ≡ mark

abbrev pub NoneHasMark : Rows → ℕ → Type 0
NoneHasMark rows mark = (number : ℕ) (row : EmailRow) → row_at rows number ≡ Some row → row.mark ≢ mark
