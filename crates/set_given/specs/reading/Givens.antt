-- What items are checked over as the code has it.
use Rattle.std.specs.Prelude.{◌≡◌, ℕ, ◌==◌, ◌||◌, Bool, List, Option, Some, None, if◌then◌else◌, option_map}
use Rattle.std.specs.List.{list_any}
use Rattle.told_folder.specs.declared.message.Folder.{Folder}
use Rattle.told_mail.specs.Mail.{folder_in}
use Rattle.change_list.specs.Advance.{row_at}
use Rattle.mail_maps.specs.declared.row.EmailRow.{EmailRow}
use Rattle.mail_state.specs.State.{IsStateOf}
use Rattle.set_order.specs.reading.Creating.{HasKeys}
use Rattle.set_given.specs.Given as spec
use Rattle.set_given.specs.declared.given.EmailFound.{EmailFound}
use Rattle.set_given.specs.declared.given.Given.{Given}
use Rattle.set_given.specs.reading.Makings.{IsMade}

pub record IsGiven (code : Given) (g : spec.Given) : Type 0 where
  pub state : IsStateOf g.history code.state.now
  pub mail : g.mail ≡ code.mirror.now.mail
  pub selected : g.selected ≡ option_map (λ name. name.now) code.selected
  pub special_use : g.special_use ≡ code.special_use
  pub created : g.created ≡ code.created.now
  pub making : HasKeys code.making.now g.making
  pub made : IsMade code.made.now g.made

abbrev pub found_data : EmailFound → spec.EmailFound
found_data e = record { email = e.email; mark = e.mark; placed = record { folder = e.folder; message = e.message.now } }

-- whether a folder of the number has an id
abbrev pub has_number : spec.Given → ℕ → Bool
has_number g n = spec.was_numbered g n || list_any (λ (e : List ℕ × ℕ). e.1 == n) g.made

abbrev pub folder_numbered : spec.Given → ℕ → Option Folder
folder_numbered g n = if has_number g n then folder_in g.mail.folders n else None

abbrev pub email_at : spec.Given → ℕ → Option EmailRow → Option spec.EmailFound
email_at g n None = None
email_at g n (Some row) = spec.shown_at g n row.mark

abbrev pub email_numbered : spec.Given → ℕ → Option spec.EmailFound
email_numbered g n = email_at g n (row_at g.history.numbered.rows n)
