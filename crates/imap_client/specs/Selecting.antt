-- SELECT of a folder, and the UIDVALIDITY that it tells (RFC 9051 section 6.3.2, RFC 7162 section 3.2.5).
use Rattle.std.specs.Prelude.{◌==◌, ◌||◌, ℕ, Bool, false, List, if◌then◌else◌, is_some, Option, Some, None}
use Rattle.std.specs.List.{filter_map}
use Rattle.imap_types.specs.declared.command.Command.TheVariants as command
use Rattle.imap_types.specs.declared.response.Response.{Response}
use Rattle.told_folder.specs.Keyed.{last_of}
use Rattle.told_folder.specs.declared.message.Folder.{Folder}
use Rattle.told_mail.specs.Exchanges.{after_closed, validity_in}
use Rattle.imap_client.specs.declared.plan.Due.{Due}
use Rattle.imap_client.specs.declared.plan.Due.TheVariants as due

-- the validity and the mod-sequence up to which a folder is known
abbrev pub known_folder : Folder → Option (ℕ × ℕ)
known_folder f = if f.validity == 0 || f.modseq == 0 then None else Some (f.validity, f.modseq)

abbrev pub select_of : Folder → Due
select_of f = due.Send (command.Select f.name (known_folder f))

-- the last UIDVALIDITY that a SELECT tells of its folder
abbrev pub validity_told : List Response → Option ℕ
validity_told rs = last_of (filter_map validity_in (after_closed rs))

-- it tells one
abbrev pub tells_validity : List Response → Bool
tells_validity rs = is_some (validity_told rs)

abbrev pub is_kept : ℕ → Option ℕ → Bool
is_kept validity None = false
is_kept validity (Some told) = told == validity

-- it tells the one under which the folder is kept, so the folder is the same
abbrev pub tells_kept : ℕ → List Response → Bool
tells_kept validity rs = is_kept validity (validity_told rs)
