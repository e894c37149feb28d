-- Tests of what a folder, a message and its flags may be.
use Rattle.std.specs.Prelude.{ℕ, ◌^◌, ◌==◌, ◌&&◌, Bool, false, not, nat_le, nat_lt, List, [], ◌∷◌, length, Option, Some, None, if◌then◌else◌}
use Rattle.std.specs.List.{list_all}
use Rattle.imap_types.specs.Octets.{is_atom}
use Rattle.told_folder.specs.declared.message.Folder.{Folder}
use Rattle.told_folder.specs.declared.message.Message.{Message}

abbrev pub is_atom_text : List ℕ → Bool
is_atom_text t = nat_lt 0 (length t) && list_all is_atom t

-- an atom, or one after a backslash
abbrev pub is_name : List ℕ → Bool
is_name [] = false
is_name (c ∷ t) = if c == 92 then is_atom_text t else is_atom_text (c ∷ t)

abbrev pub is_zero : Option ℕ → Bool
is_zero None = false
is_zero (Some d) = d == 0

abbrev pub has_right_numbers : Folder → Bool
has_right_numbers f =
    nat_lt 0 f.number && (nat_le f.number 9007199254740991 && (nat_lt f.modseq (2 ^ 63) && (nat_lt 0 f.next && (nat_le f.next (2 ^ 32) && not (is_zero f.delimiter)))))

abbrev pub has_right_places : Message → Bool
has_right_places x = nat_lt 0 x.mark && (nat_le x.mark 9007199254740991 && (nat_lt 0 x.uid && nat_lt x.size (2 ^ 63)))
