-- The messages that are served: all but those with the flag `\deleted`.
use Rattle.std.specs.Prelude.{ℕ, List, [], ◌∷◌, ◌++◌, Bool, not, ◌==◌, map, filter, find, Option, codes}
use Rattle.told_folder.specs.declared.message.Message.{Message}
use Rattle.told_folder.specs.declared.message.NumberedFolder.{NumberedFolder}
use Rattle.mail_maps.specs.Keywords.{has_name}

-- a message and the number of its folder
pub record Placed : Type 0 where
  pub folder : ℕ
  pub message : Message

abbrev pub is_served : Message → Bool
is_served x = not (has_name (codes "\\deleted") x.flags)

abbrev pub is_visible_place : Placed → Bool
is_visible_place p = is_served p.message

abbrev pub placed_in : NumberedFolder → List Placed
placed_in h = map (λ x. record { folder = h.folder.number; message = x }) h.messages

-- the visible messages, by folder number and then UID
abbrev pub visible : List NumberedFolder → List Placed
visible [] = []
visible (h ∷ hs) = filter is_visible_place (placed_in h) ++ visible hs

-- the visible message of the mark
abbrev pub shown : List NumberedFolder → ℕ → Option Placed
shown hs mark = find (λ p. p.message.mark == mark) (visible hs)
