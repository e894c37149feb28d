-- What a change list keeps: its place, and the last touches.
use Rattle.std.specs.Prelude.{◌≡◌, ℕ, ◌+◌, ◌-◌, ◌≤◌, List, [], ◌∷◌, ◌++◌, length}
use Rattle.circular_buffer.specs.Buffer.{keep_last}
use Rattle.change_list.specs.declared.list.TheConstants.{WINDOW}
use Rattle.change_list.specs.declared.entries.Entry.{Entry}

pub record Kept : Type 0 where
  pub place : ℕ
  pub entries : List Entry

-- a list keeps the last touches of h, and knows how many there have been
pub record IsOf (k : Kept) (h : List Entry) : Type 0 where
  pub place : k.place ≡ length h
  pub entries : k.entries ≡ keep_last WINDOW h

-- the least place of n after which all touches are kept
abbrev pub front_of : ℕ → ℕ
front_of n = n - WINDOW

-- the places from the front to the last
pub record IsKeptPlace (k : Kept) (s : ℕ) : Type 0 where
  pub from_front : front_of k.place ≤ s
  pub to_last : s ≤ k.place

abbrev pub none_yet : Kept
none_yet = record { place = 0; entries = [] }

abbrev pub with_touch : Kept → Entry → Kept
with_touch k e = record { place = k.place + 1; entries = keep_last WINDOW (k.entries ++ e ∷ []) }
