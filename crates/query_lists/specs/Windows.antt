-- The part of a query's list that is asked (RFC 8620 section 5.5).
use Rattle.std.specs.Prelude.{ℕ, suc, ◌+◌, ◌-◌, ◌==◌, ℤ, pos, negsuc, List, length, take, drop, position, Option, Some, None, option_map}
use Rattle.query_lists.specs.declared.window.WindowAsked.{WindowAsked}
use Rattle.query_lists.specs.declared.window.WindowStart.{WindowStart}
use Rattle.query_lists.specs.declared.window.WindowStart.TheVariants.{Position, Anchor}

-- an index shifted by an offset, towards the front no further than to it
abbrev pub shifted : ℕ → ℤ → ℕ
shifted index (pos n) = index + n
shifted index (negsuc n) = index - suc n

-- the index that a position names: counted from the front, or from the end where it is negative
abbrev pub index_named : ℕ → ℤ → ℕ
index_named len (pos n) = n
index_named len (negsuc n) = shifted len (negsuc n)

-- the index of the anchor, where it is in the list, shifted by the offset
abbrev pub index_by_anchor : List ℕ → ℕ → ℤ → Option ℕ
index_by_anchor list number offset = option_map (λ index. shifted index offset) (position (λ other. other == number) list)

-- the index of the first id that is asked; there is none where the anchor isn't in the list
abbrev pub start_of : List ℕ → WindowStart → Option ℕ
start_of list (Position position) = Some (index_named (length list) position)
start_of list (Anchor number offset) = index_by_anchor list number offset

-- no more than the limit
abbrev pub at_most : Option ℕ → List ℕ → List ℕ
at_most None numbers = numbers
at_most (Some limit) numbers = take limit numbers

-- the numbers that are asked, and the index of the first of them
pub record WindowPart : Type 0 where
  pub start : ℕ
  pub numbers : List ℕ

abbrev pub part_from : List ℕ → Option ℕ → ℕ → WindowPart
part_from list limit start = record { start = start; numbers = at_most limit (drop start list) }

abbrev pub window_of : List ℕ → WindowAsked → Option WindowPart
window_of list asked = option_map (part_from list asked.limit) (start_of list asked.start)
