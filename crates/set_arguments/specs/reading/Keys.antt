-- Objects and what they are named by, as the code has them.
use Rattle.std.specs.Prelude.{ℕ, ◌&&◌, Bool, true, IsTrue, List, [], ◌∷◌, map, Option, Vec}
use Rattle.std.specs.declared.alloc.Global.{Global}
use Rattle.std.specs.Option.{IfSome}
use Rattle.std.specs.Cmp.Lexicographic.{slice_cmp}
use Rattle.std.specs.List.{list_all}
use Rattle.std.specs.Ordering.{nat_cmp, is_lt}
use Rattle.serde_json.specs.Data.{Members}
use Rattle.serde_json.specs.View.{members_view}
use Rattle.set_arguments.specs.declared.asked.Keyed.{Keyed}

abbrev pub keyed_data : Keyed → List ℕ × Members
keyed_data k = (k.key.now, members_view k.object.now.entries)

-- a key is below these by octets
abbrev pub is_below_all : List ℕ → List (List ℕ × Members) → Bool
is_below_all key cs = list_all (λ (other : List ℕ × Members). is_lt (slice_cmp nat_cmp key other.0)) cs

-- keys ascend by octets, as they do in an object
abbrev pub ascends : List (List ℕ × Members) → Bool
ascends [] = true
ascends (c ∷ cs) = is_below_all c.0 cs && ascends cs

abbrev pub AscendWhereThere : Option (Vec Keyed Global) → Type 0
AscendWhereThere o = IfSome o (λ v. IsTrue (ascends (map keyed_data v.items)))
