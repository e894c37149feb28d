-- Octets as keys of a set.
use Rattle.std.specs.Prelude.{ℕ, List, Vec}
use Rattle.std.specs.declared.alloc.Global.{Global}

abbrev pub set_items : Vec ℕ Global → List ℕ
set_items v = v.items
