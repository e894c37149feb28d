-- Sets of keywords as the code has them.
use Rattle.std.specs.Prelude.{ℕ, List, map, Vec}
use Rattle.std.specs.declared.alloc.Global.{Global}
use Rattle.std.specs.BTreeSet.{BTreeSet}
use Rattle.mail_maps.specs.reading.Sets.{set_items}

abbrev pub set_keywords : BTreeSet (Vec ℕ Global) → List (List ℕ)
set_keywords set = map set_items set.keys
