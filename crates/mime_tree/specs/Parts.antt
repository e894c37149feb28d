-- Parts, one under another.
use Rattle.std.specs.Prelude.{◌≡◌, ◌≤◌, ℕ, zero, suc, List, length, Option, Contains}
use Rattle.std.specs.List.{sum_by}
use Rattle.mime_tree.specs.declared.part.Part.{Part, out-Part}

-- the parts directly in a part
abbrev pub children : Part → List Part
children p = (out-Part p).children.items

abbrev pub part_number : Part → Option ℕ
part_number p = (out-Part p).number

-- q is p, or stands under a part that is directly in p
pub data IsUnder (q : Part) : Part → Type 0 where
  Itself : IsUnder q q
  Below : (p c : Part) → Contains (children p) c → IsUnder q c → IsUnder q p

-- the part's body and header lie within the octets
pub record IsWithin (p : Part) (b : List ℕ) : Type 0 where
  pub head : (out-Part p).head_start ≤ (out-Part p).head_end
  pub body_follows : (out-Part p).head_end ≡ (out-Part p).start
  pub body : (out-Part p).start ≤ (out-Part p).end
  pub within : (out-Part p).end ≤ length b

-- how many parts a tree has, leaves and multiparts together, where at most n levels stand below its root
unfoldable pub parts_within : ℕ → Part → ℕ
parts_within zero p = 1
parts_within (suc n) p = suc (sum_by (parts_within n) (children p))
