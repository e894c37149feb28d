-- When two values are one.
use Rattle.std.specs.Prelude.{◌==◌, ◌&&◌, Bool, true, false, bytes_eq}
use Rattle.std.specs.Bool.{beq}
use Rattle.std.specs.Ordering.{int_eq}
use Rattle.serde_json.specs.Data.{Num, unsigned, negative, Data, null, boolean, number, string, array, object, Items, no_items, item, Members, no_members, member}

-- of one kind, with the same parts; no number that isn't whole is one with another
abbrev pub same_number : Num → Num → Bool
same_number (unsigned a) (unsigned b) = a == b
same_number (negative a) (negative b) = int_eq a b
same_number _ _ = false

abbrev mutual
  pub same_data : Data → Data → Bool
  same_data null null = true
  same_data (boolean a) (boolean b) = beq a b
  same_data (number a) (number b) = same_number a b
  same_data (string a) (string b) = bytes_eq a b
  same_data (array a) (array b) = same_items a b
  same_data (object a) (object b) = same_members a b
  same_data _ _ = false

  pub same_items : Items → Items → Bool
  same_items no_items no_items = true
  same_items (item d ds) (item e es) = same_data d e && same_items ds es
  same_items _ _ = false

  pub same_members : Members → Members → Bool
  same_members no_members no_members = true
  same_members (member k d ms) (member l e ns) = bytes_eq k l && (same_data d e && same_members ms ns)
  same_members _ _ = false
