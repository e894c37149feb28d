-- The leaves whose values are fetched, as the code holds them.
use Rattle.std.specs.Prelude.{Bool, ◌&&◌, ◌||◌}
use Rattle.std.specs.BTreeSet.{contains}
use Rattle.std.specs.Ordering.{nat_cmp}
use Rattle.mime_tree.specs.declared.part.Part.{Part}
use Rattle.mime_tree.specs.Heads.{is_text}
use Rattle.mime_tree.specs.Roles.{leaf_number, media}
use Rattle.body_parts.specs.declared.body_values.Fetched.{Fetched}

abbrev pub is_fetched_in : Fetched → Part → Bool
is_fetched_in f p = f.all || contains nat_cmp f.numbers (leaf_number p)

-- a text that is fetched has a value
abbrev pub has_value_in : Fetched → Part → Bool
has_value_in f p = is_text (media p) && is_fetched_in f p
