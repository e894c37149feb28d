-- Raw values by the names of their fields, as the code holds them.
use Rattle.std.specs.Prelude.{◌≡◌, ℕ, Vec, List, [], map}
use Rattle.std.specs.BTreeMap.{BTreeMap, get_by}
use Rattle.std.specs.Char.{to_ascii_lowercase}
use Rattle.std.specs.Cmp.Lexicographic.{slice_cmp}
use Rattle.std.specs.Option.{option_map_or}
use Rattle.std.specs.Ordering.{nat_cmp}
use Rattle.std.specs.declared.alloc.Global.{Global}
use Rattle.std.proofs.Common.{Bor}
use Rattle.mail_header.specs.Fields.{NameAndRaw}
use Rattle.field_values.specs.HeaderProperties.{raws_named}

-- the lists of raw values
abbrev pub RawLists : Type 0
RawLists = BTreeMap (Vec ℕ Global) (Vec (Bor (List ℕ)) Global)

-- those at a name in lower case
abbrev pub raws_at : RawLists → List ℕ → List (List ℕ)
raws_at index name = option_map_or (λ (v : Vec (Bor (List ℕ)) Global). map (λ (r : Bor (List ℕ)). r.now) v.items) (get_by (λ (k : Vec ℕ Global). slice_cmp nat_cmp name k.items) index) []

-- at each name in lower case stand the raw values of the fields of this name
abbrev pub IsIndexOf : RawLists → List NameAndRaw → Type 0
IsIndexOf index fields = (name : List ℕ) → raws_at index (map to_ascii_lowercase name) ≡ raws_named name fields
