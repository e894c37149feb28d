-- The octets of compact texts.
use Rattle.std.proofs.Common.{◌≡◌, ℕ, suc, ◌+◌, ◌≤◌, max, List, [], ◌∷◌, ◌++◌, length, codes, Bool, true, false, if◌then◌else◌, bytes_eq, Option, Some, None, option_map, refl, sym, ap, ◌∙◌, arith}
use Rattle.std.specs.Prelude.{option_and_then}
use Rattle.std.specs.Option.{option_map_or}
use Rattle.std.proofs.lemmas.List.{length-append}
use Rattle.std.proofs.Math.Nat.{max-eq_right}
use Rattle.json.specs.Print.{quoted}
use Rattle.serde_json.specs.Data.{Data, null, boolean, number, string, array, object, Items, no_items, item, Members, no_members, member}
use Rattle.serde_json.specs.Find.{pointer, as_array}
use Rattle.serde_json.specs.Written.{compact_text, items_text, members_text}
use Rattle.result_references.specs.References.{items_append, joined, mapped, step_by, at_segments}
use Rattle.result_references.specs.reading.Counting.{item_octets, member_octets, joined_octets, joined_in, joined_by, joined_at, octets_by, octets_at}

more_items : (ds : Items) → length (items_text true ds) ≡ suc (item_octets ds)
more_items no_items = refl
more_items (item d ds) = omega (arith, length-append (compact_text d) (items_text true ds), more_items ds)

more_members : (ms : Members) → length (members_text true ms) ≡ suc (member_octets ms)
more_members no_members = refl
more_members (member k d ms) =
    omega (arith, length-append (quoted k) (58 ∷ (compact_text d ++ members_text true ms)), length-append (compact_text d) (members_text true ms), more_members ms)

-- one is the least
at_least_one : (n : ℕ) → max 1 (suc n) ≡ suc n
at_least_one n = let above : 1 ≤ suc n = omega arith in max-eq_right above

-- the text of an array is those of its items, each with a comma, but for one, and the brackets
pub array_octets : (ds : Items) → length (compact_text (array ds)) ≡ suc (max 1 (item_octets ds))
array_octets no_items = refl
array_octets (item d ds) =
    omega (arith, length-append (compact_text d) (items_text true ds), more_items ds, at_least_one (length (compact_text d) + item_octets ds))

-- and that of an object so
pub object_octets : (ms : Members) → length (compact_text (object ms)) ≡ suc (max 1 (member_octets ms))
object_octets no_members = refl
object_octets (member k d ms) =
    omega (
      arith,
      length-append (quoted k) (58 ∷ (compact_text d ++ members_text true ms)),
      length-append (compact_text d) (members_text true ms),
      more_members ms,
      at_least_one (1 + length (quoted k) + length (compact_text d) + member_octets ms),
    )

-- ---- values that are joined

item_octets-append : (ds es : Items) → item_octets (items_append ds es) ≡ item_octets ds + item_octets es
item_octets-append no_items es = omega arith
item_octets-append (item d ds) es = omega (arith, item_octets-append ds es)

item_octets-joined : (d : Data) (rest : Items) → item_octets (joined d rest) ≡ joined_octets d + item_octets rest
item_octets-joined null rest = omega arith
item_octets-joined (boolean b) rest = omega arith
item_octets-joined (number n) rest = omega arith
item_octets-joined (string s) rest = omega arith
item_octets-joined (array ds) rest = item_octets-append ds rest
item_octets-joined (object ms) rest = omega arith

module _ (f : Data → Option Data) (g : Data → ℕ) (each : (d e : Data) → f d ≡ Some e → joined_octets e ≡ g d) where
  -- what all items give has the octets that each gives
  pub octets-mapped : (items es : Items) → mapped f items ≡ Some es → item_octets es ≡ joined_in g items
  octets-mapped no_items es is = let same : no_items ≡ es = cc in sym (ap item_octets same)
  octets-mapped (item d ds) es is = go (f d) (mapped f ds) refl refl (λ (rest : Items) (more : mapped f ds ≡ Some rest). octets-mapped ds rest more) is
    where
      go : (first : Option Data) (rest : Option Items) → f d ≡ first → mapped f ds ≡ rest
          → ((others : Items) → mapped f ds ≡ Some others → item_octets others ≡ joined_in g ds)
          → option_and_then (λ e. option_map (joined e) rest) first ≡ Some es
          → item_octets es ≡ g d + joined_in g ds
      go None rest at later all_later is = cc
      go (Some e) None at later all_later is = cc
      go (Some e) (Some rest) at later all_later is =
          let all : joined e rest ≡ es = cc in
          let here = each d e at in
          let after = all_later rest later in
          sym (ap item_octets all) ∙ item_octets-joined e rest ∙ ap (λ n. n + item_octets rest) here ∙ ap (λ n. g d + n) after

  stepped : (p : Option Data) (e : Data) → option_and_then f p ≡ Some e → joined_octets e ≡ option_map_or g p 0
  stepped None e is = cc
  stepped (Some d) e is = each d e is

  arrayed : (m : Option Items) (e : Data) → option_map array m ≡ Some e → (es : Items) × (m ≡ Some es) × (array es ≡ e)
  arrayed None e is = cc
  arrayed (Some es) e is = (es, refl, cc)

  -- of one step
  pub octets-step : (segment : List ℕ) (d e : Data) (is_items : Option Items) → step_by segment f d is_items ≡ Some e → joined_octets e ≡ joined_by segment g d is_items
  octets-step segment d e None is = stepped (pointer segment d) e is
  octets-step segment d e (Some items) is = go (bytes_eq segment (codes "/*")) is
    where
      go : (all : Bool) → (if all then option_map array (mapped f items) else option_and_then f (pointer segment d)) ≡ Some e
          → joined_octets e ≡ (if all then joined_in g items else option_map_or g (pointer segment d) 0)
      go true is = let found = arrayed (mapped f items) e is in ap joined_octets (sym found.2) ∙ octets-mapped items found.0 found.1
      go false is = stepped (pointer segment d) e is

  module _ (h : Data → ℕ) (whole : (d e : Data) → f d ≡ Some e → length (compact_text e) ≡ h d) where
    stepped_whole : (p : Option Data) (e : Data) → option_and_then f p ≡ Some e → length (compact_text e) ≡ option_map_or h p 0
    stepped_whole None e is = cc
    stepped_whole (Some d) e is = whole d e is

    pub octets-step_whole : (segment : List ℕ) (d e : Data) (is_items : Option Items) → step_by segment f d is_items ≡ Some e → length (compact_text e) ≡ octets_by segment h g d is_items
    octets-step_whole segment d e None is = stepped_whole (pointer segment d) e is
    octets-step_whole segment d e (Some items) is = go (bytes_eq segment (codes "/*")) is
      where
        go : (all : Bool) → (if all then option_map array (mapped f items) else option_and_then f (pointer segment d)) ≡ Some e
            → length (compact_text e) ≡ (if all then suc (max 1 (joined_in g items)) else option_map_or h (pointer segment d) 0)
        go true is =
            let found = arrayed (mapped f items) e is in
            ap (λ (x : Data). length (compact_text x)) (sym found.2) ∙ array_octets found.0 ∙ ap (λ n. suc (max 1 n)) (octets-mapped items found.0 found.1)
        go false is = stepped_whole (pointer segment d) e is

-- what stands at the segments in an item, joined
pub octets-joined_at : (segments : List (List ℕ)) (d e : Data) → at_segments segments d ≡ Some e → joined_octets e ≡ joined_at segments d
octets-joined_at [] d e is = let same : d ≡ e = cc in ap joined_octets (sym same)
octets-joined_at (segment ∷ segments) d e is = octets-step (at_segments segments) (joined_at segments) (octets-joined_at segments) segment d e (as_array d) is

-- and by itself
pub octets-at : (segments : List (List ℕ)) (d e : Data) → at_segments segments d ≡ Some e → length (compact_text e) ≡ octets_at segments d
octets-at [] d e is = let same : d ≡ e = cc in ap (λ (x : Data). length (compact_text x)) (sym same)
octets-at (segment ∷ segments) d e is =
    octets-step_whole (at_segments segments) (joined_at segments) (octets-joined_at segments) (octets_at segments) (octets-at segments) segment d e (as_array d) is
