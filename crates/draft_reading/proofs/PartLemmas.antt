-- Texts and media types of parts.
use Rattle.std.proofs.Common.{◌≡◌, ◌≤◌, ℕ, length, arith, Bool, true, false, not, ◌&&◌, ◌||◌, List, [], ◌∷◌, Option, Some, None, option_map, codes, refl}
use Rattle.std.specs.Prelude.{option_and_then}
use Rattle.std.proofs.lemmas.Bool.{and_parts}
use Rattle.serde_json.specs.Data.{Data, Items, no_items, item}
use Rattle.serde_json.specs.View.{view, items_view}
use Rattle.serde_json.specs.declared.value.Value.{Value}
use Rattle.text_words.specs.Cuts.{front, back}
use Rattle.mail_drafts.specs.MediaTypes.{is_media_type, is_leaf_type}
use Rattle.draft_reading.specs.Parts.{is_of, is_attachable, octet_stream, one_at_most}
use Rattle.draft_reading.specs.Values.{each_in}

-- ---- texts

-- of one item
pub one_text : (read : Data → Option (List ℕ)) (d : Data) → option_and_then one_at_most (each_in read (item d no_items)) ≡ option_map {T = List ℕ} {U = Option (List ℕ)} Some (read d)
one_text read d = by (read d)
  where
    by : (o : Option (List ℕ)) → option_and_then one_at_most (option_and_then (λ (x : List ℕ). option_map (λ (xs : List (List ℕ)). x ∷ xs) (Some [])) o) ≡ option_map {T = List ℕ} {U = Option (List ℕ)} Some o
    by None = refl
    by (Some x) = refl

-- of two items and more
pub more_texts : (read : Data → Option (List ℕ)) (d e : Data) (ds : Items) → option_and_then one_at_most (each_in read (item d (item e ds))) ≡ None
more_texts read d e ds = by (read d) (read e) (each_in read ds)
  where
    by : (o p : Option (List ℕ)) (q : Option (List (List ℕ)))
        → option_and_then one_at_most (option_and_then (λ (x : List ℕ). option_map (λ (xs : List (List ℕ)). x ∷ xs) (option_and_then (λ (y : List ℕ). option_map (λ (ys : List (List ℕ)). y ∷ ys) q) p)) o)
        ≡ None
    by None p q = refl
    by (Some x) None q = refl
    by (Some x) (Some y) None = refl
    by (Some x) (Some y) (Some ys) = refl

pub long_list : (read : Data → Option (List ℕ)) (vs : List Value) → 2 ≤ length vs → option_and_then one_at_most (each_in read (items_view vs)) ≡ None
long_list read [] long = absurd (omega arith)
long_list read (v ∷ []) long = absurd (omega arith)
long_list read (v ∷ w ∷ vs) long = more_texts read (view v) (view w) (items_view vs)

-- ---- media types

pub octets_are_leaf : is_leaf_type octet_stream ≡ true
unfolding front back
octets_are_leaf = refl

-- a type that may be attached and is no message's is a leaf's
pub leaf_is : (media : List ℕ) → is_attachable media ≡ true → is_of (codes "message") media ≡ false → is_leaf_type media ≡ true
leaf_is media e n =
    let p = and_parts (is_media_type media) (not (is_of (codes "multipart") media)) e in
    by (is_media_type media) p.0 (is_of (codes "multipart") media) p.1 (is_of (codes "message") media) n
  where
    by : (x : Bool) → x ≡ true → (y : Bool) → not y ≡ true → (z : Bool) → z ≡ false → x && not (y || z) ≡ true
    by true a true b z f = absurd (cc)
    by true a false b true f = absurd (cc)
    by true a false b false f = refl
    by false a y b z f = absurd (cc)
