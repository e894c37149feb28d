-- Lists that are found by names: what stands at a name after one is put, taken out or grown.
use Rattle.std.proofs.Common.{◌≡◌, ℕ, ◌&&◌, cond, Bool, true, false, List, [], ◌∷◌, ◌++◌, Option, Some, None, Vec, Global, Bor, map, refl, sym, ap, ◌∙◌, eqb, arith}
use Rattle.std.proofs.Common.{if◌then◌else◌, nat_cmp, bytes_eq}
use Rattle.std.proofs.lemmas.List.{map-append}
use Rattle.std.proofs.lemmas.Map.Text.{is_eq-slice_cmp}
use Rattle.std.proofs.lemmas.Slice.Eq.{bytes_eq-Decides}
use Rattle.std.specs.BTreeMap.{insert_entry, is_at}
use Rattle.std.specs.Char.{to_ascii_lowercase}
use Rattle.std.specs.Cmp.Lexicographic.{slice_cmp}
use Rattle.std.specs.Map.{lookup, remove_entry}
use Rattle.std.specs.Option.{option_map_or}
use Rattle.std.specs.Ordering.{is_eq, match_ordering}
use Rattle.std.specs.Prelude.{slice_get, option_to_list}
use Rattle.std.specs.declared.cmp.Ordering.{Ordering}
use Rattle.std.specs.declared.cmp.Ordering.TheVariants.{Less, Equal, Greater}
use Rattle.mail_header.specs.Fields.{NameAndRaw, last_named}
use Rattle.field_values.specs.reading.FieldIndex.{RawLists, raws_at, IsIndexOf}
use Rattle.field_values.specs.reading.Gathering.{raw_at, last_raw}
use Rattle.field_values.proofs.PropertyLemmas.{no_raw_of_other, raw_of_named, last_is}

-- ---- names that are the same

same_sym : (a b : List ℕ) → bytes_eq a b ≡ bytes_eq b a
same_sym [] [] = refl
same_sym [] (y ∷ ys) = refl
same_sym (x ∷ xs) [] = refl
same_sym (x ∷ xs) (y ∷ ys) = ap (λ b. eqb x y && b) (same_sym xs ys) ∙ ap (λ b. b && bytes_eq ys xs) (eqb_sym x y) where
  eqb_sym : (m n : ℕ) → eqb m n ≡ eqb n m
  eqb_sym m n = grind arith

same_list : (a b : List ℕ) → bytes_eq a b ≡ true → a ≡ b
same_list a b e = (bytes_eq-Decides a b).0 e

-- texts compare as equal exactly where they are the same
at_is : (q k : List ℕ) → is_eq (slice_cmp nat_cmp q k) ≡ bytes_eq k q
at_is q k = is_eq-slice_cmp q k ∙ same_sym q k

abbrev pub at : List ℕ → Vec ℕ Global → Bool
at q x = is_at (λ (v : Vec ℕ Global). slice_cmp nat_cmp q v.items) x

abbrev pub by_items : Vec ℕ Global → Vec ℕ Global → Ordering
by_items x y = slice_cmp nat_cmp x.items y.items

module _ {V : Type 0} where
  -- after a value is put at a name it stands there, and at every other name stands what stood there
  place_put : (es : List (Vec ℕ Global × V)) (k : Vec ℕ Global) (v : V) (q : List ℕ)
      → lookup (at q) (insert_entry by_items es k v) ≡ (if bytes_eq k.items q then Some v else lookup (at q) es)
  place_put [] k v q = ap (λ b. cond b (Some v) None) (at_is q k.items)
  place_put (e ∷ es) k v q = by (slice_cmp nat_cmp k.items e.0.items) refl (place_put es k v q)
    where
      by : (o : Ordering) → slice_cmp nat_cmp k.items e.0.items ≡ o → lookup (at q) (insert_entry by_items es k v) ≡ (if bytes_eq k.items q then Some v else lookup (at q) es)
          → lookup (at q) (match_ordering o ((k, v) ∷ e ∷ es) ((e.0, v) ∷ es) (e ∷ insert_entry by_items es k v)) ≡ (if bytes_eq k.items q then Some v else lookup (at q) (e ∷ es))
      by Less s h = ap (λ b. cond b (Some v) (lookup (at q) (e ∷ es))) (at_is q k.items)
      by Equal s h =
          let keys : k.items ≡ e.0.items = same_list k.items e.0.items (sym (is_eq-slice_cmp k.items e.0.items) ∙ ap is_eq s) in
          let here : at q e.0 ≡ bytes_eq k.items q = at_is q e.0.items ∙ ap (λ (u : List ℕ). bytes_eq u q) (sym keys) in
          ap (λ b. cond b (Some v) (lookup (at q) es)) here
          ∙ elim (bytes_eq k.items q) as (λ b. bytes_eq k.items q ≡ b → cond b (Some v) (lookup (at q) es) ≡ (if b then Some v else cond (at q e.0) (Some e.1) (lookup (at q) es))) [
            | true ↦ λ f. refl
            | false ↦ λ f. sym (ap (λ b. cond b (Some e.1) (lookup (at q) es)) (here ∙ f))
          ] refl
      by Greater s h =
          ap (λ (o : Option V). cond (at q e.0) (Some e.1) o) h
          ∙ elim (at q e.0) as (λ b. at q e.0 ≡ b → cond b (Some e.1) (if bytes_eq k.items q then Some v else lookup (at q) es)
          ≡ (if bytes_eq k.items q then Some v else cond b (Some e.1) (lookup (at q) es))) [
            | true ↦ λ f.
                let keys : e.0.items ≡ q = same_list e.0.items q (sym (at_is q e.0.items) ∙ f) in
                let apart : bytes_eq k.items q ≡ false = ap (λ (u : List ℕ). bytes_eq k.items u) (sym keys) ∙ sym (is_eq-slice_cmp k.items e.0.items) ∙ ap is_eq s in
                sym (ap (λ b. if b then Some v else Some e.1) apart)
            | false ↦ λ f. refl
          ] refl

  -- after a name is taken out every other name has what it had
  place_cut : (es : List (Vec ℕ Global × V)) (name q : List ℕ) → bytes_eq name q ≡ false → lookup (at q) (remove_entry (at name) es) ≡ lookup (at q) es
  place_cut [] name q e = refl
  place_cut (z ∷ zs) name q e =
      elim (at name z.0) as (λ b. at name z.0 ≡ b → lookup (at q) (cond b zs (z ∷ remove_entry (at name) zs)) ≡ cond (at q z.0) (Some z.1) (lookup (at q) zs)) [
        | true ↦ λ t.
            let key : z.0.items ≡ name = same_list z.0.items name (sym (at_is name z.0.items) ∙ t) in
            let other : at q z.0 ≡ false = at_is q z.0.items ∙ ap (λ (r : List ℕ). bytes_eq r q) key ∙ e in
            sym (ap (λ b. cond b (Some z.1) (lookup (at q) zs)) other)
        | false ↦ λ t. ap (λ (o : Option V). cond (at q z.0) (Some z.1) o) (place_cut zs name q e)
      ] refl

-- ---- lists of raw values

abbrev pub RawList : Type 0
RawList = Vec (Bor (List ℕ)) Global

abbrev pub texts : List (Bor (List ℕ)) → List (List ℕ)
texts raws = map (λ (r : Bor (List ℕ)). r.now) raws

abbrev pub shown : Option RawList → List (List ℕ)
shown o = option_map_or (λ (v : RawList). texts v.items) o []

-- the list at a name is taken out, grown by one raw value, and put back
pub raw_added : (es ms ns : List (Vec ℕ Global × RawList)) (name : Vec ℕ Global) (found : Option RawList) (raws grown : RawList) (raw : Bor (List ℕ))
    → ms ≡ remove_entry (at name.items) es → found ≡ lookup (at name.items) es → texts raws.items ≡ shown found → grown.items ≡ raws.items ++ raw ∷ []
    → ns ≡ insert_entry by_items ms name grown → (q : List ℕ)
    → shown (lookup (at q) ns) ≡ (if bytes_eq name.items q then shown (lookup (at q) es) ++ raw.now ∷ [] else shown (lookup (at q) es))
raw_added es ms ns name found raws grown raw cut is held grows put q =
    ap (λ (l : List (Vec ℕ Global × RawList)). shown (lookup (at q) l)) put ∙ ap shown (place_put ms name grown q) ∙ by (bytes_eq name.items q) refl
  where
    by : (b : Bool) → bytes_eq name.items q ≡ b
        → shown (if b then Some grown else lookup (at q) ms) ≡ (if b then shown (lookup (at q) es) ++ raw.now ∷ [] else shown (lookup (at q) es))
    by true e =
        let same : name.items ≡ q = same_list name.items q e in
        ap texts grows ∙ map-append (λ (r : Bor (List ℕ)). r.now) raws.items (raw ∷ [])
        ∙ ap (λ (l : List (List ℕ)). l ++ raw.now ∷ []) (held ∙ ap shown is ∙ ap (λ (u : List ℕ). shown (lookup (at u) es)) same)
    by false e = ap (λ (l : List (Vec ℕ Global × RawList)). shown (lookup (at q) l)) cut ∙ ap shown (place_cut es name.items q e)

-- the raw value of a field is added to those of its name
pub field_added : (name : List ℕ) (fs : List NameAndRaw) (at : ℕ) (f : NameAndRaw) (key : List ℕ) (before after : List (List ℕ)) → slice_get fs at ≡ Some f
    → key ≡ map to_ascii_lowercase f.0
    → after ≡ (if bytes_eq key (map to_ascii_lowercase name) then before ++ f.1 ∷ [] else before) → after ≡ before ++ option_to_list (raw_at name fs at)
field_added name fs at f key before after there lower is =
    is ∙ ap (λ (k : List ℕ). if bytes_eq k (map to_ascii_lowercase name) then before ++ f.1 ∷ [] else before) lower ∙ by (bytes_eq (map to_ascii_lowercase f.0) (map to_ascii_lowercase name)) refl
  where
    by : (b : Bool) → bytes_eq (map to_ascii_lowercase f.0) (map to_ascii_lowercase name) ≡ b
        → (if b then before ++ f.1 ∷ [] else before) ≡ before ++ option_to_list (raw_at name fs at)
    by true e = raw_of_named name fs at f before there e
    by false e = no_raw_of_other name fs at f before there e

-- the last field of a name has the last of the raw values that are found at it
pub last_found : (index : RawLists) (fs : List NameAndRaw) (name : List ℕ) (raws : List (List ℕ)) → IsIndexOf index fs → raws ≡ raws_at index (map to_ascii_lowercase name)
    → last_named name fs ≡ last_raw raws
last_found index fs name raws is found = last_is name fs ∙ ap last_raw (sym (found ∙ is name))
