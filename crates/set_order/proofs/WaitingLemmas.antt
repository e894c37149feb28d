-- The map of those that are left, as what it stands for.
use Rattle.std.proofs.Common.{◌≡◌, ℕ, List, [], ◌∷◌, map, Bor, Bool, true, false, not, ◌||◌, cond, Option, Some, is_some, String, Global, BTreeMap, nat_cmp, option_map, refl, sym, ap, ◌∙◌}
use Rattle.std.specs.BTreeMap.{is_at}
use Rattle.std.specs.Cmp.Lexicographic.{slice_cmp}
use Rattle.std.specs.List.{find, list_any}
use Rattle.std.specs.Map.{lookup, remove_entry}
use Rattle.std.specs.Str.{bytes_eq}
use Rattle.std.proofs.lemmas.Bool.{and_parts}
use Rattle.std.proofs.lemmas.Map.Text.{is_eq-slice_cmp}
use Rattle.std.proofs.lemmas.Slice.Eq.{bytes_eq-Decides}
use Rattle.serde_json.specs.View.{members_view}
use Rattle.serde_json.specs.declared.value.Value.{Value}
use Rattle.set_arguments.specs.Arguments.{Keyed}
use Rattle.set_order.specs.Ordered.{Creation, is_key, without_key}
use Rattle.set_arguments.specs.reading.Keys.{ascends, is_below_all}
use Rattle.set_order.specs.reading.Waiting.{entry_data}
use Rattle.set_order.proofs.PendingLemmas.{has_key, not_later, turned}

abbrev pub Entry : Type 0
Entry = Bor (List ℕ) × Bor (BTreeMap (String Global) Value)

abbrev pub at_key : List ℕ → Bor (List ℕ) → Bool
at_key key = is_at (λ (k : Bor (List ℕ)). slice_cmp nat_cmp key k.now)

-- where the map looks for the key
here : (key : List ℕ) (e : Entry) → at_key key e.0 ≡ bytes_eq e.0.now key
here key e = is_eq-slice_cmp key e.0.now ∙ turned key e.0.now

-- where none has the key all are left
all_left : (key : List ℕ) (cs : Keyed) → list_any (has_key key) cs ≡ false → without_key key cs ≡ cs
all_left key [] none = refl
all_left key (c ∷ cs) none = elim (bytes_eq c.0 key) as (λ b. (b || list_any (has_key key) cs) ≡ false → cond (not b) (c ∷ without_key key cs) (without_key key cs) ≡ c ∷ cs) [
  | true ↦ λ is. absurd (let both : true ≡ false = is in cc)
  | false ↦ λ is. ap (λ (l : Keyed). c ∷ l) (all_left key cs is)
] none

-- those that are left once one was taken out
pub removed_is : (key : List ℕ) (es : List Entry) → ascends (map entry_data es) ≡ true → map entry_data (remove_entry (at_key key) es) ≡ without_key key (map entry_data es)
removed_is key [] ascend = refl
removed_is key (e ∷ es) ascend =
    let parts = and_parts (is_below_all e.0.now (map entry_data es)) (ascends (map entry_data es)) ascend in
    ap (λ (b : Bool). map entry_data (cond b es (e ∷ remove_entry (at_key key) es))) (here key e)
    ∙ elim (bytes_eq e.0.now key) as (λ b. bytes_eq e.0.now key ≡ b → map entry_data (cond b es (e ∷ remove_entry (at_key key) es))
    ≡ cond (not b) (entry_data e ∷ without_key key (map entry_data es)) (without_key key (map entry_data es))) [
      | true ↦ λ is.
          let alone : list_any (has_key key) (map entry_data es) ≡ false =
          ap (λ (t : List ℕ). list_any (has_key t) (map entry_data es)) (sym ((bytes_eq-Decides e.0.now key).0 is)) ∙ not_later e.0.now (map entry_data es) parts.0 in
          sym (all_left key (map entry_data es) alone)
      | false ↦ λ other. ap (λ (l : Keyed). entry_data e ∷ l) (removed_is key es parts.1)
    ] refl

-- the one that is found by its key
pub found_is : (key : List ℕ) (es : List Entry)
    → find (has_key key) (map entry_data es) ≡ option_map (λ (o : Bor (BTreeMap (String Global) Value)). (key, members_view o.now.entries)) (lookup (at_key key) es)
found_is key [] = refl
found_is key (e ∷ es) =
    let object : Option (Bor (BTreeMap (String Global) Value)) → Option Creation = λ o. option_map (λ (o : Bor (BTreeMap (String Global) Value)). (key, members_view o.now.entries)) o in
    elim (bytes_eq e.0.now key) as (λ b. bytes_eq e.0.now key ≡ b → cond b (Some (entry_data e)) (find (has_key key) (map entry_data es))
    ≡ object (cond b (Some e.1) (lookup (at_key key) es))) [
      | true ↦ λ is. ap (λ (t : List ℕ). let one : Option Creation = Some (t, members_view e.1.now.entries) in one) ((bytes_eq-Decides e.0.now key).0 is)
      | false ↦ λ other. found_is key es
    ] refl ∙ ap (λ (b : Bool). object (cond b (Some e.1) (lookup (at_key key) es))) (sym (here key e))

-- whether one has the key
pub any_is : (key : List ℕ) (es : List Entry) → is_some (lookup (at_key key) es) ≡ list_any (is_key (Some key)) (map entry_data es)
any_is key [] = refl
any_is key (e ∷ es) =
    ap (λ (b : Bool). is_some (cond b (Some e.1) (lookup (at_key key) es))) (here key e)
    ∙ elim (bytes_eq e.0.now key) as (λ b. is_some (cond b (Some e.1) (lookup (at_key key) es)) ≡ (b || list_any (is_key (Some key)) (map entry_data es))) [
      | true ↦ refl
      | false ↦ any_is key es
    ]
