-- Items of a list that are read one after another.
use Rattle.std.proofs.Common.{◌≡◌, ℕ, ◌+◌, ◌<◌, suc, List, [], ◌∷◌, ◌++◌, Option, Some, None, option_map, drop, length, get_or, refl, sym, ap, ◌∙◌, drop-cons, add-one}
use Rattle.std.specs.Prelude.{option_and_then}
use Rattle.std.proofs.lemmas.List.{append_assoc}
use Rattle.serde_json.specs.Data.{Data, Items, item}
use Rattle.serde_json.specs.View.{view, items_view}
use Rattle.serde_json.specs.declared.value.Value.{Value}
use Rattle.draft_reading.specs.Values.{each_in}

-- the item at a place, and those behind it
pub item_at : (items : List Value) (at : ℕ) (v : Value) → at < length items → v ≡ get_or items at v
    → items_view (drop at items) ≡ item (view v) (items_view (drop (at + 1) items))
item_at items at v here is =
    ap items_view (drop-cons items at v here ∙ ap (λ (x : Value). x ∷ drop (suc at) items) (sym is) ∙ ap (λ (n : ℕ). v ∷ drop n items) (sym (add-one at)))

module _ {X : Type 0} where
  -- what is read so far, and what the items that are left say, is what all say
  abbrev pub IsSoFar : (Data → Option X) → Items → List X → Items → Type 0
  IsSoFar read all done left = each_in read all ≡ option_map (λ xs. done ++ xs) (each_in read left)

  -- one more
  pub so_far_more : (read : Data → Option X) (all : Items) (done : List X) (d : Data) (left : Items) (x : X) → IsSoFar read all done (item d left) → read d ≡ Some x
      → IsSoFar read all (done ++ x ∷ []) left
  so_far_more read all done d left x so is =
      so ∙ ap (λ (o : Option X). option_map (λ (xs : List X). done ++ xs) (option_and_then (λ (y : X). option_map (λ (ys : List X). y ∷ ys) (each_in read left)) o)) is
      ∙ by (each_in read left)
    where
      by : (o : Option (List X)) → option_map (λ (xs : List X). done ++ xs) (option_map (λ (ys : List X). x ∷ ys) o) ≡ option_map (λ (xs : List X). (done ++ x ∷ []) ++ xs) o
      by None = refl
      by (Some ys) = ap Some (sym (append_assoc done (x ∷ []) ys))

  -- one that says nothing
  pub so_far_none : (read : Data → Option X) (all : Items) (done : List X) (d : Data) (left : Items) → IsSoFar read all done (item d left) → read d ≡ None → each_in read all ≡ None
  so_far_none read all done d left so is =
      so ∙ ap (λ (o : Option X). option_map (λ (xs : List X). done ++ xs) (option_and_then (λ (y : X). option_map (λ (ys : List X). y ∷ ys) (each_in read left)) o)) is
