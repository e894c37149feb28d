-- Lists of values of other lengths aren't the same.
use Rattle.std.proofs.Common.{◌≡◌, ◌≢◌, suc, Bool, true, false, ◌&&◌, List, [], ◌∷◌, length, String, Global, refl, ap}
use Rattle.serde_json.specs.View.{view, items_view, members_view}
use Rattle.serde_json.specs.declared.value.Value.{Value}
use Rattle.set_patches.specs.Values.{same_data, same_items, same_members}

-- a second test that fails
fails_then : (first second : Bool) → false ≡ second → false ≡ (first && second)
fails_then true second fails = fails
fails_then false second fails = refl

pub other_items : (a b : List Value) → length a ≢ length b → false ≡ same_items (items_view a) (items_view b)
other_items [] [] other = absurd (other refl)
other_items [] (y ∷ ys) other = refl
other_items (x ∷ xs) [] other = refl
other_items (x ∷ xs) (y ∷ ys) other = fails_then (same_data (view x) (view y)) _ (other_items xs ys (λ same. other (ap suc same)))

pub other_members : (a b : List (String Global × Value)) → length a ≢ length b → false ≡ same_members (members_view a) (members_view b)
other_members [] [] other = absurd (other refl)
other_members [] (y ∷ ys) other = refl
other_members (x ∷ xs) [] other = refl
other_members (x ∷ xs) (y ∷ ys) other =
    fails_then _ _ (fails_then (same_data (view x.1) (view y.1)) _ (other_members xs ys (λ same. other (ap suc same))))
