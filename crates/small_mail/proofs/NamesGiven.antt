-- A loop that gives each folder the name at its place.
use Rattle.std.proofs.Common.{◌≡◌, ℕ, ◌+◌, ◌<◌, List, [], ◌∷◌, ◌++◌, length, map, take, drop, set, get_or, sym, ap, ◌∙◌, arith}
use Rattle.std.proofs.lemmas.List.{drop-drop, drop_more, get_or-map, get_or_at, length-map, length-take}
use Rattle.std.proofs.lemmas.List.Edits.{map_over_more}
use Rattle.honest_store.specs.StoreMail.{StoreFolder}

module _ (name_of : StoreFolder → List ℕ) (fs folders : List StoreFolder) (names : List (List ℕ)) (i : ℕ) (within : i < length fs) where
  named : StoreFolder → StoreFolder
  named f = record f { name = name_of f }

  -- a name is left
  pub name_left : (d : StoreFolder) → names ≡ drop i (map name_of fs) → names ≡ name_of (get_or fs i d) ∷ drop (i + 1) (map name_of fs)
  name_left d left =
      let long : i < length (map name_of fs) = omega (arith, within, length-map fs name_of) in
      left ∙ (drop_more (map name_of fs) i [] long
      ∙ ap (λ (n : List ℕ). n ∷ drop (i + 1) (map name_of fs)) (get_or-map name_of fs i d [] within))

  pub name_given : (x z : StoreFolder) (name : List ℕ) → folders ≡ map (λ (f : StoreFolder). record f { name = name_of f }) (take i fs) ++ drop i fs
      → names ≡ drop i (map name_of fs) → x ≡ get_or folders i x → name ≡ get_or names 0 name → z ≡ record x { name = name }
      → set folders i z ≡ map (λ (f : StoreFolder). record f { name = name_of f }) (take (i + 1) fs) ++ drop (i + 1) fs
  name_given x z name so_far left x_is name_is z_is =
      let front = map (λ (f : StoreFolder). record f { name = name_of f }) (take i fs) in
      let long : length front ≡ i = length-map (take i fs) (λ (f : StoreFolder). record f { name = name_of f }) ∙ omega (arith, within, length-take i fs) in
      let parts : folders ≡ front ++ get_or fs i x ∷ drop (i + 1) fs = so_far ∙ ap (λ (gs : List StoreFolder). front ++ gs) (drop_more fs i x within) in
      let read : x ≡ get_or fs i x = x_is ∙ (ap (λ (gs : List StoreFolder). get_or gs i x) parts ∙ get_or_at front (get_or fs i x) (drop (i + 1) fs) x i long) in
      let due : name ≡ name_of x = name_is ∙ (ap (λ (ns : List (List ℕ)). get_or ns 0 name) (name_left x left) ∙ ap name_of (sym read)) in
      ap (λ (g : StoreFolder). set folders i g) (z_is ∙ ap (λ (n : List ℕ). record x { name = n }) due)
      ∙ map_over_more (λ (f : StoreFolder). record f { name = name_of f }) fs folders i x within so_far x_is

  pub names_left : (rest : List (List ℕ)) → names ≡ drop i (map name_of fs) → rest ≡ drop 1 names → rest ≡ drop (i + 1) (map name_of fs)
  names_left rest left rest_is = rest_is ∙ (ap (λ (ns : List (List ℕ)). drop 1 ns) left ∙ drop-drop 1 i (map name_of fs))
