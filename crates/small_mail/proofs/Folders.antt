-- A folder by its place, by its number and by its name.
use Rattle.std.proofs.Common.{◌≡◌, ◌≢◌, ℕ, false, not, List, map, filter, set, Some, None, find, refl, sym, ap, ◌∙◌, subst, eq-eqb, ne_eqb, ◌==◌, bytes_eq, if◌then◌else◌, AllPairs}
use Rattle.std.specs.Prelude.{Bool}
use Rattle.std.specs.List.{remove, slice_get}
use Rattle.std.proofs.lemmas.Bool.{false_from_ne_true}
use Rattle.std.proofs.lemmas.Option.{get_or_from_slice_get, slice_get_within}
use Rattle.std.proofs.lemmas.Slice.Eq.{bytes_eq-Decides}
use Rattle.honest_store.specs.StoreMail.{StoreFolder}
use Rattle.honest_store.specs.Attributes.{subscribed}
use Rattle.honest_store.specs.FolderChanges.{with_subscription}
use Rattle.small_mail.proofs.Only.{OnlyPasses, map_none, map_only, filter_only, only_apart}
use Rattle.small_mail.proofs.Found.{found_passes, not_found}

other_text : (a b : List ℕ) → a ≢ b → bytes_eq a b ≡ false
other_text a b other = false_from_ne_true (bytes_eq a b) (λ same. other ((bytes_eq-Decides a b).0 same))

abbrev SameNumber : StoreFolder → StoreFolder → Bool
SameNumber f g = f.number == g.number

abbrev SameName : StoreFolder → StoreFolder → Bool
SameName f g = bytes_eq f.name g.name

module _ (fs : List StoreFolder) (p : ℕ) (f : StoreFolder) (there : slice_get fs p ≡ Some f) where
  pub only_number : AllPairs (λ (f g : StoreFolder). f.number ≢ g.number) fs → OnlyPasses (λ (x : StoreFolder). x.number == f.number) fs p
  only_number apart = subst (λ (y : StoreFolder). OnlyPasses (λ (x : StoreFolder). x.number == y.number) fs p) (get_or_from_slice_get fs p f f there)
      (only_apart SameNumber (λ x y. x.number ≢ y.number) (λ x. eq-eqb x.number x.number refl) (λ x y other. ne_eqb x.number y.number other)
      (λ x y other. ne_eqb y.number x.number (λ e. other (sym e))) fs p f apart (slice_get_within fs p f there))

  only_name : AllPairs (λ (f g : StoreFolder). f.name ≢ g.name) fs → OnlyPasses (λ (x : StoreFolder). bytes_eq x.name f.name) fs p
  only_name apart = subst (λ (y : StoreFolder). OnlyPasses (λ (x : StoreFolder). bytes_eq x.name y.name) fs p) (get_or_from_slice_get fs p f f there)
      (only_apart SameName (λ x y. x.name ≢ y.name) (λ x. (bytes_eq-Decides x.name x.name).1 refl) (λ x y other. other_text x.name y.name other)
      (λ x y other. other_text y.name x.name (λ e. other (sym e))) fs p f apart (slice_get_within fs p f there))

  -- g for the folder of its number
  pub put_is : (g : StoreFolder) → AllPairs (λ (f g : StoreFolder). f.number ≢ g.number) fs → g.number ≡ f.number
      → set fs p g ≡ map (λ (x : StoreFolder). if x.number == g.number then g else x) fs
  put_is g apart same =
      sym (map_only (λ (x : StoreFolder). x.number == g.number) (λ x. g) fs p f
      (subst (λ (n : ℕ). OnlyPasses (λ (x : StoreFolder). x.number == n) fs p) (sym same) (only_number apart)))

  pub deleted_is : AllPairs (λ (f g : StoreFolder). f.name ≢ g.name) fs → remove fs p ≡ filter (λ (x : StoreFolder). not (bytes_eq x.name f.name)) fs
  deleted_is apart = sym (filter_only (λ (x : StoreFolder). bytes_eq x.name f.name) fs p (only_name apart))

  -- the folder that a search by this name finds
  pub subscribed_is : (name : List ℕ) (on : Bool) → AllPairs (λ (f g : StoreFolder). f.name ≢ g.name) fs → find (λ (x : StoreFolder). bytes_eq x.name name) fs ≡ Some f
      → set fs p (record f { attributes = subscribed on f.attributes }) ≡ map (with_subscription name on) fs
  subscribed_is name on apart found =
      let named : f.name ≡ name = (bytes_eq-Decides f.name name).0 (found_passes (λ (x : StoreFolder). bytes_eq x.name name) fs f found) in
      sym (map_only (λ (x : StoreFolder). bytes_eq x.name name) (λ x. record x { attributes = subscribed on x.attributes }) fs p f
      (subst (λ (n : List ℕ). OnlyPasses (λ (x : StoreFolder). bytes_eq x.name n) fs p) named (only_name apart))
      ∙ ap (λ (y : StoreFolder). set fs p (record y { attributes = subscribed on y.attributes })) (get_or_from_slice_get fs p f f there))

pub subscribed_none : (fs : List StoreFolder) (name : List ℕ) (on : Bool) → find (λ (x : StoreFolder). bytes_eq x.name name) fs ≡ None → map (with_subscription name on) fs ≡ fs
subscribed_none fs name on none =
    map_none (λ (x : StoreFolder). bytes_eq x.name name) (λ x. record x { attributes = subscribed on x.attributes }) fs
    (not_found (λ (x : StoreFolder). bytes_eq x.name name) fs none)
