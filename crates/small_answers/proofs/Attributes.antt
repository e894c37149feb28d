-- Attributes of a folder that is subscribed, or no longer, and flags after a STORE.
use Rattle.std.proofs.Common.{◌≡◌, ℕ, Bool, true, false, not, ◌||◌, List, [], ◌∷◌, ◌++◌, map, filter, refl, sym, subst, bytes_eq, codes}
use Rattle.std.specs.List.{AllByRecursion, list_any}
use Rattle.std.proofs.lemmas.Bool.{or_parts, or_from}
use Rattle.imap_types.specs.Items.{kept}
use Rattle.imap_types.specs.Octets.{lower}
use Rattle.imap_types.proofs.KeptLemmas.{kept_again}
use Rattle.honest_store.specs.Attributes.{is_unselectable, subscribed}
use Rattle.honest_store.specs.MessageCommands.{flags_after}
use Rattle.small_answers.proofs.Elements.{each_both}
use Rattle.small_answers.proofs.KeptNames.{IsPlain, each_filtered, each_kept_from, kept_filtered, kept_plain}

-- ---- flags

pub flags_after_kept : (add : Bool) (asked was : List (List ℕ)) → kept was ≡ was → kept (flags_after add asked was) ≡ flags_after add asked was
flags_after_kept true asked was is = kept_again (was ++ asked)
flags_after_kept false asked was is = kept_filtered (λ f. not (list_any (λ g. bytes_eq f g) (kept asked))) was is

-- ---- attributes

pub subscribed_kept : (on : Bool) (attributes : List (List ℕ)) → kept attributes ≡ attributes → kept (subscribed on attributes) ≡ subscribed on attributes
subscribed_kept true attributes is = kept_again (codes "\\subscribed" ∷ attributes)
subscribed_kept false attributes is = kept_filtered (λ a. not (bytes_eq a (codes "\\subscribed"))) attributes is

none_passes : (test : List ℕ → Bool) (ns : List (List ℕ)) → list_any test ns ≡ false → AllByRecursion (λ n. test n ≡ false) ns
none_passes test [] e = tt
none_passes test (n ∷ ns) e = let parts = or_parts (test n) (list_any test ns) e in (parts.0, none_passes test ns parts.1)

none_of_each : (test : List ℕ → Bool) (ns : List (List ℕ)) → AllByRecursion (λ n. test n ≡ false) ns → list_any test ns ≡ false
none_of_each test [] all = refl
none_of_each test (n ∷ ns) all = or_from (test n) (list_any test ns) all.0 (none_of_each test ns all.1)

-- an attribute that makes a name unselectable
abbrev bars : List ℕ → Bool
bars a = bytes_eq a (codes "\\noselect") || bytes_eq a (codes "\\nonexistent")

pub subscribed_selectable : (on : Bool) (attributes : List (List ℕ)) → kept attributes ≡ attributes → is_unselectable attributes ≡ false
    → is_unselectable (subscribed on attributes) ≡ false
subscribed_selectable true attributes is free =
    none_of_each bars (kept (codes "\\subscribed" ∷ attributes))
    (each_kept_from (λ n. bars n ≡ false) [] (codes "\\subscribed" ∷ attributes) tt (
      (λ e. refl),
      each_both IsPlain (λ n. bars n ≡ false) (λ n. bytes_eq (map lower n) (codes "\\recent") ≡ false → bars (map lower n) ≡ false)
          (λ n plain fails e. subst (λ m. bars m ≡ false) (sym plain.0) fails) attributes (subst (AllByRecursion IsPlain) is (kept_plain attributes))
          (none_passes bars attributes free),
    ))
subscribed_selectable false attributes is free =
    none_of_each bars (filter (λ a. not (bytes_eq a (codes "\\subscribed"))) attributes)
    (each_filtered (λ n. bars n ≡ false) (λ a. not (bytes_eq a (codes "\\subscribed"))) attributes (none_passes bars attributes free))
