-- Flags and attributes that are names stay so in kept form.
use Rattle.std.proofs.Common.{◌≡◌, inl, inr, ℕ, Bool, true, false, not, List, [], ◌∷◌, ◌++◌, length, map, bytes_eq, codes, refl, ap, arith}
use Rattle.std.specs.List.{AllByRecursion, list_any}
use Rattle.imap_types.specs.Items.{AllNames, IsAtom, IsName, kept}
use Rattle.imap_types.specs.Octets.{is_atom, lower}
use Rattle.imap_types.specs.Texts.{Each}
use Rattle.honest_store.specs.MessageCommands.{flags_after}
use Rattle.small_answers.proofs.Elements.{each_append}
use Rattle.small_answers.proofs.KeptNames.{each_filtered, each_kept_from}

-- ---- each is a name

pub each_name : (ns : List (List ℕ)) → AllNames ns → AllByRecursion IsName ns
each_name [] all = tt
each_name (n ∷ ns) all = (all.0, each_name ns all.1)

pub all_names : (ns : List (List ℕ)) → AllByRecursion IsName ns → AllNames ns
all_names [] all = tt
all_names (n ∷ ns) all = (all.0, all_names ns all.1)

-- ---- in lower case

atom_lowered : (c : ℕ) → is_atom c ≡ true → is_atom (lower c) ≡ true
atom_lowered c h = grind (arith, h)

each_lowered : (t : List ℕ) → Each is_atom t → Each is_atom (map lower t)
each_lowered [] h = tt
each_lowered (c ∷ t) h = (atom_lowered c h.0, each_lowered t h.1)

lowered_length : (t : List ℕ) → length (map lower t) ≡ length t
lowered_length [] = refl
lowered_length (c ∷ t) = omega (arith, lowered_length t)

lowered_atom : (t : List ℕ) → IsAtom t → IsAtom (map lower t)
lowered_atom t atom = (each_lowered t atom.0, omega (arith, lowered_length t, atom.1))

lowered_name : (t : List ℕ) → IsName t → IsName (map lower t)
lowered_name t (inl atom) = inl (lowered_atom t atom)
lowered_name t (inr flag) = inr (map lower flag.0, ap (map lower) flag.1, lowered_atom flag.0 flag.2)

any_lowered : (ns : List (List ℕ)) → AllByRecursion IsName ns → AllByRecursion (λ n. bytes_eq (map lower n) (codes "\\recent") ≡ false → IsName (map lower n)) ns
any_lowered [] all = tt
any_lowered (n ∷ ns) all = ((λ e. lowered_name n all.0), any_lowered ns all.1)

kept_names : (ns : List (List ℕ)) → AllByRecursion IsName ns → AllByRecursion IsName (kept ns)
kept_names ns all = each_kept_from IsName [] ns tt (any_lowered ns all)

pub kept_are_names : (ns : List (List ℕ)) → AllNames ns → AllNames (kept ns)
kept_are_names ns all = all_names (kept ns) (kept_names ns (each_name ns all))

-- ---- after a STORE

pub flags_after_names : (add : Bool) (asked was : List (List ℕ)) → AllNames asked → AllNames was → AllNames (flags_after add asked was)
flags_after_names true asked was new old = all_names (kept (was ++ asked)) (kept_names (was ++ asked) (each_append IsName was asked (each_name was old) (each_name asked new)))
flags_after_names false asked was new old =
    all_names (flags_after false asked was) (each_filtered IsName (λ f. not (list_any (λ g. bytes_eq f g) (kept asked))) was (each_name was old))
