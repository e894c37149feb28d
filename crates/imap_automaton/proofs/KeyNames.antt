-- Keys begin as names of items do.
use Rattle.std.proofs.Common.{◌≡◌, ℕ, Bool, true, ◌&&◌, List, [], ◌∷◌, ◌++◌, refl, ap, ◌∙◌, arith}
use Rattle.std.proofs.lemmas.Bool.{and_parts}
use Rattle.imap_keywords.specs.declared.key.Key.{Key}
use Rattle.imap_keywords.specs.declared.key.Key.TheVariants as key
use Rattle.imap_automaton.specs.declared.sym.ItemName.{ItemName}
use Rattle.imap_automaton.specs.declared.sym.ItemName.TheVariants as name
use Rattle.imap_keywords.specs.Keys.{key_text}
use Rattle.imap_automaton.specs.ItemNameRules.{takes, next_name, name_from}
use Rattle.imap_types.specs.Octets.{lower}

abbrev all_taken : ItemName → List ℕ → Bool
all_taken s [] = true
all_taken s (c ∷ t) = takes s c && all_taken (next_name s c) t

keys_taken : (k : Key) → all_taken name.Plain (key_text k) ≡ true
keys_taken key.Ok = refl
keys_taken _ = refl

taken_at : (s : ItemName) (x : List ℕ) (c : ℕ) (y : List ℕ) → all_taken s (x ++ c ∷ y) ≡ true → takes (name_from s x) c ≡ true
taken_at s [] c y e = (and_parts (takes s c) (all_taken (next_name s c) y) e).0
taken_at s (d ∷ x) c y e = taken_at (next_name s d) x c y (and_parts (takes s d) (all_taken (next_name s d) (x ++ c ∷ y)) e).1

lower_takes : (s : ItemName) (c : ℕ) → takes s (lower c) ≡ true → takes s c ≡ true
lower_takes name.Plain c e = grind arith
lower_takes name.Section c e = grind arith
lower_takes name.After c e = grind arith
lower_takes name.Part c e = grind arith
lower_takes name.Digits c e = grind arith
lower_takes name.End c e = absurd cc

-- an octet, in either case, with which a key goes on, goes on with an item's name that began as the key does
pub key_takes : (begun : List ℕ) (c : ℕ) (k : Key) (y : List ℕ) → begun ++ lower c ∷ y ≡ key_text k → takes (name_from name.Plain begun) c ≡ true
key_takes begun c k y e = lower_takes (name_from name.Plain begun) c (taken_at name.Plain begun (lower c) y (ap (all_taken name.Plain) e ∙ keys_taken k))
