-- Lengths of texts, and counts that go down by one.
use Rattle.std.proofs.Common.{◌≡◌, ℕ, suc, ◌-◌, ◌≤◌, List, [], ◌∷◌, length, arith}
use Rattle.std.proofs.lemmas.List.{length-append, length-map}
use Rattle.imap_types.specs.Texts.{plain_of, plain_octets}
use Rattle.imap_types.specs.Lines.{spaced}

-- one less than one more
pub less_one : (n : ℕ) → n ≡ suc n - 1
less_one n = omega arith

-- plain octets are as many
pub plain_length : (t : List ℕ) → length (plain_octets t) ≡ length t
plain_length t = length-map t plain_of

-- words stand in a text that is no shorter than their list
pub spaced_long : (ws : List (List ℕ)) → length ws ≤ length (spaced ws)
spaced_long [] = omega arith
spaced_long (w ∷ ws) = let ih = spaced_long ws in let l = length-append w (spaced ws) in omega (arith, ih, l)
