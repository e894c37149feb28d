-- The rests of numbers after no digit are the numbers.
use Rattle.std.proofs.Common.{◌≡◌, ℕ, ◌+◌, ◌-◌, ◌*◌, ◌≤◌, List, [], ◌∷◌, refl, arith}
use Rattle.imap_automaton.specs.Rests.{NumberRest, LongRest}
use Rattle.imap_types.specs.Numbers.{value_from, IsNonZero, IsLong}

-- further digits make a number no less
pub value_mono : (v : ℕ) (t : List ℕ) → v ≤ value_from v t
value_mono v [] = omega arith
value_mono v (c ∷ t) = let ih = value_mono (10 * v + (c - 48)) t in omega (arith, ih)

-- a number that isn't 0 is the rest after no digit
pub number_from : (n : ℕ) (t : List ℕ) → IsNonZero n t → NumberRest 0 0 t
number_from n t h = record {
  each = h.0.digits;
  some = omega (arith, h.0.some);
  few = omega (arith, h.0.few);
  most = omega (arith, h.0.value, h.0.most);
  not_zero = omega (arith, h.0.value, h.1);
}

-- and the rest after no digit is such a number
pub number_to : (t : List ℕ) → NumberRest 0 0 t → IsNonZero (value_from 0 t) t
number_to t h = (record { digits = h.each; some = omega (arith, h.some); few = omega (arith, h.few); value = refl; most = h.most }, h.not_zero)

-- a long number is the rest after no digit
pub long_from : (n : ℕ) (t : List ℕ) → IsLong n t → LongRest 0 0 t
long_from n t h = record { each = h.digits; some = omega (arith, h.some); few = omega (arith, h.few); most = omega (arith, h.value, h.most) }

-- and the rest after no digit is such a number
pub long_to : (t : List ℕ) → LongRest 0 0 t → IsLong (value_from 0 t) t
long_to t h = record { digits = h.each; some = omega (arith, h.some); few = omega (arith, h.few); value = refl; most = h.most }
