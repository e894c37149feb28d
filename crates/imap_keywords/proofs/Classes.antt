-- What a class says of an octet.
use Rattle.std.proofs.Common.{◌≡◌, ℕ, ◌≤◌, true, false, arith}
use Rattle.std.specs.Prelude.{◌==◌}
use Rattle.imap_types.specs.Octets.{is_digit, is_alnum, is_text, is_word, is_atom}

-- the octets of digits
pub digit_range : (c : ℕ) → is_digit c ≡ true → (48 ≤ c) × (c ≤ 57)
digit_range c e = grind arith

-- a digit stands in words
pub digit_word : (c : ℕ) → is_digit c ≡ true → is_word c ≡ true
digit_word c e = grind arith

-- no digit opens a literal
pub digit_no_brace : (c : ℕ) → is_digit c ≡ true → (c == 123) ≡ false
digit_no_brace c e = grind arith

-- no letter and no digit is a space
pub alnum_not_space : (c : ℕ) → is_alnum c ≡ true → (c == 32) ≡ false
alnum_not_space c e = grind arith

-- no line ends within text
pub text_not_cr : (c : ℕ) → is_text c ≡ true → (c == 13) ≡ false
text_not_cr c e = grind arith

-- no octet of an atom opens a quoted text or a literal
pub atom_apart : (c : ℕ) → is_atom c ≡ true → ((c == 34) ≡ false) × ((c == 123) ≡ false)
atom_apart c e = (grind arith, grind arith)
