-- Hexadecimal digits, one more at the end.
use Rattle.std.proofs.Common.{◌≡◌, ℕ, zero, suc, ◌-◌, ◌/◌, ◌%◌, List, [], ◌∷◌, ◌++◌, Result, Ok, Err, is_ok, if◌then◌else◌, OnOk, refl, sym, ap, ◌∙◌, append_assoc, append-nil}
use Rattle.std.proofs.Common.{arith}
use Rattle.std.specs.declared.alloc.AllocError.{AllocError}
use Rattle.jmap_arguments.specs.State.{hex_digit, hex_text}

-- a number's last digits are those of its sixteenth, one fewer, and then the digit of the remainder
pub hex-last : (width n : ℕ) → (width ≡ 0 → ⊥) → hex_text width n ≡ hex_text (width - 1) (n / 16) ++ hex_digit (n % 16) ∷ []
unfolding hex_text
hex-last zero n some = absurd (some refl)
hex-last (suc width) n some = let is : width ≡ suc width - 1 = omega arith in ap (λ (w : ℕ). hex_text w (n / 16) ++ hex_digit (n % 16) ∷ []) is

-- no digit is an empty text
pub hex-none : (width n : ℕ) (text : List ℕ) → width ≡ 0 → text ≡ text ++ hex_text width n
unfolding hex_text
hex-none zero n text none = sym (append-nil text)
hex-none (suc width) n text none = absurd (omega arith)

-- what a push of the last digit gives
pub pushed-digit : (r : Result (Unit {0}) AllocError) (before old new encoded : List ℕ) (width n digit : ℕ) → new ≡ (if is_ok r then old ++ encoded else old) → encoded ≡ digit ∷ []
    → digit ≡ hex_digit (n % 16) → old ≡ before ++ hex_text (width - 1) (n / 16) → (width ≡ 0 → ⊥) → OnOk r (new ≡ before ++ hex_text width n)
pushed-digit (Err e) before old new encoded width n digit is one last front some = tt
pushed-digit (Ok done) before old new encoded width n digit is one last front some =
    is
    ∙ ap (λ (o : List ℕ). o ++ encoded) front
    ∙ ap (λ (e : List ℕ). (before ++ hex_text (width - 1) (n / 16)) ++ e) (one ∙ ap (λ (d : ℕ). d ∷ []) last)
    ∙ append_assoc before (hex_text (width - 1) (n / 16)) (hex_digit (n % 16) ∷ [])
    ∙ ap (λ (h : List ℕ). before ++ h) (sym (hex-last width n some))
