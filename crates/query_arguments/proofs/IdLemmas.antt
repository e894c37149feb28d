-- Ids are read back as their numbers.
use Rattle.std.proofs.Common.{◌≡◌, ◌≢◌, ◌<◌, ◌^◌, ◌==◌, ◌&&◌, nat_lt, ℕ, List, [], ◌∷◌, Bool, true, false, cond, Some, None, decimal}
use Rattle.std.proofs.Common.{refl, sym, ap, ◌∙◌, eqb-true, eq-eqb}
use Rattle.std.specs.Str.{bytes_eq}
use Rattle.std.specs.Str.Parse.{digits_value}
use Rattle.std.proofs.lemmas.Bool.{and_parts, cond-true, lt-ltb, ltb-true}
use Rattle.std.proofs.lemmas.Fmt.{decimal_is_IsNumeral}
use Rattle.std.proofs.lemmas.Slice.Eq.{bytes_eq-Decides}
use Rattle.jmap_arguments.specs.Ids.{id_text}
use Rattle.query_arguments.specs.Values.{number_written, number_of_id}

-- a number is read back
read_number : (n : ℕ) → n < 2 ^ 64 → number_written (decimal n) ≡ Some n
read_number n small =
    let same : bytes_eq (decimal n) (decimal n) ≡ true = (bytes_eq-Decides (decimal n) (decimal n)).1 refl in
    ap (λ (m : ℕ). cond (bytes_eq (decimal m) (decimal n) && nat_lt m (2 ^ 64)) (Some m) None) (decimal_is_IsNumeral n small).1
    ∙ ap (λ (b : Bool). cond (b && nat_lt n (2 ^ 64)) (Some n) None) same
    ∙ ap (λ (b : Bool). cond b (Some n) None) (lt-ltb n (2 ^ 64) small)

-- and so is an id
pub read_back : (letter n : ℕ) (text : List ℕ) → n < 2 ^ 64 → text ≡ id_text letter n → Some n ≡ number_of_id letter text
read_back letter n text small is =
    sym (ap (number_of_id letter) is ∙ cond-true (letter == letter) (number_written (decimal n)) None (eq-eqb letter letter refl) ∙ read_number n small)

written_is : (digits : List ℕ) → (bytes_eq (decimal (digits_value 10 digits)) digits && nat_lt (digits_value 10 digits) (2 ^ 64)) ≡ true
    → (digits_value 10 digits < 2 ^ 64) × (digits ≡ decimal (digits_value 10 digits))
written_is digits is =
    let n = digits_value 10 digits in
    let parts = and_parts (bytes_eq (decimal n) digits) (nat_lt n (2 ^ 64)) is in
    (ltb-true n (2 ^ 64) parts.1, sym ((bytes_eq-Decides (decimal n) digits).0 parts.0))

-- a text that is no id has no number
pub none_read : (letter : ℕ) (text : List ℕ) → ((n : ℕ) → n < 2 ^ 64 → text ≢ id_text letter n) → None ≡ number_of_id letter text
none_read letter [] never = refl
none_read letter (c ∷ digits) never =
    let n = digits_value 10 digits in
    elim (c == letter) as (λ b. (c == letter) ≡ b → None ≡ cond b (number_written digits) None) [
      | false ↦ λ other. refl
      | true ↦ λ same.
          elim (bytes_eq (decimal n) digits && nat_lt n (2 ^ 64)) as (λ b. (bytes_eq (decimal n) digits && nat_lt n (2 ^ 64)) ≡ b → None ≡ cond b (Some n) None) [
            | false ↦ λ not_written. refl
            | true ↦ λ written.
                let w = written_is digits written in
                absurd (never n w.0 (ap (λ (l : ℕ). l ∷ digits) (eqb-true c letter same) ∙ ap (λ (ds : List ℕ). letter ∷ ds) w.1))
          ] refl
    ] refl
