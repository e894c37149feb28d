-- The values of the fields of one name, and what a value says.
use Rattle.std.proofs.Common.{◌≡◌, ◌≢◌, ◌++◌, ◌+◌, ◌-◌, ◌*◌, ◌^◌, ◌<◌, ◌≤◌, ◌==◌, min, get_or, ℕ, zero, suc, Bool, true, false, List, [], ◌∷◌, length, take, drop, refl, sym, ap}
use Rattle.std.proofs.Common.{◌∙◌, subst, arith, Option, codes}
use Rattle.std.specs.Char.{digit_value}
use Rattle.std.specs.Str.Parse.{digits_value}
use Rattle.std.proofs.lemmas.Int.Digits.{digits_value_more}
use Rattle.std.proofs.lemmas.Str.{digit_value_digit}
use Rattle.std.proofs.Math.Seq.{take-append_seam, drop-append_seam}
use Rattle.std.proofs.lemmas.List.{length-map, take-append-drop}
use Rattle.std.specs.Char.{to_ascii_lowercase}
use Rattle.httparse.specs.declared.spans.Span.{Span}
use Rattle.httparse.specs.Spans.{span_bytes}
use Rattle.text_words.specs.Octets.{is_digit}
use Rattle.text_words.specs.Cuts.{Each, front, back}
use Rattle.text_words.proofs.CutLemmas.{front_back, front_each, back_stops, front_is}
use Rattle.http_service.specs.Fields.{is_space, IsScheme, IsBearer, IsTokenOf, IsToken}
use Rattle.http_service.specs.reading.Values.{AreValues}
use Rattle.http_service.specs.declared.fields.Values.TheVariants.{Only}

-- what `is_empty` says
pub empty_is : (l : List ℕ) (b : Bool) → b ≡ (length l == 0) → b ≡ true → l ≡ []
empty_is [] b is so = refl
empty_is (x ∷ l) b is so = absurd (grind arith)

-- where `is_empty` is false, there is something
pub some_is : (l : List ℕ) (b : Bool) → b ≡ (length l == 0) → b ≡ false → l ≢ []
some_is [] b is so nil = absurd (grind arith)
some_is (x ∷ l) b is so nil = absurd cc

-- so long a front of a text
pub front_of_length : (text front back : List ℕ) (n : ℕ) → n ≡ length front → text ≡ front ++ back → (take n text ≡ front) × (drop n text ≡ back)
front_of_length text front back n long whole = (
  (λ i. take (long i) (whole i)) ∙ take-append_seam front back,
  (λ i. drop (long i) (whole i)) ∙ drop-append_seam front back,
)

scheme_length : (word : List ℕ) → IsScheme word → length word ≡ 6
scheme_length word same = sym (length-map word to_ascii_lowercase) ∙ ap length same ∙ length-map (codes "bearer") to_ascii_lowercase

-- where the parts of a Bearer value stand
pub bearer_parts : (value token : List ℕ) → (b : IsBearer value token) → (take 6 value ≡ b.scheme) × (drop 6 value ≡ b.gap ++ token)
bearer_parts value token b = front_of_length value b.scheme (b.gap ++ token) 6 (sym (scheme_length b.scheme b.bearer)) b.whole

-- a value that doesn't begin with the scheme's name has no token
pub not_another_scheme : (value token : List ℕ) → IsBearer value token → (IsScheme (take 6 value) → ⊥) → ⊥
not_another_scheme value token b other = other (subst IsScheme (sym (bearer_parts value token b).0) b.bearer)

-- a value without a space after the scheme's name has no token
pub not_without_gap : (value token : List ℕ) → IsBearer value token → front is_space (drop 6 value) ≡ [] → ⊥
not_without_gap value token b none =
    b.spaces.1 (sym (front_is is_space b.gap token b.spaces.0 b.begins) ∙ ap (front is_space) (sym (bearer_parts value token b).1) ∙ none)

-- after the scheme's name and spaces the rest of a value is its token
pub is_bearer : (value : List ℕ) → IsScheme (take 6 value) → front is_space (drop 6 value) ≢ [] → IsBearer value (back is_space (drop 6 value))
is_bearer value bearer some =
    record {
      scheme = take 6 value;
      gap = front is_space (drop 6 value);
      whole = sym (take-append-drop 6 value) ∙ ap (λ (l : List ℕ). take 6 value ++ l) (front_back is_space (drop 6 value));
      bearer = bearer;
      spaces = (front_each is_space (drop 6 value), some);
      begins = back_stops is_space (drop 6 value);
    }

-- an element of a list of which each passes the test
pub each_at : (p : ℕ → Bool) (l : List ℕ) (i : ℕ) → Each p l → i < length l → p (get_or l i 0) ≡ true
each_at p [] i each lt = absurd (omega arith)
each_at p (x ∷ l) zero each lt = each.0
each_at p (x ∷ l) (suc i) each lt = each_at p l i each.1 (omega arith)

-- a digit is one of the octets 48 to 57
pub digit_range : (c : ℕ) → is_digit c ≡ true → (48 ≤ c) × (c ≤ 57)
digit_range c is = (grind arith, grind arith)

-- a digit more, where numbers end at a largest one
pub number_more : (digits : List ℕ) (i number : ℕ) → i < length digits → is_digit (get_or digits i 0) ≡ true → number ≡ min (digits_value 10 (take i digits)) (2 ^ 64 - 1)
    → min (min (number * 10) (2 ^ 64 - 1) + (get_or digits i 0 - 48)) (2 ^ 64 - 1) ≡ min (digits_value 10 (take (i + 1) digits)) (2 ^ 64 - 1)
number_more digits i number lt is so =
    let range = digit_range (get_or digits i 0) is in
    let digit = digit_value_digit (get_or digits i 0) range in
    let more = digits_value_more 10 digits i lt in
    step (digits_value 10 (take i digits)) (digits_value 10 (take (i + 1) digits)) number (get_or digits i 0) (digit_value (get_or digits i 0)) so more digit
  where
    step : (v w n c d : ℕ) → n ≡ min v (2 ^ 64 - 1) → w ≡ v * 10 + d → d + 48 ≡ c → min (min (n * 10) (2 ^ 64 - 1) + (c - 48)) (2 ^ 64 - 1) ≡ min w (2 ^ 64 - 1)
    step v w n c d a b e = omega arith

-- the token of the only value
pub token_is : (octets : List ℕ) (values : List (List ℕ)) (span : Span) (value : List ℕ) (given : Option (List ℕ)) → AreValues octets values (Only span)
    → value ≡ span_bytes octets span → IsTokenOf value given → IsToken values given
token_is octets [] span value given are is so = absurd are
token_is octets (v ∷ []) span value given are is so = subst (λ (l : List ℕ). IsTokenOf l given) (is ∙ are) so
token_is octets (v ∷ w ∷ more) span value given are is so = absurd are
