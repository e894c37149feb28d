-- A field that was written is read again, whatever follows it.
use Rattle.std.proofs.Common.{◌≡◌, ℕ, ℤ, suc, ◌^◌, ◌<◌, Bool, false, ltb, ne_eqb, if◌then◌else◌, List, [], ◌∷◌, ◌++◌, length, Option, Some, None, refl, ap, ◌∙◌, append_assoc, arith}
use Rattle.std.specs.Prelude.{IfSome, FitsSigned}
use Rattle.std.specs.Int.{Width, w32, w64, byte_len, cast_signed, cast_unsigned, from_be_bytes, to_be_bytes}
use Rattle.std.specs.List.{flat_map, AllByRecursion}
use Rattle.std.proofs.lemmas.Bool.{le-ltb}
use Rattle.std.proofs.lemmas.Int.{to_z-of_z}
use Rattle.std.proofs.lemmas.List.{take_at, drop_at, length-append}
use Rattle.std.proofs.lemmas.List.Concat.{flat_map-cons}
use Rattle.std.proofs.lemmas.Nat.{from_be_bytes-to_be_bytes_4, from_be_bytes-to_be_bytes_8}
use Rattle.mail_batches.specs.Items.{half, long, text, texts, optional, FitsText, FitsTexts, IsDelimiter}
use Rattle.mail_batches.specs.reading.Reading.{number_at, text_at, some_texts_at, texts_at, optional_at}

number_again : (w : Width) (n : ℕ) (rest : List ℕ) → length (to_be_bytes w n) ≡ byte_len w → from_be_bytes w (to_be_bytes w n) ≡ n
    → number_at w (to_be_bytes w n ++ rest) ≡ Some (n, rest)
number_again w n rest len again =
    let long : ltb (length (to_be_bytes w n ++ rest)) (byte_len w) ≡ false = le-ltb _ _ (omega (arith, length-append (to_be_bytes w n) rest)) in
    rw (long, take_at (to_be_bytes w n) rest (byte_len w) len, drop_at (to_be_bytes w n) rest (byte_len w) len, again) refl

pub half_again : (n : ℕ) (rest : List ℕ) → n < 2 ^ 32 → number_at w32 (half n ++ rest) ≡ Some (n, rest)
half_again n rest lt = number_again w32 n rest refl (from_be_bytes-to_be_bytes_4 n lt)

pub long_again : (n : ℕ) (rest : List ℕ) → n < 2 ^ 64 → number_at w64 (long n ++ rest) ≡ Some (n, rest)
long_again n rest lt = number_again w64 n rest refl (from_be_bytes-to_be_bytes_8 n lt)

pub text_again : (octets rest : List ℕ) → FitsText octets → text_at (text octets ++ rest) ≡ Some (octets, rest)
unfolding text_at
text_again octets rest lt =
    let enough : ltb (length (octets ++ rest)) (length octets) ≡ false = le-ltb _ _ (omega (arith, length-append octets rest)) in
    let regrouped : text octets ++ rest ≡ long (length octets) ++ (octets ++ rest) = append_assoc (long (length octets)) octets rest in
    ap text_at regrouped ∙ rw (long_again (length octets) (octets ++ rest) lt, enough, take_at octets rest (length octets) refl, drop_at octets rest (length octets) refl) refl

some_texts_again : (ns : List (List ℕ)) (rest : List ℕ) → AllByRecursion FitsText ns → some_texts_at (length ns) (flat_map text ns ++ rest) ≡ Some (ns, rest)
unfolding some_texts_at
some_texts_again [] rest fits = refl
some_texts_again (n ∷ ns) rest fits =
    let regrouped : flat_map text (n ∷ ns) ++ rest ≡ text n ++ (flat_map text ns ++ rest) = ap (λ (x : List ℕ). x ++ rest) (flat_map-cons text n ns) ∙ append_assoc (text n) (flat_map text ns) rest in
    ap (some_texts_at (suc (length ns))) regrouped ∙ rw (text_again n (flat_map text ns ++ rest) fits.0, some_texts_again ns rest fits.1) refl

pub texts_again : (ns : List (List ℕ)) (rest : List ℕ) → FitsTexts ns → texts_at (texts ns ++ rest) ≡ Some (ns, rest)
unfolding texts_at
texts_again ns rest fits =
    let regrouped : texts ns ++ rest ≡ long (length ns) ++ (flat_map text ns ++ rest) = append_assoc (long (length ns)) (flat_map text ns) rest in
    ap texts_at regrouped ∙ rw (long_again (length ns) (flat_map text ns ++ rest) fits.count, some_texts_again ns rest fits.each) refl

pub optional_again : (o : Option ℕ) (rest : List ℕ) → IfSome o IsDelimiter → optional_at (optional o ++ rest) ≡ Some (o, rest)
unfolding optional_at
optional_again None rest h = refl
optional_again (Some d) rest h = ap (λ (b : Bool). Some (if b then None else Some d, rest)) (ne_eqb d 0 h.0)

pub signed_again : (n : ℤ) → FitsSigned w64 n → cast_signed w64 (cast_unsigned w64 n) ≡ n
signed_again n fits = to_z-of_z w64 n fits
