-- The scheme and the authority of a target.
use Rattle.std.proofs.Common.{◌≡◌, ◌≢◌, ◌<◌, ◌++◌, ℕ, List, length, take, drop, refl, sym, ap, ◌∙◌, subst, arith, codes, length-append, take-append-drop, inl, inr}
use Rattle.text_words.specs.Cuts.{front, back}
use Rattle.text_words.proofs.CutLemmas.{front_back, front_each, back_stops, front_is, back_is}
use Rattle.http_service.specs.Heads.{BeginsWithLetter, is_scheme_octet, is_authority_octet, IsPathAndQuery}
use Rattle.http_service.specs.reading.Targets.{HasScheme}

-- where the parts of a scheme stand
scheme_parts : (target rest : List ℕ) → (h : HasScheme target rest) → (front is_scheme_octet target ≡ h.0) × (back is_scheme_octet target ≡ codes "://" ++ rest)
scheme_parts target rest (scheme, whole, begins, each) = (
  ap (front is_scheme_octet) whole ∙ front_is is_scheme_octet scheme (codes "://" ++ rest) each refl,
  ap (back is_scheme_octet) whole ∙ back_is is_scheme_octet scheme (codes "://" ++ rest) each refl,
)

-- a target that begins with no letter has no scheme
pub not_without_letter : (target : List ℕ) → (BeginsWithLetter (front is_scheme_octet target) → ⊥) → (rest : List ℕ) → HasScheme target rest → ⊥
not_without_letter target none rest h = none (subst BeginsWithLetter (sym (scheme_parts target rest h).0) h.2)

-- a target in which fewer than three octets follow those of a scheme has no scheme
pub not_without_room : (target : List ℕ) → length (back is_scheme_octet target) < 3 → (rest : List ℕ) → HasScheme target rest → ⊥
not_without_room target short rest h = omega (arith, short, ap length (scheme_parts target rest h).1, length-append (codes "://") rest)

-- a target in which no `://` follows the octets of a scheme has no scheme
pub not_without_sign : (target : List ℕ) → take 3 (back is_scheme_octet target) ≢ codes "://" → (rest : List ℕ) → HasScheme target rest → ⊥
not_without_sign target other rest h = other (ap (take 3) (scheme_parts target rest h).1)

-- octets of a scheme that begin with a letter, and `://` after them, are a scheme before the rest
pub has_scheme : (target : List ℕ) → BeginsWithLetter (front is_scheme_octet target) → take 3 (back is_scheme_octet target) ≡ codes "://"
    → HasScheme target (drop 3 (back is_scheme_octet target))
has_scheme target begins sign = (
  front is_scheme_octet target,
  front_back is_scheme_octet target ∙ ap (λ (l : List ℕ). front is_scheme_octet target ++ l)
      (sym (take-append-drop 3 (back is_scheme_octet target)) ∙ ap (λ (l : List ℕ). l ++ drop 3 (back is_scheme_octet target)) sign),
  begins,
  front_each is_scheme_octet target,
)

-- a target without a scheme is all path and query
pub whole_target : (target : List ℕ) → ((rest : List ℕ) → HasScheme target rest → ⊥) → IsPathAndQuery target target
whole_target target none = inr (λ other is. none (is.authority ++ other) (is.scheme, is.whole, is.begins, is.is_scheme), refl)

-- after a scheme, what stands after the authority is the path and the query
pub after_authority : (target rest : List ℕ) → HasScheme target rest → IsPathAndQuery target (back is_authority_octet rest)
after_authority target rest (scheme, whole, begins, each) =
    inl (
    record {
      scheme = scheme;
      authority = front is_authority_octet rest;
      whole = whole ∙ ap (λ (l : List ℕ). scheme ++ (codes "://" ++ l)) (front_back is_authority_octet rest);
      begins = begins;
      is_scheme = each;
      is_authority = front_each is_authority_octet rest;
      ends = back_stops is_authority_octet rest;
    })
