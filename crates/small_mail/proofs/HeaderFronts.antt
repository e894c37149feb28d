-- The header of the front of a message is the front of its header.
use Rattle.std.proofs.Common.{◌≡◌, ℕ, zero, suc, ◌==◌, if◌then◌else◌, Bool, true, false, List, [], ◌∷◌, take, refl, sym, ap, ◌∙◌}
use Rattle.std.specs.Prelude.{◌&&◌, nat_lt}
use Rattle.text_words.specs.LineEnds.{begins_with_lf, line_end_len}
use Rattle.honest_store.specs.Headers.{begins_with_empty_line, empty_line, through_empty_line, header_section}

take_none : (n : ℕ) → take {A = ℕ} n [] ≡ []
take_none zero = refl
take_none (suc n) = refl

first_alone : (d : ℕ) (u : List ℕ) → take 1 (through_empty_line (d ∷ u)) ≡ d ∷ []
first_alone d u =
    elim ((d == 10) && begins_with_empty_line u) as (λ b. take 1 (if b then d ∷ empty_line u else d ∷ through_empty_line u) ≡ d ∷ []) [
      | true ↦ refl
      | false ↦ refl
    ]

-- how long the line's end at the front is, by what the first octets are
abbrev len_by : Bool → Bool → List ℕ → ℕ
len_by lf cr u = if lf then 1 else if cr && begins_with_lf u then 2 else 0

abbrev section_by : ℕ → List ℕ → List ℕ
section_by len t = if nat_lt 0 len then take len t else through_empty_line t

section_of_front : (n : ℕ) (t : List ℕ) → through_empty_line (take n t) ≡ take n (through_empty_line t) → header_section (take n t) ≡ take n (header_section t)
section_of_front zero t same = refl
section_of_front (suc n) [] same = refl
section_of_front (suc n) (d ∷ u) same = by (d == 10) (d == 13) n u same
  where
    by : (lf cr : Bool) (n : ℕ) (u : List ℕ) → through_empty_line (d ∷ take n u) ≡ take (suc n) (through_empty_line (d ∷ u))
        → section_by (len_by lf cr (take n u)) (d ∷ take n u) ≡ take (suc n) (section_by (len_by lf cr u) (d ∷ u))
    by true cr n u same = ap (λ (v : List ℕ). d ∷ v) (sym (take_none n))
    by false false n u same = same
    by false true zero u same =
        elim (begins_with_lf u) as (λ b. through_empty_line (d ∷ []) ≡ take 1 (section_by (if b then 2 else 0) (d ∷ u))) [
          | true ↦ same ∙ first_alone d u
          | false ↦ same
        ]
    by false true (suc n) [] same = same
    by false true (suc n) (e ∷ v) same =
        elim (e == 10) as (λ b. section_by (if b then 2 else 0) (d ∷ e ∷ take n v) ≡ take (suc (suc n)) (section_by (if b then 2 else 0) (d ∷ e ∷ v))) [
          | true ↦ ap (λ (w : List ℕ). d ∷ e ∷ w) (sym (take_none n))
          | false ↦ same
        ]

both_begin : (c : ℕ) (b : Bool) (x y : List ℕ) → (if b then c ∷ x else c ∷ y) ≡ c ∷ (if b then x else y)
both_begin c true x y = refl
both_begin c false x y = refl

through_of_front : (n : ℕ) (t : List ℕ) → through_empty_line (take n t) ≡ take n (through_empty_line t)
through_of_front zero t = refl
through_of_front (suc n) [] = refl
through_of_front (suc n) (c ∷ t) = by (c == 10) (through_of_front n t)
  where
    by : (lf : Bool) → through_empty_line (take n t) ≡ take n (through_empty_line t)
        → (if lf && begins_with_empty_line (take n t) then c ∷ empty_line (take n t) else c ∷ through_empty_line (take n t))
        ≡ take (suc n) (if lf && begins_with_empty_line t then c ∷ empty_line t else c ∷ through_empty_line t)
    by false same = ap (λ (u : List ℕ). c ∷ u) same
    by true same = both_begin c (begins_with_empty_line (take n t)) (empty_line (take n t)) (through_empty_line (take n t))
        ∙ (ap (λ (u : List ℕ). c ∷ u) (section_of_front n t same)
        ∙ ap (take (suc n)) (sym (both_begin c (begins_with_empty_line t) (empty_line t) (through_empty_line t))))

pub header_of_front : (n : ℕ) (t : List ℕ) → header_section (take n t) ≡ take n (header_section t)
header_of_front n t = section_of_front n t (through_of_front n t)
