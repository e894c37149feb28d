-- The tokens of a pointer, which stand between slashes, as `split_once` finds them.
use Rattle.std.proofs.Common.{◌≡◌, ◌≢◌, ◌<◌, ℕ, suc, Bool, true, false, List, [], ◌∷◌, ◌++◌, ◌==◌, cond, map, Some, None, Bor, refl, ap, ◌∙◌, arith, length, get_or}
use Rattle.std.specs.List.{slice_split, onto_first}
use Rattle.std.proofs.lemmas.Bool.Decides.{nat_tests}
use Rattle.std.proofs.lemmas.List.Splits.{slice_split-cons_yes, slice_split-cons_no}
use Rattle.std.proofs.lemmas.Str.Pattern.{IsSplitOnceResult, split_parts}
use Rattle.serde_json.specs.Find.{unescape}
use Rattle.set_patches.specs.Patches.{Deeper, pointer_at}

abbrev pub is_slash : ℕ → Bool
is_slash c = c == 47

abbrev pub tokens_of : List ℕ → List (List ℕ)
tokens_of key = slice_split is_slash key

no_slash_at : (c : ℕ) → c ≢ 47 → (c == 47) ≡ false
no_slash_at c other = grind (arith, nat_tests)

-- where there is no slash, all is one token
no_slash : (bs : List ℕ) → ((i : ℕ) → i < length bs → get_or bs i 0 ≢ 47) → tokens_of bs ≡ bs ∷ []
no_slash [] none = refl
no_slash (c ∷ bs) none =
    slice_split-cons_no is_slash c bs (no_slash_at c (none 0 (omega arith)))
    ∙ ap (onto_first c) (no_slash bs (λ i within. none (suc i) (omega arith)))

up_to_slash : (front rest : List ℕ) → ((i : ℕ) → i < length front → get_or front i 0 ≢ 47) → tokens_of (front ++ 47 ∷ rest) ≡ front ∷ tokens_of rest
up_to_slash [] rest none = slice_split-cons_yes is_slash 47 rest refl
up_to_slash (c ∷ front) rest none =
    slice_split-cons_no is_slash c (front ++ 47 ∷ rest) (no_slash_at c (none 0 (omega arith)))
    ∙ ap (onto_first c) (up_to_slash front rest (λ i within. none (suc i) (omega arith)))

pub one_token : (bs : List ℕ) → IsSplitOnceResult 47 bs None → tokens_of bs ≡ bs ∷ []
one_token bs given = no_slash bs (split_parts 47 bs None given (omega arith))

-- the first token stands before the first slash, and the others after it
pub more_tokens : (bs : List ℕ) (x : Bor (List ℕ) × Bor (List ℕ)) → IsSplitOnceResult 47 bs (Some x) → tokens_of bs ≡ x.0.now ∷ tokens_of x.1.now
more_tokens bs x given =
    let parts = split_parts 47 bs (Some x) given (omega arith) in
    ap tokens_of parts.0 ∙ up_to_slash x.0.now x.1.now parts.1

-- there is a token at least
deeper_at : (front key : List ℕ) (tokens : List (List ℕ)) (c : ℕ) → pointer_at (front ∷ key ∷ map unescape (onto_first c tokens)) ≡ Deeper front
deeper_at front key [] c = refl
deeper_at front key (t ∷ ts) c = refl

pub deeper_is : (front key bs : List ℕ) → pointer_at (front ∷ key ∷ map unescape (tokens_of bs)) ≡ Deeper front
deeper_is front key [] = refl
deeper_is front key (c ∷ bs) =
    elim (c == 47) as (λ slash. pointer_at (front ∷ key ∷ map unescape (cond slash ([] ∷ tokens_of bs) (onto_first c (tokens_of bs)))) ≡ Deeper front) [
      | true ↦ refl
      | false ↦ deeper_at front key (tokens_of bs) c
    ]
