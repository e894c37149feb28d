-- The flags of keywords that aren't held.
use Rattle.std.proofs.Common.{◌≡◌, ℕ, List, [], ◌∷◌, ◌++◌, true, false, not, cond, map, filter, refl, sym, ap, ◌∙◌, append_assoc}
use Rattle.mail_maps.specs.Keywords.{has_name}
use Rattle.email_checks.specs.Keywords.{flag_of, flags_missing}

missing_more : (x : List ℕ) (xs those : List (List ℕ)) → flags_missing (x ∷ xs) those ≡ flags_missing (x ∷ []) those ++ flags_missing xs those
missing_more x xs those =
    elim (not (has_name x those)) as (λ b. map flag_of (cond b (x ∷ filter (λ k. not (has_name k those)) xs) (filter (λ k. not (has_name k those)) xs))
    ≡ map flag_of (cond b (x ∷ []) []) ++ flags_missing xs those) [
      | true ↦ refl
      | false ↦ refl
    ]

-- the flags so far with those of one keyword more
pub one_more : (flags next all those : List (List ℕ)) (rest : List (List ℕ)) (x : List ℕ) → next ≡ flags ++ flags_missing (x ∷ []) those → flags ++ flags_missing (x ∷ rest) those ≡ all
    → next ++ flags_missing rest those ≡ all
one_more flags next all those rest x more is =
    ap (λ fs. fs ++ flags_missing rest those) more
    ∙ append_assoc flags (flags_missing (x ∷ []) those) (flags_missing rest those)
    ∙ ap (λ fs. flags ++ fs) (sym (missing_more x rest those)) ∙ is
