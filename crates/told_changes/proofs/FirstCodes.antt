-- The codes of an exchange, read in their order.
use Rattle.std.proofs.Common.{◌≡◌, ◌∙◌, ◌++◌, ℕ, Bool, List, [], ◌∷◌, Option, Some, None, refl, sym, ap, if◌then◌else◌}
use Rattle.std.specs.Prelude.{find}
use Rattle.std.specs.List.{filter_map, cons_option, list_all}
use Rattle.std.specs.Option.{option_and_then}
use Rattle.imap_types.specs.declared.code.Code.{Code}
use Rattle.imap_types.specs.declared.response.Response.{Response}
use Rattle.imap_types.specs.declared.uid_set.UidRange.{UidRange}
use Rattle.told_changes.specs.Landings.{codes_told, copied_to, first_of_all, untagged_code, holds_some, is_within, only_from, only_uid}

-- the one UID is that of the first range that holds some, where no range holds another
pub only_some : (rs : List UidRange) (r : UidRange) (b : Bool) → Some r ≡ find holds_some rs → list_all (is_within r.first) rs ≡ b → (if b then Some r.first else None) ≡ only_uid rs
only_some rs r b found e = sym (ap (λ v. if v then Some r.first else None) e) ∙ ap (only_from rs) found

-- the first UID that some code tells
abbrev pub first_told : ℕ → ℕ → List Response → Code → Option ℕ
first_told validity uid rs c = first_of_all (filter_map (copied_to validity uid) (codes_told rs c))

module _ (validity uid : ℕ) (r : Response) (rest : List Response) (c : Code) where
  -- a response that tells none is passed over
  pub passed : None ≡ option_and_then (copied_to validity uid) (untagged_code r) → first_told validity uid (r ∷ rest) c ≡ first_told validity uid rest c
  passed e = by (untagged_code r) e
    where
      by : (o : Option Code) → None ≡ option_and_then (copied_to validity uid) o
          → first_of_all (filter_map (copied_to validity uid) (cons_option o (filter_map untagged_code rest) ++ c ∷ [])) ≡ first_told validity uid rest c
      by None f = refl
      by (Some k) f = ap (λ o. first_of_all (cons_option o (filter_map (copied_to validity uid) (codes_told rest c)))) (sym f)

  -- the UID that it tells is the first
  pub told_first : (t : ℕ) → Some t ≡ option_and_then (copied_to validity uid) (untagged_code r) → Some t ≡ first_told validity uid (r ∷ rest) c
  told_first t e = by (untagged_code r) e
    where
      by : (o : Option Code) → Some t ≡ option_and_then (copied_to validity uid) o
          → Some t ≡ first_of_all (filter_map (copied_to validity uid) (cons_option o (filter_map untagged_code rest) ++ c ∷ []))
      by None f = absurd (cc)
      by (Some k) f = ap (λ o. first_of_all (cons_option o (filter_map (copied_to validity uid) (codes_told rest c)))) f

-- the code of the tagged line comes last
pub told_last : (validity uid : ℕ) (c : Code) → copied_to validity uid c ≡ first_told validity uid [] c
told_last validity uid c = by (copied_to validity uid c)
  where
    by : (o : Option ℕ) → o ≡ first_of_all (cons_option o [])
    by None = refl
    by (Some t) = refl
