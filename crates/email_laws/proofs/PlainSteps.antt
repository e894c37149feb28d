-- Steps that make no folder and no message, and may stand in any order.
use Rattle.std.proofs.Common.{◌≡◌, ℕ, ◌==◌, Bool, true, false, cond, List, [], ◌∷◌, ◌++◌, Option, Some, None, refl, sym, subst, arith}
use Rattle.imap_types.specs.declared.command.Command.TheVariants as command
use Rattle.told_folder.specs.declared.message.Folder.{Folder}
use Rattle.set_jobs.specs.declared.step.Step.{Step}
use Rattle.set_jobs.specs.declared.step.Step.TheVariants as step
use Rattle.set_items.specs.Commands.{FitsAfter, FitsStep, appends_of, made_by, step_appends}
use Rattle.email_checks.specs.Steps.{after_select, is_selected, moves, selects, stores}

pub record IsPlain (s : Step) : Type 0 where
  pub fits : FitsStep None s
  pub makes : made_by None s ≡ None
  pub appends : step_appends s ≡ 0

abbrev pub ArePlain : List Step → Type 0
ArePlain [] = Unit {0}
ArePlain (s ∷ ss) = IsPlain s × ArePlain ss

pub plain_fit : (ss : List Step) → ArePlain ss → FitsAfter None ss
plain_fit [] are = tt
plain_fit (s ∷ ss) are = (are.0.fits, subst (λ (made : Option (List ℕ)). FitsAfter made ss) (sym are.0.makes) (plain_fit ss are.1))

pub plain_append : (ss : List Step) → ArePlain ss → appends_of ss ≡ 0
plain_append [] are = refl
plain_append (s ∷ ss) are = let rest : appends_of ss ≡ 0 = plain_append ss are.1 in let first : step_appends s ≡ 0 = are.0.appends in omega (arith, first, rest)

pub both_plain : (xs ys : List Step) → ArePlain xs → ArePlain ys → ArePlain (xs ++ ys)
both_plain [] ys are more = more
both_plain (x ∷ xs) ys are more = (are.0, both_plain xs ys are.1 more)

-- ---- steps of Emails

pub selects_plain : (selected : Option (List ℕ)) (f : Folder) (mark : ℕ) → ArePlain (selects selected f mark)
selects_plain selected f mark = elim (is_selected selected f.name) as (λ b. ArePlain (cond b [] (step.Select f.number mark ∷ []))) [
  | true ↦ tt
  | false ↦ (record { fits = tt; makes = refl; appends = refl }, tt)
]

pub stores_plain : (uid : ℕ) (add : Bool) (flags : List (List ℕ)) → ArePlain (stores uid add flags)
stores_plain uid add [] = tt
stores_plain uid add (f ∷ fs) = (record { fits = tt; makes = refl; appends = refl }, tt)

pub moves_plain : (uid : ℕ) (f : Folder) (target : Option Folder) → ArePlain (moves uid f target)
moves_plain uid f None = tt
moves_plain uid f (Some target) = elim (target.number == f.number) as (λ b. ArePlain (cond b [] (step.Change (command.Move uid target.name) ∷ []))) [
  | true ↦ tt
  | false ↦ (record { fits = tt; makes = refl; appends = refl }, tt)
]

pub after_select_plain : (selected : Option (List ℕ)) (f : Folder) (mark : ℕ) (ss : List Step) → ArePlain ss → ArePlain (after_select selected f mark ss)
after_select_plain selected f mark [] are = tt
after_select_plain selected f mark (s ∷ ss) are = both_plain (selects selected f mark) (s ∷ ss) (selects_plain selected f mark) are

pub deletes_plain : (uid : ℕ) → ArePlain (step.Delete uid ∷ step.Expunge uid ∷ [])
deletes_plain uid = (record { fits = tt; makes = refl; appends = refl }, (record { fits = tt; makes = refl; appends = refl }, tt))
