-- Flags as they are written are the flags that were given.
use Rattle.std.proofs.Common.{◌≡◌, ℕ, Bool, true, false, List, [], ◌∷◌, ◌++◌, map, cond, refl, sym, ap, ◌∙◌, arith, inr}
use Rattle.std.specs.Prelude.{codes, bytes_eq}
use Rattle.imap_keywords.proofs.KeyLemmas.{same_text}
use Rattle.imap_types.specs.Octets.{lower}
use Rattle.imap_types.specs.Lines.{spaced, joined}
use Rattle.imap_types.specs.Items.{IsName, AllNames, add_name, kept_from}
use Rattle.imap_types.specs.Commands.{flag_text, more_flags, flags_inside, flags_text}
use Rattle.command_parts.specs.Fields.{IsFlagList}
use Rattle.store_commands.specs.Written.{AreKeptFlags}

-- what is written for a flag: a name that has it in lower case
abbrev IsFlagText : List ℕ → List ℕ → Type 0
IsFlagText f t = (map lower t ≡ map lower f) × IsName t

-- one of the system flags, or what else it is
one_of : (f w x rest : List ℕ) → map lower x ≡ map lower w → IsName x → IsFlagText f rest → IsFlagText f (cond (bytes_eq f w) x rest)
one_of f w x rest low name other = by (bytes_eq f w) refl
  where
    by : (b : Bool) → bytes_eq f w ≡ b → IsFlagText f (cond b x rest)
    by true e = (low ∙ sym (ap (map lower) (same_text f w e)), name)
    by false e = other

system_name : (f : List ℕ) → IsName f → IsFlagText f (flag_text f)
system_name f name =
    one_of f (codes "\\seen") (codes "\\Seen") _ refl (inr (codes "Seen", refl, ((refl, (refl, (refl, (refl, tt)))), omega arith)))
    (one_of f (codes "\\answered") (codes "\\Answered") _ refl (inr (codes "Answered", refl, ((refl, (refl, (refl, (refl, (refl, (refl, (refl, (refl, tt)))))))), omega arith)))
    (one_of f (codes "\\flagged") (codes "\\Flagged") _ refl (inr (codes "Flagged", refl, ((refl, (refl, (refl, (refl, (refl, (refl, (refl, tt))))))), omega arith)))
    (one_of f (codes "\\draft") (codes "\\Draft") _ refl (inr (codes "Draft", refl, ((refl, (refl, (refl, (refl, (refl, tt))))), omega arith)))
    (one_of f (codes "\\deleted") (codes "\\Deleted") f refl (inr (codes "Deleted", refl, ((refl, (refl, (refl, (refl, (refl, (refl, (refl, tt))))))), omega arith)))
    (refl, name)))))

names_written : (fs : List (List ℕ)) → AllNames fs → AllNames (map flag_text fs)
names_written [] h = tt
names_written (f ∷ fs) h = ((system_name f h.0).1, names_written fs h.1)

more_written : (fs : List (List ℕ)) → more_flags fs ≡ spaced (map flag_text fs)
more_written [] = refl
more_written (f ∷ fs) = ap (λ (u : List ℕ). 32 ∷ flag_text f ++ u) (more_written fs)

inside_written : (fs : List (List ℕ)) → flags_inside fs ≡ joined (map flag_text fs)
inside_written [] = refl
inside_written (f ∷ fs) = ap (λ (u : List ℕ). flag_text f ++ u) (more_written fs)

kept_written : (so_far fs : List (List ℕ)) → AllNames fs → kept_from so_far (map flag_text fs) ≡ kept_from so_far fs
kept_written so_far [] h = refl
kept_written so_far (f ∷ fs) h =
    ap (λ (u : List ℕ). kept_from (add_name so_far u) (map flag_text fs)) (system_name f h.0).0 ∙ kept_written (add_name so_far (map lower f)) fs h.1

-- the flags' text is a list of them
pub flags_written : (fs : List (List ℕ)) → AreKeptFlags fs → IsFlagList fs (flags_text fs)
flags_written fs h =
    (map flag_text fs, (names_written fs h.0, ap (λ (u : List ℕ). 40 ∷ u ++ 41 ∷ []) (inside_written fs)), sym (kept_written [] fs h.0 ∙ h.1))
