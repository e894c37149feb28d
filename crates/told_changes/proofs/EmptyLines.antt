-- A walk over the lines of a message up to its first empty one.
use Rattle.std.proofs.Common.{◌≡◌, ℕ, suc, ◌+◌, ◌-◌, ◌≤◌, Bool, true, false, List, [], ◌∷◌, ◌++◌, length, take, drop, get_or, sym, ap, ◌∙◌, arith, ◌==◌, if◌then◌else◌, length-drop}
use Rattle.std.specs.Prelude.{◌&&◌}
use Rattle.std.proofs.lemmas.List.{append_assoc, drop-drop, take_all, take_more, get_or-drop}
use Rattle.std.proofs.Math.Seq.{take-add}
use Rattle.text_words.specs.LineEnds.{line_end_len}
use Rattle.told_changes.specs.Headers.{begins_with_empty_line, empty_line, through_empty_line}

-- a slice's first octet and what is behind it
pub first_and_more : (rest : List ℕ) → 1 ≤ length rest → rest ≡ get_or rest 0 0 ∷ take (length rest - 1) (drop 1 rest)
first_and_more [] some = absurd (omega (arith, some))
first_and_more (c ∷ t) some = ap (λ (u : List ℕ). c ∷ u) (sym (take_all (length (c ∷ t) - 1) t (omega arith)))

module _ (octets rest more : List ℕ) (at first : ℕ) (rest_is : rest ≡ drop at octets) (parts : rest ≡ first ∷ more)
    (so_far : take at octets ++ through_empty_line rest ≡ through_empty_line octets) where
  left : drop at octets ≡ first ∷ more
  left = sym rest_is ∙ parts

  pub one_more : at + 1 ≤ length octets
  one_more = omega (arith, ap length left, length-drop at octets)

  pub more_is : more ≡ drop (at + 1) octets
  more_is = sym (ap (drop 1) left) ∙ drop-drop 1 at octets

  ahead : take at octets ++ through_empty_line (first ∷ more) ≡ through_empty_line octets
  ahead = ap (λ (t : List ℕ). take at octets ++ through_empty_line t) (sym parts) ∙ so_far

  -- an empty line stands behind this LF
  pub line_found : (empty : ℕ) → first ≡ 10 → empty ≡ line_end_len more → begins_with_empty_line more ≡ true → take (at + 1 + empty) octets ≡ through_empty_line octets
  line_found empty lf empty_is begins =
      let cut : at + 1 + empty ≡ at + suc empty = omega arith in
      ap (λ (n : ℕ). take n octets) cut ∙ (take-add at (suc empty) octets ∙ (ap (λ (t : List ℕ). take at octets ++ take (suc empty) t) left
      ∙ (ap (λ (n : ℕ). take at octets ++ first ∷ take n more) empty_is
      ∙ (ap (λ (b : Bool). take at octets ++ (if b then first ∷ empty_line more else first ∷ through_empty_line more)) (sym (both first lf))
      ∙ ahead))))
    where
      both : (c : ℕ) → c ≡ 10 → ((c == 10) && begins_with_empty_line more) ≡ true
      both c e = ap (λ (d : ℕ). (d == 10) && begins_with_empty_line more) e ∙ begins

  -- none does
  pub none_yet : ((first == 10) && begins_with_empty_line more) ≡ false → take (at + 1) octets ++ through_empty_line more ≡ through_empty_line octets
  none_yet fails =
      let plus : at ≡ at + 0 = omega arith in
      let here : get_or octets at first ≡ first =
      ap (λ (n : ℕ). get_or octets n first) plus ∙ (sym (get_or-drop at octets 0 first) ∙ ap (λ (t : List ℕ). get_or t 0 first) left) in
      ap (λ (t : List ℕ). t ++ through_empty_line more) (take_more octets at first (omega (arith, one_more))
      ∙ ap (λ (c : ℕ). take at octets ++ c ∷ []) here)
      ∙ (append_assoc (take at octets) (first ∷ []) (through_empty_line more)
      ∙ (ap (λ (b : Bool). take at octets ++ (if b then first ∷ empty_line more else first ∷ through_empty_line more)) (sym fails) ∙ ahead))
