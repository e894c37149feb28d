-- Texts, of those that stand for one object the first alone: the objects that were seen, and those that are left.
use Rattle.std.proofs.Common.{◌≡◌, ℕ, List, [], ◌∷◌, ◌++◌, Bool, true, false, not, ◌||◌, cond, refl, sym, ap, ◌∙◌, append_assoc}
use Rattle.std.specs.List.{filter}
use Rattle.std.specs.Str.{bytes_eq}
use Rattle.std.proofs.lemmas.Bool.{or_right}
use Rattle.std.proofs.lemmas.List.Folds.{list_any-append}
use Rattle.std.proofs.lemmas.Slice.Eq.{bytes_eq-Decides}
use Rattle.jmap_arguments.specs.Arguments.{is_among}
use Rattle.set_order.specs.Ordered.{each_once}

or_none : (b : Bool) → (b || false) ≡ b
or_none true = refl
or_none false = refl

module _ (object : List ℕ → List ℕ) where
  -- those whose objects aren't among these
  abbrev pub left_by : List (List ℕ) → List (List ℕ) → List (List ℕ)
  left_by seen texts = filter (λ t. not (is_among (object t) seen)) texts

  -- of none, all are left
  pub none_left_by : (texts : List (List ℕ)) → left_by [] texts ≡ texts
  none_left_by [] = refl
  none_left_by (t ∷ ts) = ap (λ (rest : List (List ℕ)). t ∷ rest) (none_left_by ts)

  -- those of other objects than this text's
  abbrev others_by : List ℕ → List (List ℕ) → List (List ℕ)
  others_by text texts = filter (λ other. not (bytes_eq (object text) (object other))) texts

  passed_by : (seen : List (List ℕ)) (text : List ℕ) (texts : List (List ℕ)) → is_among (object text) seen ≡ true
      → left_by seen (others_by text texts) ≡ left_by seen texts
  passed_by seen text [] there = refl
  passed_by seen text (t ∷ ts) there =
      elim (bytes_eq (object text) (object t)) as (λ b. bytes_eq (object text) (object t) ≡ b
      → left_by seen (cond (not b) (t ∷ others_by text ts) (others_by text ts)) ≡ cond (not (is_among (object t) seen)) (t ∷ left_by seen ts) (left_by seen ts)) [
        | true ↦ λ is.
            let there_too : is_among (object t) seen ≡ true = ap (λ (o : List ℕ). is_among o seen) (sym ((bytes_eq-Decides (object text) (object t)).0 is)) ∙ there in
            passed_by seen text ts there ∙ sym (ap (λ (b : Bool). cond (not b) (t ∷ left_by seen ts) (left_by seen ts)) there_too)
        | false ↦ λ is. ap (λ (rest : List (List ℕ)). cond (not (is_among (object t) seen)) (t ∷ rest) rest) (passed_by seen text ts there)
      ] refl

  taken_by : (seen : List (List ℕ)) (text : List ℕ) (texts : List (List ℕ))
      → left_by seen (others_by text texts) ≡ left_by (seen ++ object text ∷ []) texts
  taken_by seen text [] = refl
  taken_by seen text (t ∷ ts) =
      let more : List (List ℕ) = left_by (seen ++ object text ∷ []) ts in
      let among : is_among (object t) (seen ++ object text ∷ []) ≡ (is_among (object t) seen || (bytes_eq (object text) (object t) || false)) =
      list_any-append (λ (n : List ℕ). bytes_eq n (object t)) seen (object text ∷ []) in
      elim (bytes_eq (object text) (object t)) as (λ b. is_among (object t) (seen ++ object text ∷ []) ≡ (is_among (object t) seen || (b || false))
      → left_by seen (cond (not b) (t ∷ others_by text ts) (others_by text ts)) ≡ cond (not (is_among (object t) (seen ++ object text ∷ []))) (t ∷ more) more) [
        | true ↦ λ is. taken_by seen text ts ∙ sym (ap (λ (b : Bool). cond (not b) (t ∷ more) more) (is ∙ or_right (is_among (object t) seen) true refl))
        | false ↦ λ is.
            ap (λ (rest : List (List ℕ)). cond (not (is_among (object t) seen)) (t ∷ rest) rest) (taken_by seen text ts)
            ∙ sym (ap (λ (b : Bool). cond (not b) (t ∷ more) more) (is ∙ or_none (is_among (object t) seen)))
      ] among

  module _ (all rest once seen : List (List ℕ)) (text : List ℕ) (so_far : each_once object all ≡ once ++ left_by seen (each_once object (text ∷ rest))) where
    -- one of an object that was there already
    pub seen_before_by : is_among (object text) seen ≡ true → each_once object all ≡ once ++ left_by seen (each_once object rest)
    seen_before_by there =
        so_far
        ∙ ap (λ (b : Bool). once ++ cond (not b) (text ∷ left_by seen (others_by text (each_once object rest))) (left_by seen (others_by text (each_once object rest)))) there
        ∙ ap (λ (l : List (List ℕ)). once ++ l) (passed_by seen text (each_once object rest) there)

    -- one of an object that is new
    pub seen_first_by : is_among (object text) seen ≡ false
        → each_once object all ≡ (once ++ text ∷ []) ++ left_by (seen ++ object text ∷ []) (each_once object rest)
    seen_first_by new =
        so_far
        ∙ ap (λ (b : Bool). once ++ cond (not b) (text ∷ left_by seen (others_by text (each_once object rest))) (left_by seen (others_by text (each_once object rest)))) new
        ∙ ap (λ (l : List (List ℕ)). once ++ text ∷ l) (taken_by seen text (each_once object rest))
        ∙ sym (append_assoc once (text ∷ []) (left_by (seen ++ object text ∷ []) (each_once object rest)))
