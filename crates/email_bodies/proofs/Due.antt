-- Bodies that are due.
use Rattle.std.proofs.Common.{◌≡◌, ◌∙◌, ◌⊎◌, inl, inr, List, ◌∷◌, [], ◌++◌, append-nil, append_assoc, refl, sym, ap, subst}
use Rattle.std.proofs.lemmas.List.{same_from_push}
use Rattle.email_bodies.specs.Asking.{BodyAsk, unanswered, AreDue}

no_last : (asks : List BodyAsk) (last : BodyAsk) → [] ≡ asks ++ last ∷ [] → ⊥
no_last [] last is = cc
no_last (ask ∷ asks) last is = cc

-- a list has no last one, or ends in it
ending : (tried : List BodyAsk) → (tried ≡ []) ⊎ ((asks : List BodyAsk) × (last : BodyAsk) × (tried ≡ asks ++ last ∷ []))
ending [] = inl refl
ending (ask ∷ tried) = elim (ending tried) [
  | inl none ↦ inr ([], ask, ap (λ (l : List BodyAsk). ask ∷ l) none)
  | inr ends ↦ inr (ask ∷ ends.0, ends.1, ap (λ (l : List BodyAsk). ask ∷ l) ends.2)
]

-- where none was asked
pub none_due : (AreAll : List BodyAsk → Type 0) → AreDue AreAll []
none_due AreAll = λ asks last is. absurd (no_last asks last is)

pub no_asks_due : (AreAll : List BodyAsk → Type 0) (tried : List BodyAsk) → tried ≡ [] → AreDue AreAll tried
no_asks_due AreAll tried none = subst (λ (l : List BodyAsk). AreDue AreAll l) (sym none) (none_due AreAll)

-- one
pub one_due : (AreAll : List BodyAsk → Type 0) (ask : BodyAsk) → AreAll (unanswered ask.message ∷ []) → AreDue AreAll (ask ∷ [])
one_due AreAll ask all = λ asks last is.
    let same = same_from_push [] asks ask last is in
    subst (λ (l : List BodyAsk). AreAll (l ++ unanswered last.message ∷ [])) same.0
    (subst (λ (a : BodyAsk). AreAll (unanswered a.message ∷ [])) same.1 all)

-- what is due may be more
pub due_more : (P Q : List BodyAsk → Type 0) (tried : List BodyAsk) → ((asks : List BodyAsk) → P asks → Q asks) → AreDue P tried → AreDue Q tried
due_more P Q tried so due = λ asks last is. so (asks ++ unanswered last.message ∷ []) (due asks last is)

-- some, and those after them
pub due_after : (P Q : List BodyAsk → Type 0) (firsts more : List BodyAsk) → AreDue Q firsts → ((asks : List BodyAsk) → P asks → Q (firsts ++ asks)) → AreDue P more
    → AreDue Q (firsts ++ more)
due_after P Q firsts more first lift second = elim (ending more) [
  | inl none ↦ subst (λ (l : List BodyAsk). AreDue Q (firsts ++ l)) (sym none) (subst (λ (l : List BodyAsk). AreDue Q l) (sym (append-nil firsts)) first)
  | inr ends ↦ λ asks last is.
      let whole : (firsts ++ ends.0) ++ ends.1 ∷ [] ≡ asks ++ last ∷ [] = append_assoc firsts ends.0 (ends.1 ∷ []) ∙ ap (λ (l : List BodyAsk). firsts ++ l) (sym ends.2) ∙ is in
      let same = same_from_push (firsts ++ ends.0) asks ends.1 last whole in
      subst (λ (l : List BodyAsk). Q (l ++ unanswered last.message ∷ [])) same.0
      (subst (λ (a : BodyAsk). Q ((firsts ++ ends.0) ++ unanswered a.message ∷ [])) same.1
      (subst Q (sym (append_assoc firsts ends.0 (unanswered ends.1.message ∷ []))) (lift (ends.0 ++ unanswered ends.1.message ∷ []) (second ends.0 ends.1 ends.2))))
]
