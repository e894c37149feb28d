use Rattle.std.proofs.Common.{ℕ, List, Option, MatchOption, sym, subst}
use Rattle.std.proofs.lemmas.Result.{IfOk-weaker}
use Rattle.header_addresses.specs.Parts.{IsPhraseName}
use Rattle.loose_addresses.specs.LooseLists.{IsNameBefore, Phrase, AsItStands}
use Rattle.loose_addresses.specs.Torn.{IsTorn, IsUntorn}
use Rattle.loose_addresses.proofs.element.name_before.Goals as goal

Told : List ℕ → Option (List ℕ) → Type 0
Told t r = MatchOption r ((name : List ℕ) → IsPhraseName name t → IsTorn t) (λ (name : List ℕ). IsPhraseName name t × IsUntorn t)

pub returns-in-Some : goal.returns-in-Some
unfolding Told
returns-in-Some c =
    let h = subst (λ (u : Option (List ℕ)). Told c.args.before.now u) c.in-Some.is c.in_ok-name.ensures in
    Phrase c.in-Some.name h.0 h.1

pub returns-in-None : goal.returns-in-None
unfolding Told
returns-in-None c =
    let n = subst (λ (u : Option (List ℕ)). Told c.args.before.now u) c.in-None.is c.in_ok-name.ensures in
    IfOk-weaker c.name_as_it_stands.result _ _ (λ name h. subst (λ (u : Option (List ℕ)). IsNameBefore c.args.before.now u) (sym h.2) (AsItStands n h.0 h.1))
    c.name_as_it_stands.ensures
