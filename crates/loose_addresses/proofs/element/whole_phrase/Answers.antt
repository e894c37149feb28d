use Rattle.std.proofs.Common.{ℕ, List, Option, Some, None, MatchOption}
use Rattle.std.proofs.lemmas.Result.{IfOk-weaker}
use Rattle.header_addresses.specs.Parts.{IsPhraseName}
use Rattle.header_addresses.proofs.PartLemmas.{NameTold}
use Rattle.loose_addresses.specs.Torn.{IsTorn, IsUntorn}
use Rattle.loose_addresses.proofs.TornLemmas.{torn_there, torn_nowhere}
use Rattle.loose_addresses.proofs.element.whole_phrase.Goals as goal

told : (t : List ℕ) (r : Option (List ℕ)) → IsUntorn t → NameTold t r
    → MatchOption r ((name : List ℕ) → IsPhraseName name t → IsTorn t) (λ (name : List ℕ). IsPhraseName name t × IsUntorn t)
told t None u n = λ name p. absurd (n name p)
told t (Some name) u p = (p, u)

pub returns-then-branch : goal.returns-then-branch
returns-then-branch c = λ name p. torn_there c.in_ok-is_torn.field-0 c.args.before.now c.in_ok-is_torn.ensures c.if-branch.true

pub returns : goal.returns
returns c = IfOk-weaker c.name_of_phrase.result _ _ (λ r h. told c.args.before.now r (torn_nowhere c.in_ok-is_torn.field-0 c.args.before.now c.in_ok-is_torn.ensures c.if-branch.false) h) c.name_of_phrase.ensures
