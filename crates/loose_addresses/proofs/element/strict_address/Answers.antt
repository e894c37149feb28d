use Rattle.std.proofs.Common.{ℕ, List, Option, Some, None, MatchOption}
use Rattle.std.proofs.lemmas.Result.{IfOk-weaker}
use Rattle.header_addresses.specs.declared.address.Address.{Address}
use Rattle.header_addresses.specs.Parts.{IsOneAddress}
use Rattle.header_addresses.proofs.PartLemmas.{OneTold}
use Rattle.loose_addresses.specs.LooseLists.{NotStrict}
use Rattle.loose_addresses.specs.Torn.{IsUntorn}
use Rattle.loose_addresses.proofs.TornLemmas.{torn_there, torn_nowhere}
use Rattle.loose_addresses.proofs.element.strict_address.Goals as goal

told : (t : List ℕ) (r : Option Address) → IsUntorn t → OneTold t r → MatchOption r (NotStrict t) (λ (a : Address). IsOneAddress a t × IsUntorn t)
told t None u n = λ a o. absurd (n a o)
told t (Some a) u o = (o, u)

pub returns-then-branch : goal.returns-then-branch
returns-then-branch c = λ a o. torn_there c.in_ok-is_torn.field-0 c.args.text.now c.in_ok-is_torn.ensures c.if-branch.true

pub returns : goal.returns
returns c = IfOk-weaker c.one_address.result _ _ (λ r h. told c.args.text.now r (torn_nowhere c.in_ok-is_torn.field-0 c.args.text.now c.in_ok-is_torn.ensures c.if-branch.false) h) c.one_address.ensures
