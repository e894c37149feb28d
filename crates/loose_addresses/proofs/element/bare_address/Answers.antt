use Rattle.std.proofs.Common.{ℕ, List, None, Some, sym, ◌∙◌, subst}
use Rattle.loose_addresses.specs.LooseLists.{ReadsAs, Bare, PassedOver}
use Rattle.loose_addresses.proofs.element.bare_address.Goals as goal

pub returns-in-None : goal.returns-in-None
returns-in-None c = λ n a. PassedOver n a c.in-None.ensures

pub returns-in_ok-copy_of-in-Some : goal.returns-in_ok-copy_of-in-Some
returns-in_ok-copy_of-in-Some c = λ n a.
    subst (λ (u : List ℕ). ReadsAs c.args.text.now (Some (record { name = None; email = u }))) (sym (c.in_ok-copy_of-in-Some.ensures ∙ c.in-Some.ensures.1))
    (Bare n a c.in-Some.ensures.0)
