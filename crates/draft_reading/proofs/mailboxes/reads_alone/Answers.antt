use Rattle.std.proofs.Common.{◌≡◌, ℕ, List, Option, Some, None, subst, ap, ◌∙◌}
use Rattle.header_addresses.specs.declared.address.Address.{Address}
use Rattle.header_addresses.specs.Names.{IsAddressesForm}
use Rattle.draft_reading.specs.reading.Addresses.{are_unnamed}
use Rattle.draft_reading.proofs.AddressLemmas.{none_alone, some_alone}
use Rattle.draft_reading.proofs.mailboxes.reads_alone.Goals as goal

form_of : (raw email : List ℕ) (o p : Option (List Address)) → raw ≡ email → o ≡ p → IsAddressesForm raw o → IsAddressesForm email p
form_of raw email o p e f form = subst (λ (t : List ℕ). IsAddressesForm t p) e (subst (λ (x : Option (List Address)). IsAddressesForm raw x) f form)

pub returns-in-None : goal.returns-in-None
returns-in-None c =
    let email = c.args.email.now in
    none_alone email (form_of c.as_bytes.result.now email c.in_ok-as_addresses.field-0 None c.as_bytes.ensures.value c.in-None.is c.in_ok-as_addresses.ensures)

pub returns-in-Some : goal.returns-in-Some
returns-in-Some c =
    let email = c.args.email.now in
    let list = c.in-Some.addresses in
    some_alone email list c.is_unnamed.result (form_of c.as_bytes.result.now email c.in_ok-as_addresses.field-0 (Some list) c.as_bytes.ensures.value c.in-Some.is c.in_ok-as_addresses.ensures)
    (c.is_unnamed.ensures ∙ ap (λ (x : List Address). are_unnamed x email) c.as_slice.ensures)
