use Rattle.std.proofs.Common.{ℕ, List, sym, ap, ◌∙◌, subst, Option, Some}
use Rattle.header_addresses.specs.declared.address.Address.{Address}
use Rattle.mail_maps.specs.Envelope.{IsFirstOf, first_name, first_mailbox}
use Rattle.mail_maps.specs.Envelope.IsFirstOf.{First}
use Rattle.mail_maps.proofs.header.first_in.Goals as goal

pub returns-in-None : goal.returns-in-None
returns-in-None c =
    let P : Option (List Address) → Type 0 = λ r. IsFirstOf (Some c.args.raw.now) (first_name r) in
    subst P c.in-None.is (First c.args.raw.now c.in_ok-addresses.addresses c.in_ok-addresses.ensures)

pub returns-in_ok-name-in-Some : goal.returns-in_ok-name-in-Some
returns-in_ok-name-in-Some c =
    let P : Option (List Address) → Type 0 = λ r. IsFirstOf (Some c.args.raw.now) (first_name r) in
    let Q : Option (List ℕ) → Type 0 = λ t. IsFirstOf (Some c.args.raw.now) t in
    subst Q (sym (c.in_ok-name-in-Some.ensures ∙ ap first_mailbox c.as_slice.ensures))
    (subst P c.in-Some.is (First c.args.raw.now c.in_ok-addresses.addresses c.in_ok-addresses.ensures))
