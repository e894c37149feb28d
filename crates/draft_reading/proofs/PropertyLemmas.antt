-- Whether a property may have a value.
use Rattle.std.proofs.Common.{◌≡◌, Bool, true, false, Option, Some, None, Result, IfOk, Vec, Global, map, IsTrue, sym, ◌∙◌, subst}
use Rattle.std.specs.Prelude.{◌↔◌, is_some, IfSome, IfNone}
use Rattle.std.specs.declared.alloc.AllocError.{AllocError}
use Rattle.serde_json.specs.Data.{Data, Members}
use Rattle.mail_drafts.specs.declared.mailbox.Mailbox.{Mailbox}
use Rattle.draft_reading.specs.Mailboxes.{AreAddresses, said}
use Rattle.draft_reading.specs.Properties.{AreSomeAddresses, Allows}
use Rattle.draft_reading.specs.declared.property.Property.{Property}
use Rattle.draft_reading.specs.reading.Addresses.{AreNoAddresses}

-- one truth value is another
pub same_truth : (b x : Bool) → b ≡ x → IsTrue b ↔ IsTrue x
same_truth b x is = (λ (e : b ≡ true). sym is ∙ e, λ (e : x ≡ true). is ∙ e)

-- addresses are read or not
pub addresses_or_not : (d : Data) (o : Option (Vec Mailbox Global)) (b : Bool) → IfSome o (λ v. AreAddresses d (map said v.items)) → IfNone o (AreNoAddresses d) → b ≡ is_some o
    → IsTrue b ↔ AreSomeAddresses d
addresses_or_not d None b some none is = (λ (e : b ≡ true). let f : false ≡ true = sym is ∙ e in absurd (cc), λ a. absurd (none a.0 a.1))
addresses_or_not d (Some v) b some none is = (λ (e : b ≡ true). (map said v.items, some), λ a. is)

-- the same property
pub of_property : (all : Members) (p q : Property) (d : Data) (r : Result Bool AllocError) → p ≡ q → IfOk r (λ (b : Bool). IsTrue b ↔ Allows all q d)
    → IfOk r (λ (b : Bool). IsTrue b ↔ Allows all p d)
of_property all p q d r e h = subst (λ (x : Property). IfOk r (λ (b : Bool). IsTrue b ↔ Allows all x d)) (sym e) h
