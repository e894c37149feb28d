-- Lists of addresses at a key.
use Rattle.std.proofs.Common.{◌≡◌, ℕ, List, Option, Some, None, Vec, Global, map, refl, sym, ap, ◌∙◌}
use Rattle.std.specs.Prelude.{is_some, option_map, option_and_then, IfSome, IfNone}
use Rattle.serde_json.specs.Data.{Data, null, boolean, number, string, array, object, Members}
use Rattle.serde_json.specs.Find.{get_member}
use Rattle.mail_drafts.specs.declared.mailbox.Mailbox.{Mailbox}
use Rattle.draft_reading.specs.Mailboxes.{named_in, said, AreAddresses}
use Rattle.draft_reading.specs.Properties.{AreSomeAddresses, OrNull}
use Rattle.draft_reading.specs.Readings.{list_at}
use Rattle.draft_reading.specs.Values.{filled, list_in}
use Rattle.draft_reading.specs.reading.Addresses.{AreNoAddresses}

module _ {X : Type 0} where
  pub some_mapped : {Y : Type 0} (f : X → Y) (o : Option X) → is_some (option_map f o) ≡ is_some o
  some_mapped f None = refl
  some_mapped f (Some x) = refl

-- a value that is null, or addresses, is read as these
addresses_read : (d : Data) (o : Option (Vec Mailbox Global)) → OrNull AreSomeAddresses d → IfSome o (λ v. AreAddresses d (map said v.items)) → IfNone o (AreNoAddresses d)
    → option_map (λ v. map said v.items) o ≡ list_in named_in d
addresses_read d (Some v) given some none = sym some.typed
addresses_read null None given some none = refl
addresses_read (boolean b) None given some none = absurd (none given.0 given.1)
addresses_read (number n) None given some none = absurd (none given.0 given.1)
addresses_read (string s) None given some none = absurd (none given.0 given.1)
addresses_read (array ds) None given some none = absurd (none given.0 given.1)
addresses_read (object ms) None given some none = absurd (none given.0 given.1)

-- the addresses at a key
pub addresses_at : (all : Members) (key : List ℕ) (d : Data) (o : Option (Vec Mailbox Global)) → get_member key all ≡ Some d → OrNull AreSomeAddresses d
    → IfSome o (λ v. AreAddresses d (map said v.items)) → IfNone o (AreNoAddresses d) → filled (option_map (λ v. map said v.items) o) ≡ list_at named_in all key
addresses_at all key d o is given some none =
    ap filled (addresses_read d o given some none ∙ ap (λ (m : Option Data). option_and_then (list_in named_in) m) (sym is))
