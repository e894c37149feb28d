-- A life in which a client connected: what it asked, and that the capabilities count that the store told once the client was let in.
use Rattle.std.specs.Prelude.{◌≡◌, ◌++◌, ℕ, Bool, true, false, List, [], ◌∷◌, codes, Ok}
use Rattle.imap_types.specs.declared.command.Command.TheVariants as command
use Rattle.told_folder.specs.declared.exchange.Exchange.{Exchange}
use Rattle.imap_client.specs.Capabilities.{tells}
use Rattle.imap_client.specs.Connecting.{greeting_says}
use Rattle.imap_client.specs.LinkLife.{LinkLife, special_use}

-- LOGIN is asked unless the greeting was PREAUTH
abbrev pub LogsIn : List ℕ → List ℕ → Bool → List Exchange → Type 0
LogsIn user password true xs = xs ≡ []
LogsIn user password false xs = (x : Exchange) × (xs ≡ x ∷ []) × (x.command ≡ command.Login user password)

-- CAPABILITY, LOGIN unless the greeting was PREAUTH, CAPABILITY and ENABLE were asked. Special uses are asked from then on where the second
-- CAPABILITY told SPECIAL-USE (RFC 6154 section 2).
pub record IsConnected (user password : List ℕ) (life : LinkLife) : Type 0 where
  pub preauth : Bool
  pub first : Exchange
  pub login : List Exchange
  pub second : Exchange
  pub enabling : Exchange
  pub says : greeting_says life.greeting ≡ Ok preauth
  pub exchanges_are : life.exchanges ≡ first ∷ (login ++ second ∷ enabling ∷ [])
  pub first_is : first.command ≡ command.Capability
  pub login_is : LogsIn user password preauth login
  pub second_is : second.command ≡ command.Capability
  pub enabling_is : enabling.command ≡ command.Enable
  pub second_counts : special_use life ≡ tells (codes "SPECIAL-USE") second
