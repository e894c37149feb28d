-- Octets that obey a plan.
use Rattle.std.specs.Prelude.{◌≡◌, ◌++◌, ◌+◌, ℕ, List, [], ◌∷◌, Option}
use Rattle.told_folder.specs.declared.exchange.Exchange.{Exchange}
use Rattle.imap_exchange.specs.Exchanges.{Done, VerdictOf}
use Rattle.imap_exchange.specs.Answering.{selected_by}
use Rattle.imap_client.specs.declared.plan.Due.TheVariants as due
use Rattle.imap_client.specs.Plans.{Planned}

-- the command that is due after these exchanges, of this number while this folder is selected, is answered at the octets' front
pub record NextAnswer (plan : Planned) (heard : List Exchange) (number : ℕ) (folder : Option (List ℕ)) (octets : List ℕ) : Type 0 where
  pub exchange : Exchange
  pub rest : List ℕ
  pub asked : plan heard ≡ due.Send exchange.command
  pub selected_is : exchange.selected ≡ folder
  pub verdict : VerdictOf number exchange.command octets (Done exchange.responses exchange.status exchange.code rest)

-- The octets obey the plan, of which these exchanges are completed: the next command, of this number while this folder is
-- selected, is answered at their front, and so on up to where all is done.
pub data Obeys (plan : Planned) : List Exchange → ℕ → Option (List ℕ) → List ℕ → Type 0 where
  AllDone : {heard : List Exchange} {number : ℕ} {folder : Option (List ℕ)} {octets : List ℕ} → plan heard ≡ due.Done → Obeys plan heard number folder octets
  Answered : {heard : List Exchange} {number : ℕ} {folder : Option (List ℕ)} {octets : List ℕ} (next : NextAnswer plan heard number folder octets)
      → Obeys plan (heard ++ next.exchange ∷ []) (number + 1) (selected_by next.exchange.command next.exchange.status folder) next.rest
      → Obeys plan heard number folder octets
