-- What the answer is of which a cause is told (RFC 9051 sections 6.1.1, 6.2.3 and 6.3.1, RFC 7162 section 3.1).
use Rattle.std.specs.Prelude.{◌≡◌, ◌++◌, ◌&&◌, true, false, List, [], ◌∷◌, codes}
use Rattle.told_folder.specs.declared.exchange.Exchange.{Exchange}
use Rattle.imap_client.specs.Capabilities.{tells}
use Rattle.imap_client.specs.Connecting.{enables, is_ok}
use Rattle.imap_client.specs.Selecting.{tells_validity}
use Rattle.store_causes.specs.declared.cause.StoreCause.{StoreCause}
use Rattle.store_causes.specs.declared.cause.StoreCause.TheVariants as cause

-- A refusal is one that isn't OK; in an OK that is what the cause says.
abbrev pub IsReasonIn : StoreCause → Exchange → Type 0
IsReasonIn (cause.Refused asked) x = is_ok x.status ≡ false
IsReasonIn cause.LoginDisabled x = (is_ok x.status ≡ true) × (tells (codes "LOGINDISABLED") x ≡ true)
IsReasonIn (cause.Lacking rev2 qresync) x =
    (is_ok x.status ≡ true) × (tells (codes "IMAP4rev2") x ≡ rev2) × (tells (codes "QRESYNC") x ≡ qresync) × ((rev2 && qresync) ≡ false)
IsReasonIn cause.NotEnabled x = (is_ok x.status ≡ true) × (enables (codes "QRESYNC") x ≡ false)
IsReasonIn (cause.NoValidity name) x = (is_ok x.status ≡ true) × (tells_validity x.responses ≡ false)
IsReasonIn _ x = ⊥

-- the last of these exchanges is so
pub record AnsweredSo (exchanges : List Exchange) (c : StoreCause) : Type 0 where
  pub before : List Exchange
  pub last : Exchange
  pub is : exchanges ≡ before ++ last ∷ []
  pub reason : IsReasonIn c last
