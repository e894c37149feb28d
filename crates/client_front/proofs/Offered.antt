-- What becomes of octets that the client is to be sent.
use Rattle.std.proofs.Common.{◌≡◌, ◌≤◌, ℕ, List, inr, refl, ap, subst, arith}
use Rattle.std.specs.Prelude.{Bool, Option, true, false, take}
use Rattle.client_streams.specs.Kept.{Kept}
use Rattle.client_streams.specs.Sending.{fitting, kept_more}
use Rattle.client_front.specs.Handing.{GivesNow, Offers, Sending}

no-count : (count : ℕ) → count ≤ 0 → count ≡ 0
no-count count none = omega arith

module _ {S : Type 0} (takes : S → List ℕ → Option ℕ → S → Type 0) where
  none-given : (from : List ℕ) (count : ℕ) (old mid : Sending S) → GivesNow takes from count old mid → count ≤ 0 → GivesNow takes from 0 old mid
  none-given from count old mid now none = subst (λ (n : ℕ). GivesNow takes from n old mid) (no-count count none) now

  -- it took none of them, and as many as there is room for are kept
  pub offered-kept : (from : List ℕ) (count kept : ℕ) (old mid : Sending S) (buffer : Kept) → GivesNow takes from count old mid → count ≤ 0
      → kept ≡ fitting mid.kept from → buffer ≡ kept_more (take kept from) mid.kept → Offers takes true from kept old (record mid { kept = buffer })
  offered-kept from count kept old mid buffer now none fits put =
      inr (mid, none-given from count old mid now none, (fits, ap (λ (k : Kept). record mid { kept = k }) put))

  -- it took none of them, and none may be kept
  pub offered-none : (from : List ℕ) (count : ℕ) (old mid : Sending S) → GivesNow takes from count old mid → count ≤ 0 → Offers takes false from 0 old mid
  offered-none from count old mid now none = inr (mid, none-given from count old mid now none, (refl, refl))

  -- none of them were taken or kept
  pub none-offered : (keeps : Bool) (from : List ℕ) (count : ℕ) (old mid : Sending S) → Offers takes keeps from count old mid → count ≤ 0
      → Offers takes keeps from 0 old mid
  none-offered keeps from count old mid offered none = subst (λ (n : ℕ). Offers takes keeps from n old mid) (no-count count none) offered
