-- What a call comes to for the client that is served.
use Rattle.std.proofs.Common.{◌≡◌, ℕ, Bool, sym, subst}
use Rattle.std.specs.Prelude.{Option, Some, IfNone, IfSome}
use Rattle.client_front.specs.Handing.{BothSo, NoneOrBothSo}

module _ {A : Type 0} (keeps here : Bool) (current : Option A) (before after : A) (same : keeps ≡ here) (is : current ≡ Some before) where
  -- where one is served, it comes to this
  pub so-of-served : (result : Option ℕ) (P : Bool → ℕ → A → A → Type 0) → IfSome result (λ n. P keeps n before after)
      → IfSome result (λ n. BothSo (P here n) current (Some after))
  so-of-served result P so =
      subst (λ (c : Option A). IfSome result (λ n. BothSo (P here n) c (Some after))) (sym is)
      (subst (λ (k : Bool). IfSome result (λ n. P k n before after)) same so)

  -- or to that
  pub nothing-of-served : (result : Option ℕ) (P : Bool → A → A → Type 0) → IfNone result (P keeps before after)
      → IfNone result (NoneOrBothSo (P here) current (Some after))
  nothing-of-served result P so =
      subst (λ (c : Option A). IfNone result (NoneOrBothSo (P here) c (Some after))) (sym is)
      (subst (λ (k : Bool). IfNone result (P k before after)) same so)
