-- How what was touched is found in the last touches of a type.
use Rattle.std.proofs.Common.{◌≡◌, ◌≢◌, ◌<◌, ◌≤◌, ◌^◌, arith, ℕ, List, Bool, refl, ap, subst}
use Rattle.change_list.specs.Kept.{Kept, IsOf, IsKeptPlace, front_of}
use Rattle.change_list.specs.TouchedIds.{AreTouched}
use Rattle.change_list.specs.Touches.{AreTouches}
use Rattle.change_list.specs.declared.entries.Entry.{Entry}
use Rattle.change_list.specs.declared.list.TheConstants.{MAX_PLACE}
use Rattle.jmap_arguments.specs.State.{state_text}
use Rattle.jmap_arguments.specs.declared.method_error.MethodError.TheVariants.{CannotCalculateChanges}
use Rattle.jmap_arguments.specs.declared.state.State.{State}
use Rattle.query_changes.specs.reading.Found.{FindsNone, TouchedSince}

abbrev text_of : ℕ → ℕ → List ℕ
text_of epoch place = state_text (record { epoch = epoch; place = place })

module _ (epoch : ℕ) (k : Kept) (since : List ℕ) where
  -- the text is that of no state of the epoch
  pub nothing : k.place ≤ MAX_PLACE → ((p : ℕ) → p < 2 ^ 64 → since ≢ text_of epoch p) → FindsNone epoch k since CannotCalculateChanges
  nothing small none = record { error = refl; none = λ p named. none p (omega (arith, small, named.to_last)) named.text_is }

  -- it is that of a place that isn't kept
  pub outside : (place : ℕ) → k.place ≤ MAX_PLACE → ((p : ℕ) → p < 2 ^ 64 → since ≡ text_of epoch p → p ≡ place) → (IsKeptPlace k place → ⊥)
      → FindsNone epoch k since CannotCalculateChanges
  outside place small one out = record {
    error = refl;
    none = λ p named.
        let same : p ≡ place = one p (omega (arith, small, named.to_last)) named.text_is in
        let K : ℕ → Type 0 = λ n. IsKeptPlace k n in
        out (subst K same (record { from_front = named.from_front; to_last = named.to_last }));
  }

  -- a place below the front isn't kept
  pub before : (place front : ℕ) → (front ≡ front_of k.place) × (place < front) → IsKeptPlace k place → ⊥
  before place front is there = absurd (omega (arith, is.0, is.1, there.from_front))

  -- nor is one past the last place
  pub past : (place last : ℕ) → (last ≡ k.place) × (last < place) → IsKeptPlace k place → ⊥
  past place last is there = absurd (omega (arith, is.0, is.1, there.to_last))

  -- it is that of a place that is kept
  pub in_kept : (place now : ℕ) (touched : List (ℕ × Bool)) → since ≡ text_of epoch place → IsKeptPlace k place → now ≡ k.place
      → ((h : List Entry) → IsOf k h → AreTouches h → AreTouched h place touched) → TouchedSince epoch k since (record { epoch = epoch; place = now }) touched
  in_kept place now touched is there last touches = record {
    place = place;
    named = record { text_is = is; from_front = there.from_front; to_last = there.to_last };
    is_last = let state : ℕ → State = λ n. record { epoch = epoch; place = n } in ap state last;
    are_touched = touches;
  }
