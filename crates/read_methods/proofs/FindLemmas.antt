-- How what changed is found in the last touches of a type, and answered.
use Rattle.std.proofs.Common.{◌≡◌, ◌≢◌, ◌⊎◌, inl, inr, ◌<◌, ◌≤◌, ◌^◌, arith, ℕ, List, Result, Ok, Err, refl, ap, ◌∙◌, subst}
use Rattle.serde_json.specs.Data.{Data, Members, object}
use Rattle.change_list.specs.Changes.{IsChanges}
use Rattle.change_list.specs.Kept.{Kept, IsOf, IsKeptPlace, front_of}
use Rattle.change_list.specs.Touches.{AreTouches}
use Rattle.change_list.specs.declared.answer.Changes.{Changes}
use Rattle.change_list.specs.declared.entries.Entry.{Entry}
use Rattle.change_list.specs.declared.list.TheConstants.{MAX_PLACE}
use Rattle.jmap_arguments.specs.State.{state_text}
use Rattle.jmap_arguments.specs.declared.method_error.MethodError.{MethodError}
use Rattle.jmap_arguments.specs.declared.method_error.MethodError.TheVariants.{Memory, CannotCalculateChanges}
use Rattle.jmap_arguments.specs.declared.state.State.{State}
use Rattle.read_methods.specs.Changes.{ChangesAsked, changes_asked, changes_members, Further}
use Rattle.read_methods.specs.reading.Found.{Finds, Refuses, NamesNothing, InKept, AnswersFound}

abbrev text_of : ℕ → ℕ → List ℕ
text_of epoch place = state_text (record { epoch = epoch; place = place })

-- ---- what is found

module _ (epoch : ℕ) (k : Kept) (d : Data) where
  -- a refusal by the arguments
  pub refuses : (e : MethodError) → changes_asked d ≡ Err e → (e ≡ Memory) ⊎ Finds epoch k d (Err e)
  refuses e is = inr (Refuses e is)

  -- the text is that of no state of the epoch
  pub nothing : (asked : ChangesAsked) → changes_asked d ≡ Ok asked → k.place ≤ MAX_PLACE → ((p : ℕ) → p < 2 ^ 64 → asked.since ≢ text_of epoch p)
      → Finds epoch k d (Err CannotCalculateChanges)
  nothing asked is small none = NamesNothing asked is (λ p named. none p (omega (arith, small, named.to_last)) named.text_is)

  -- it is that of a place that isn't kept
  pub outside : (asked : ChangesAsked) (place : ℕ) → changes_asked d ≡ Ok asked → k.place ≤ MAX_PLACE → ((p : ℕ) → p < 2 ^ 64 → asked.since ≡ text_of epoch p → p ≡ place)
      → (IsKeptPlace k place → ⊥) → Finds epoch k d (Err CannotCalculateChanges)
  outside asked place is small one out = NamesNothing asked is (λ p named.
      let same : p ≡ place = one p (omega (arith, small, named.to_last)) named.text_is in
      let K : ℕ → Type 0 = λ n. IsKeptPlace k n in
      out (subst K same (record { from_front = named.from_front; to_last = named.to_last })))

  -- a place below the front isn't kept
  pub before : (place front : ℕ) → (front ≡ front_of k.place) × (place < front) → IsKeptPlace k place → ⊥
  before place front is there = absurd (omega (arith, is.0, is.1, there.from_front))

  -- nor is one past the last place
  pub past : (place last : ℕ) → (last ≡ k.place) × (last < place) → IsKeptPlace k place → ⊥
  past place last is there = absurd (omega (arith, is.0, is.1, there.to_last))

  -- it is that of a place that is kept
  pub in_kept : (asked : ChangesAsked) (place : ℕ) (c : Changes) → changes_asked d ≡ Ok asked → asked.since ≡ text_of epoch place → IsKeptPlace k place
      → ((h : List Entry) → IsOf k h → AreTouches h → IsChanges h place asked.most c) → Finds epoch k d (Ok (record { since = asked.since; changes = c }))
  in_kept asked place c is text_is there changes = InKept asked c is (record {
    place = place;
    named = record { text_is = text_is; from_front = there.from_front; to_last = there.to_last };
    changes = changes;
  })

-- ---- what is answered

module _ (letter epoch now : ℕ) (k kept : Kept) (further : Further) (d : Data) (same : epoch ≡ now) (same_list : k ≡ kept) where
  moved : (r : Result Data MethodError) → AnswersFound letter epoch k further d r → AnswersFound letter now kept further d r
  moved r a =
      let N : ℕ → Type 0 = λ n. AnswersFound letter n kept further d r in
      let K : Kept → Type 0 = λ l. AnswersFound letter epoch l further d r in
      subst N same (subst K same_list a)

  -- what isn't found is refused
  pub passes : (e : MethodError) → (e ≡ Memory) ⊎ Finds epoch k d (Err e) → (e ≡ Memory) ⊎ AnswersFound letter now kept further d (Err e)
  passes e (inl memory) = inl memory
  passes e (inr finds) = inr (moved (Err e) (record { found = Err e; finds = finds; reply = refl }))

  -- what is found is answered
  pub replies : (since : List ℕ) (c : Changes) (last : State) (ms : Members) → Finds epoch k d (Ok (record { since = since; changes = c }))
      → last ≡ record { epoch = epoch; place = k.place } → ms ≡ changes_members letter last.epoch last.place since c (further c)
      → AnswersFound letter now kept further d (Ok (object ms))
  replies since c last ms finds last_is is =
      let reply_in : State → Result Data MethodError = λ s. Ok (object (changes_members letter s.epoch s.place since c (further c))) in
      moved (Ok (object ms)) (record {
        found = Ok (record { since = since; changes = c });
        finds = finds;
        reply = ap (λ (m : Members). let r : Result Data MethodError = Ok (object m) in r) is ∙ ap reply_in last_is;
      })
