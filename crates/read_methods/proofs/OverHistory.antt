-- What a /get answers over the rows of a state is what it answers over each history that the state stands for.
use Rattle.std.proofs.Common.{◌≡◌, ℕ, List, Result, ◌∙◌, subst}
use Rattle.serde_json.specs.Data.{Data}
use Rattle.serde_json.specs.View.{view}
use Rattle.serde_json.specs.declared.value.Value.{Value}
use Rattle.change_list.specs.Kept.{Kept, IsOf}
use Rattle.change_list.specs.History.{entries_of}
use Rattle.change_list.proofs.HistoryLaws.{length-entries_from}
use Rattle.jmap_arguments.specs.Outcome.{Agrees}
use Rattle.jmap_arguments.specs.State.{state_text}
use Rattle.jmap_arguments.specs.declared.method_error.MethodError.{MethodError}
use Rattle.jmap_arguments.specs.declared.method_error.MethodError.TheVariants.{Memory}
use Rattle.served_maps.specs.Past.{Past, StandsFor, served, place_now}
use Rattle.mail_state.specs.History.{MailHistory}
use Rattle.served_types.specs.States.{type_state}

module _ {R V : Type 0} (serve : R → V) (rows : List (ℕ × R)) (list : Kept) where
  -- a list has the place of what it stands for
  pub place_is : (p : Past V) → IsOf list (entries_of p.touches) → list.place ≡ place_now p
  place_is p is = is.place ∙ length-entries_from _ p.touches

  -- the same rows in the same state
  pub over_history : (h : MailHistory) (p : Past V) (epoch : ℕ) (answer : List ℕ → List (ℕ × V) → Result Data MethodError) (r : Result Value MethodError)
      → epoch ≡ h.epoch → StandsFor serve rows list p
      → Agrees Memory view r (answer (state_text (record { epoch = epoch; place = list.place })) (served serve rows))
      → Agrees Memory view r (answer (type_state h p) p.now)
  over_history h p epoch answer r same stands is =
      let P : ℕ → Type 0 = λ n. Agrees Memory view r (answer (state_text (record { epoch = n; place = place_now p })) p.now) in
      let Q : ℕ → Type 0 = λ n. Agrees Memory view r (answer (state_text (record { epoch = epoch; place = n })) p.now) in
      let S : List (ℕ × V) → Type 0 = λ now. Agrees Memory view r (answer (state_text (record { epoch = epoch; place = list.place })) now) in
      subst P same (subst Q (place_is p stands.kept) (subst S stands.now is))
