-- The text of a state, from its parts.
use Rattle.std.proofs.Common.{◌≡◌, ℕ, List, Result, subst}
use Rattle.std.specs.Result.{IfOk}
use Rattle.jmap_arguments.specs.State.{state_text}

pub state_named : {T E : Type 0} (see : T → List ℕ) (r : Result T E) (e p epoch place : ℕ) → e ≡ epoch → p ≡ place
    → IfOk r (λ text. see text ≡ state_text (record { epoch = e; place = p })) → IfOk r (λ text. see text ≡ state_text (record { epoch = epoch; place = place }))
state_named see r e p epoch place epoch_is place_is is =
    let P : ℕ → Type 0 = λ n. IfOk r (λ text. see text ≡ state_text (record { epoch = n; place = place })) in
    let Q : ℕ → Type 0 = λ n. IfOk r (λ text. see text ≡ state_text (record { epoch = e; place = n })) in
    subst P epoch_is (subst Q place_is is)
