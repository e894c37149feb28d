-- What words were read as.
use Rattle.std.proofs.Common.{◌≡◌, ◌⊎◌, ◌↔◌, ℕ, List, Result, Ok, Err, refl, sym, ◌∙◌, inl, inr}
use Rattle.std.specs.Prelude.{IfErr, IfOk, IsErrOf}
use Rattle.gate_words.specs.Task.{IsTask}
use Rattle.gate_words.specs.declared.task.Task.{Task}
use Rattle.gate_words.specs.declared.task.WordsError.{WordsError}
use Rattle.gate_words.specs.declared.task.WordsError.TheVariants.{Refused, Memory}
use Rattle.gateway.specs.ReadWords.{AreRead}

-- words are read as what reading them gives
pub are_read : (words : List (List ℕ)) (read : Result Task WordsError) → IfOk read (λ task. IsTask words task)
    → IfErr read (λ e. e ≡ Refused → (task : Task) → IsTask words task → ⊥) → AreRead words read
are_read words (Ok task) is none = is
are_read words (Err Refused) is none = none refl
are_read words (Err Memory) is none = tt

-- words that were refused are no task
pub no_task : (words : List (List ℕ)) (read : Result Task WordsError) → AreRead words read → IsErrOf read Refused → (task : Task) → IsTask words task → ⊥
no_task words (Ok task) is refused = absurd (cc refused)
no_task words (Err Refused) is refused = is
no_task words (Err Memory) is refused = absurd (cc refused)

-- words that are no task end with status 2, or memory ran out
pub ends_unread : (words : List (List ℕ)) (read : Result Task WordsError) (status : ℕ) → AreRead words read → ((task : Task) → IsTask words task → ⊥)
    → (status ≡ 2) ↔ IsErrOf read Refused → (IsErrOf read Memory → status ≡ 5) → (status ≡ 2) ⊎ (status ≡ 5)
ends_unread words (Ok task) status is none refused memory = absurd (none task is)
ends_unread words (Err Refused) status is none refused memory = inl (refused.1 refl)
ends_unread words (Err Memory) status is none refused memory = inr (memory refl)

never_two : (status : ℕ) → (status ≡ 0) ⊎ (status ≡ 5) ⊎ (status ≡ 6) ⊎ (status ≡ 8) → status ≡ 2 → ⊥
never_two status (inl done) two = cc (done, two)
never_two status (inr (inl memory)) two = cc (memory, two)
never_two status (inr (inr (inl front))) two = cc (front, two)
never_two status (inr (inr (inr store))) two = cc (store, two)

-- words that are a task aren't refused
pub not_refused : (read : Result Task WordsError) (task : Task) (status : ℕ) → read ≡ Ok task → (status ≡ 0) ⊎ (status ≡ 5) ⊎ (status ≡ 6) ⊎ (status ≡ 8)
    → (status ≡ 2) ↔ IsErrOf read Refused
not_refused read task status is ends = (
  λ two. absurd (never_two status ends two),
  λ refused. absurd (let never : Ok task ≡ Err Refused = sym is ∙ refused in cc),
)

-- words that weren't read as a task end with status 2 exactly where they were refused, else with 5
pub where_refused : (read : Result Task WordsError) (error : WordsError) (status : ℕ) → read ≡ Err error → (status ≡ 2) ↔ (error ≡ Refused)
    → (status ≡ 2) ↔ IsErrOf read Refused
where_refused read error status is both = (
  λ two. is ∙ (λ i. Err (both.0 two i)),
  λ refused. both.1 (let same : Err error ≡ Err Refused = sym is ∙ refused in cc),
)

pub where_lacking : (read : Result Task WordsError) (error : WordsError) (status : ℕ) → read ≡ Err error → (status ≡ 2) ⊎ (status ≡ 5) → (status ≡ 2) ↔ (error ≡ Refused)
    → IsErrOf read Memory → status ≡ 5
where_lacking read error status is ends both lacking =
    elim ends [
      | inl two ↦ absurd (let never : Err Refused ≡ Err Memory = sym (λ i. Err (both.0 two i)) ∙ (sym is ∙ lacking) in cc)
      | inr five ↦ five
    ]

pub never_front : (status : ℕ) → (status ≡ 2) ⊎ (status ≡ 5) → status ≡ 6 → ⊥
never_front status ends six = elim ends [ inl two ↦ cc (two, six) | inr five ↦ cc (five, six) ]

-- where words weren't read as a task, no store is checked
pub never_store : (status : ℕ) → (status ≡ 2) ⊎ (status ≡ 5) → status ≡ 8 → ⊥
never_store status ends eight = elim ends [ inl two ↦ cc (two, eight) | inr five ↦ cc (five, eight) ]

-- a task that has these statuses alone checks none
pub not_store : (status : ℕ) → (status ≡ 0) ⊎ (status ≡ 5) ⊎ (status ≡ 6) → status ≡ 8 → ⊥
not_store status (inl done) eight = cc (done, eight)
not_store status (inr (inl memory)) eight = cc (memory, eight)
not_store status (inr (inr front)) eight = cc (front, eight)
