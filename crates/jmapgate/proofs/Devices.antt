-- Words ask for one task.
use Rattle.std.proofs.Common.{◌≡◌, ◌∙◌, ℕ, List, [], Option, Some, None, Result, Ok, Err, inl, inr, ap, refl, subst, sym}
use Rattle.std.specs.Prelude.{IfOk}
use Rattle.std.specs.declared.alloc.AllocError.{AllocError}
use Rattle.gate_words.specs.Task.{IsTask}
use Rattle.gate_words.specs.declared.task.Task.{Task}
use Rattle.gate_words.specs.declared.task.WordsError.{WordsError}
use Rattle.gate_words.specs.declared.task.WordsError.TheVariants.{Refused}
use Rattle.gate_words.proofs.Tasks.{same-task}
use Rattle.gateway.specs.ReadWords.{AreRead}
use Rattle.jmapgate.specs.Devices.{store_in, store_text, listening_in, NamesStore, NamesListener}
use Rattle.jmapgate.specs.declared.Listening.{Listening}
use Rattle.jmapgate.specs.declared.Listening.TheVariants.{Nobody}

-- words that were read as a task ask for it
asks : (words : List (List ℕ)) (read : Result Task WordsError) (task : Task) → read ≡ Ok task → AreRead words read → IsTask words task
asks words read task is are = subst (λ (r : Result Task WordsError). AreRead words r) is are

-- words that were refused ask for none
asks_none : (words : List (List ℕ)) (read : Result Task WordsError) → read ≡ Err Refused → AreRead words read → (task : Task) → IsTask words task → ⊥
asks_none words read is are = subst (λ (r : Result Task WordsError). AreRead words r) is are

-- the store of words is that of their one task, and no text where that has none
task_named : (words : List (List ℕ)) (task : Task) (text : List ℕ) (store : Option (List ℕ)) → IsTask words task → store_in task ≡ store → text ≡ store_text store
    → NamesStore words text
task_named words task text (Some store) is has text_is = inl (task, is, has ∙ ap Some (sym text_is))
task_named words task text None is has text_is = inr ((λ other asked. ap store_in (same-task words other task asked is) ∙ has), text_is)

pub names_store : (read : Result Task WordsError) (task : Task) → read ≡ Ok task → (store : Result (List ℕ) AllocError) → IfOk store (λ text. text ≡ store_text (store_in task))
    → IfOk store (λ text. (words : List (List ℕ)) → AreRead words read → NamesStore words text)
names_store read task is (Ok text) text_is = λ words are. task_named words task text (store_in task) (asks words read task is are) refl text_is
names_store read task is (Err e) text_is = tt

-- words that were refused name no store
pub names_no_store : (read : Result Task WordsError) (text : List ℕ) → read ≡ Err Refused → text ≡ [] → (words : List (List ℕ)) → AreRead words read → NamesStore words text
names_no_store read text is empty = λ words are. inr ((λ task asked. absurd (asks_none words read is are task asked)), empty)

-- whom the words' one task listens for
pub listens : (read : Result Task WordsError) (task : Task) → read ≡ Ok task → (came : Result Listening AllocError) → IfOk came (λ listening. listening ≡ listening_in task)
    → IfOk came (λ listening. (words : List (List ℕ)) → AreRead words read → NamesListener words listening)
listens read task is (Ok listening) listening_is = λ words are. inl (task, asks words read task is are, sym listening_is)
listens read task is (Err e) listening_is = tt

-- words that were refused listen for nobody
pub listens_not : (read : Result Task WordsError) → read ≡ Err Refused → (words : List (List ℕ)) → AreRead words read → NamesListener words Nobody
listens_not read is = λ words are. inr (asks_none words read is are, refl)
