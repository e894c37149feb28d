-- The devices that words ask for.
use Rattle.std.specs.Prelude.{◌≡◌, ◌⊎◌, ℕ, List, [], Option, Some, None}
use Rattle.gate_words.specs.Task.{IsTask}
use Rattle.gate_words.specs.declared.task.Task.{Task}
use Rattle.gate_words.specs.declared.task.Task.TheVariants.{Serve, Once, Show, Store, Check, Explain}
use Rattle.jmapgate.specs.declared.Listening.{Listening}
use Rattle.jmapgate.specs.declared.Listening.TheVariants.{Requests, Sessions, Nobody}

-- the store that a task dials, where it dials one
abbrev pub store_in : Task → Option (List ℕ)
store_in (Serve place listen connections) = Some place.store
store_in (Once place) = Some place.store
store_in Show = None
store_in (Store listen connections) = None
store_in (Check store user) = Some store
store_in (Explain page) = None

-- its text: none where there is no store
abbrev pub store_text : Option (List ℕ) → List ℕ
store_text (Some store) = store
store_text None = []

-- whom a task listens for
abbrev pub listening_in : Task → Listening
listening_in (Serve place listen connections) = Requests listen
listening_in (Once place) = Nobody
listening_in Show = Nobody
listening_in (Store listen connections) = Sessions listen
listening_in (Check store user) = Nobody
listening_in (Explain page) = Nobody

-- the words ask for no task of which this is something
abbrev pub AsksForNone : (Task → Option (List ℕ)) → List (List ℕ) → Type 0
AsksForNone part words = (task : Task) → IsTask words task → part task ≡ None

-- the store of the task that the words ask for, or no text where they ask for none that has a store
abbrev pub NamesStore : List (List ℕ) → List ℕ → Type 0
NamesStore words store =
    ((task : Task) × IsTask words task × (store_in task ≡ Some store)) ⊎ (AsksForNone store_in words × (store ≡ []))

-- whom the task that the words ask for listens for, and nobody where they ask for none
abbrev pub NamesListener : List (List ℕ) → Listening → Type 0
NamesListener words listening =
    ((task : Task) × IsTask words task × (listening_in task ≡ listening)) ⊎ (((task : Task) → IsTask words task → ⊥) × (listening ≡ Nobody))
