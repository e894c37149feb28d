-- Words that are read before the program does what they ask.
use Rattle.std.specs.Prelude.{ℕ, List, Result, Ok, Err}
use Rattle.gate_words.specs.Task.{IsTask}
use Rattle.gate_words.specs.declared.task.Task.{Task}
use Rattle.gate_words.specs.declared.task.WordsError.{WordsError}
use Rattle.gate_words.specs.declared.task.WordsError.TheVariants.{Refused, Memory}

-- what these words were read as: the task that they ask for, or that they ask for none; or memory ran out
abbrev pub AreRead : List (List ℕ) → Result Task WordsError → Type 0
AreRead words (Ok task) = IsTask words task
AreRead words (Err Refused) = (task : Task) → IsTask words task → ⊥
AreRead words (Err Memory) = Unit {0}
