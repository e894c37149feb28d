-- What a client has taken that is served to its end, beside all that it gave.
use Rattle.std.specs.Prelude.{◌≡◌, ◌⊎◌, ℕ, List, [], ◌∷◌, ◌++◌, drop}
use Rattle.std.specs.List.{flat_map}
use Rattle.gate_world.specs.Octets.{client_gave_in, client_took_in}
use Rattle.gate_world.specs.declared.event.Event.{Event}
use Rattle.imap_types.specs.declared.command.Command.{Command}
use Rattle.honest_store.specs.Sessions.{StoreAnswer, StoreSession}
use Rattle.small_answers.specs.Answers.{AnswersCommand, unselected}
use Rattle.small_responses.specs.AnswerTexts.{text_of_answer}
use Rattle.store_commands.specs.Answers.{IsReadAs}
use Rattle.store_commands.specs.declared.command_read.CommandRead.TheVariants.{Whole, NeedMore, WantsLiteral, Bad}
use Rattle.store_sessions.specs.Sessions.{greeting}
use Rattle.store_sessions.specs.Turns.{go_ahead, no_command}

-- The commands that octets are, one after another, the answer to each, the session after them, and what stands behind the last.
pub data AnswersEach : StoreSession → List ℕ → List (List ℕ) → StoreSession → List ℕ → Type 0 where
  NoneMore : {s : StoreSession} {rest : List ℕ} → AnswersEach s rest [] s rest
  OneMore : {s t u : StoreSession} {octets tag rest : List ℕ} {command : Command} {count : ℕ} {a : StoreAnswer} {answers : List (List ℕ)}
      → IsReadAs octets (Whole count tag command) → AnswersCommand s command a t → AnswersEach t (drop count octets) answers u rest
      → AnswersEach s octets (text_of_answer tag a ∷ answers) u rest

-- these texts in order, with `+ go` perhaps between them
pub data InOrder : List (List ℕ) → List ℕ → Type 0 where
  Nothing : InOrder [] []
  Text : {texts : List (List ℕ)} {octets : List ℕ} (text : List ℕ) → InOrder texts octets → InOrder (text ∷ texts) (text ++ octets)
  Asked : {texts : List (List ℕ)} {octets : List ℕ} → InOrder texts octets → InOrder texts (go_ahead ++ octets)

-- no whole command stands there: one begins so, and nothing is told; or none does, and that is told
abbrev pub EndsWith : List ℕ → List ℕ → Type 0
EndsWith rest told = ((IsReadAs rest NeedMore ⊎ IsReadAs rest WantsLiteral) × (told ≡ [])) ⊎ (((at : ℕ) × IsReadAs rest (Bad at)) × (told ≡ no_command))

-- The client took the greeting, the answer to each command that its octets are, and what is told of the rest.
pub record IsAnswered (s : StoreSession) (events : List Event) (t : StoreSession) : Type 0 where
  pub answers : List (List ℕ)
  pub rest : List ℕ
  pub told : List ℕ
  pub last : List ℕ
  pub each : AnswersEach (unselected s) (flat_map client_gave_in events) answers t rest
  pub order : InOrder (greeting ∷ answers) told
  pub ends : EndsWith rest last
  pub took : flat_map client_took_in events ≡ told ++ last
