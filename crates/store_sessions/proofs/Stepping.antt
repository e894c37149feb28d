-- A step of a session.
use Rattle.std.proofs.Common.{◌≡◌, ℕ, ◌+◌, ◌<◌, ◌≤◌, List, ◌∷◌, length, drop, take, Result, Err, sym, ap, subst, ◌∙◌, arith, length-append, length-drop, length-take}
use Rattle.std.proofs.lemmas.List.{length-map}
use Rattle.imap_types.specs.declared.command.Command.{Command}
use Rattle.imap_types.specs.Texts.{plain_octets, plain_of}
use Rattle.gate_world.specs.declared.event.Event.{Event}
use Rattle.gate_world.specs.declared.outside.Failed.{Failed as OutsideFailed}
use Rattle.gate_world.specs.Sending.{Sends}
use Rattle.honest_store.specs.Sessions.{StoreSession}
use Rattle.store_commands.specs.Answers.{IsCommand}
use Rattle.store_sessions.specs.declared.next.Next.TheVariants as next
use Rattle.store_sessions.specs.declared.next.SessionError.TheVariants.{Failed}
use Rattle.store_sessions.specs.declared.turn.Turn.{Turn}
use Rattle.store_sessions.specs.declared.turn.Turn.TheVariants as turns
use Rattle.store_sessions.specs.Turns.{Turns, Answered, octets_read, octets_told}
use Rattle.store_sessions.specs.Sessions.{Steps, Told, next_of, over_front}

-- what is read once is told, and what stands behind it is left
pub step_told : {s t : StoreSession} {u v w told : List ℕ} {n : ℕ} {events : List Event} (taken : Turn) (sent : Result (Unit {0}) OutsideFailed) → v ≡ u
    → told ≡ octets_told taken → n ≡ octets_read taken → w ≡ drop n u → Turns s v t taken → Sends told sent events
    → Steps s u t w (over_front (next_of taken) sent) events
step_told {s} {t} {u} {v} {w} {told} {n} {events} taken sent same tells reads rest turned sends =
    let here : Steps s u t (drop (octets_read taken) u) (over_front (next_of taken) sent) events = Told taken sent (subst (λ (x : List ℕ). Turns s x t taken) same turned)
    (subst (λ (x : List ℕ). Sends x sent events) tells sends) in
    subst (λ (x : List ℕ). Steps s u t x (over_front (next_of taken) sent) events) (sym (rest ∙ ap (λ (m : ℕ). drop m u) reads)) here

-- the front failed before all of that was told
pub step_failed : {s t : StoreSession} {u v w told : List ℕ} {n : ℕ} {events : List Event} (taken : Turn) (failed : OutsideFailed) → v ≡ u
    → told ≡ octets_told taken → n ≡ octets_read taken → w ≡ drop n u → Turns s v t taken → Sends told (Err failed) events → Steps s u t w (Err Failed) events
step_failed taken failed same tells reads rest turned sends = step_told taken (Err failed) same tells reads rest turned sends

-- a command has octets
command_long : (tag : List ℕ) (command : Command) (b : List ℕ) → IsCommand tag command b → 0 < length b
command_long tag command b is =
    let long : length is.text ≡ length tag + length (32 ∷ is.reads.rest) = ap length is.reads.whole ∙ length-append tag (32 ∷ is.reads.rest) in
    let same : length (plain_octets is.text) ≡ length b = ap length is.octets in
    omega (arith, long, same, length-map is.text plain_of)

some_read : {s t : StoreSession} {u : List ℕ} (taken : Turn) → Turns s u t taken → next_of taken ≡ next.Read → (0 < octets_read taken) × (octets_read taken ≤ length u)
some_read {u = u} (turns.Answer n octets) (Answered {tag} {command} {count} stands answers is) read =
    let some : 0 < length (take count u) = command_long tag command (take count u) stands.1 in
    (omega (arith, some, length-take count u, is.0), omega (arith, stands.0, is.0))
some_read turns.GoAhead turned read = absurd (cc)
some_read turns.Wait turned read = absurd (cc)
some_read turns.End turned read = absurd (cc)

-- behind a command less stands unread
pub step_shorter : {s t : StoreSession} {u v w : List ℕ} {n : ℕ} (taken : Turn) → v ≡ u → n ≡ octets_read taken → w ≡ drop n u → Turns s v t taken
    → next_of taken ≡ next.Read → length w < length u
step_shorter {s} {t} {u} {v} {w} {n} taken same reads rest turned read =
    let some = some_read taken (subst (λ (x : List ℕ). Turns s x t taken) same turned) read in
    omega (arith, some.0, some.1, reads, ap length rest, length-drop n u)
