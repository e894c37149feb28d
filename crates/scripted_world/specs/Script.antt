-- What each call plays of a script.
use Rattle.std.specs.Prelude.{◌≡◌, ◌⊎◌, ◌+◌, ◌-◌, ◌^◌, ◌<◌, ◌==◌, ◌&&◌, ◌||◌, ℕ, ℤ, pos, Bool, true, false, List, [], ◌∷◌, ◌++◌, length, take, drop, min, max, nat_lt, nat_le}
use Rattle.std.specs.Prelude.{Option, Some, None, IsSome, Result, Ok, Err, All, Vec}
use Rattle.std.specs.declared.alloc.Global.{Global}
use Rattle.std.specs.List.{list_any}
use Rattle.scripted_world.specs.declared.left.Left.{Left}
use Rattle.gate_world.specs.declared.outside.Failed.{Failed}
use Rattle.gate_world.specs.declared.outside.KeepError.{KeepError}
use Rattle.gate_world.specs.declared.outside.KeepError.TheVariants as keeping
use Rattle.scripted_world.specs.declared.script.Fail.{Fail}
use Rattle.scripted_world.specs.declared.script.Script.{Script}
use Rattle.gate_world.specs.Causes.{Faults, Hidden, no_faults}
use Rattle.gate_world.specs.declared.event.Event.{Event}
use Rattle.gate_world.specs.Pieces.{Gives, octets_of, without}

-- A script without links, clients, words and secrets, in which no call fails and a read gives as much as is asked for.
abbrev pub plain : Script
plain = record { links = []; clients = []; batches = []; moments = []; words = []; fails = []; stop_at = 0; piece = 2 ^ 64 - 1; password = []; token = [] }

-- nothing of the script is played
abbrev pub unplayed : Script → Left
unplayed script = record { script = script; link = None; client = None; calls = 0 }

-- what a script keeps to itself
abbrev pub secrets : Script → Hidden
secrets script = record { password = script.password; token = script.token }

-- A world that follows a script: the events so far, where they are told, how often its parts failed, and what is left of the script.
pub record Scripted : Type 0 where
  pub tape : Option (List Event)
  pub faults : Faults
  pub hidden : Hidden
  pub left : Left

-- a world before its first call
abbrev pub begun : Script → Scripted
begun script = record { tape = Some []; faults = no_faults; hidden = secrets script; left = unplayed script }

-- the number of the next call that can fail, from 1 on; the last number stays
abbrev pub next_call : Left → ℕ
next_call left = min (left.calls + 1) (2 ^ 64 - 1)

-- the next call that can fail is one of those that fail, or the world has stopped by then
abbrev pub is_next_to_fail : Left → Bool
is_next_to_fail left =
    (nat_lt 0 left.script.stop_at && nat_le left.script.stop_at (next_call left)) || list_any (λ (fail : Fail). fail.call == next_call left) left.script.fails

-- one more call that can fail was made
abbrev pub counted : Left → Left
counted left = record left { calls = next_call left }

-- the first text, and no octets where there is none
abbrev pub first_text : List (List ℕ) → List ℕ
first_text [] = []
first_text (text ∷ _) = text

-- the next link life began; past those of the script, one that gives nothing
abbrev pub dialed : Left → Left
dialed left = record left { link = Some (first_text left.script.links); script = record left.script { links = drop 1 left.script.links } }

-- the link life ended
abbrev pub ended : Left → Left
ended left = record left { link = None }

-- the store gave octets of the link life
abbrev pub read_on : ℕ → Left → Left
read_on count left = record left { link = without count left.link }

-- one client more comes, after the others
abbrev pub with_client : Left → List ℕ → Left
with_client left octets = record left { script = record left.script { clients = left.script.clients ++ octets ∷ [] } }

-- the next client came
abbrev pub accepted : Left → Left
accepted left = record left { client = Some (first_text left.script.clients); script = record left.script { clients = drop 1 left.script.clients } }

-- the client gave octets
abbrev pub received_on : ℕ → Left → Left
received_on count left = record left { client = without count left.client }

-- the next random word; none is 0
abbrev pub next_word : List ℕ → ℕ
next_word [] = 0
next_word (word ∷ _) = word

-- the words after it: the last one stays
abbrev pub later_words : List ℕ → List ℕ
later_words [] = []
later_words (word ∷ []) = word ∷ []
later_words (_ ∷ word ∷ words) = word ∷ words

-- the clock's next moment; none is 0
abbrev pub next_moment : List ℤ → ℤ
next_moment [] = pos 0
next_moment (moment ∷ _) = moment

-- the moments after it: the last one stays
abbrev pub later_moments : List ℤ → List ℤ
later_moments [] = []
later_moments (moment ∷ []) = moment ∷ []
later_moments (_ ∷ moment ∷ moments) = moment ∷ moments

-- the clock was asked
abbrev pub asked_clock : Left → Left
asked_clock left = record left { script = record left.script { moments = later_moments left.script.moments } }

-- a word was drawn
abbrev pub drawn : Left → Left
drawn left = record left { script = record left.script { words = later_words left.script.words } }

-- A dial begins the next link life. One that fails ends the link life and uses up none.
abbrev pub DialPlays : Left → Left → Result (Unit {0}) Failed → Type 0
DialPlays before after (Ok _) = (is_next_to_fail before ≡ false) × (after ≡ dialed (counted before))
DialPlays before after (Err _) = (is_next_to_fail before ≡ true) × (after ≡ ended (counted before))

-- A read gives the next octets of the link life. It fails where it is to, where there is no link life, and past its last octet.
abbrev pub ReadPlays : List ℕ → Left → Left → Result ℕ Failed → Type 0
ReadPlays room before after (Ok count) =
    (is_next_to_fail before ≡ false) × Gives before.script.piece (octets_of before.link) room count × (after ≡ read_on count (counted before))
ReadPlays room before after (Err _) = ((is_next_to_fail before ≡ true) ⊎ (octets_of before.link ≡ [])) × (after ≡ ended (counted before))

-- A write takes all octets. It fails where it is to, and where there is no link life.
abbrev pub WritePlays : List ℕ → Left → Left → Result ℕ Failed → Type 0
WritePlays octets before after (Ok count) = (is_next_to_fail before ≡ false) × IsSome before.link × (count ≡ length octets) × (after ≡ counted before)
WritePlays octets before after (Err _) = ((is_next_to_fail before ≡ true) ⊎ (before.link ≡ None)) × (after ≡ ended (counted before))

-- an accept gives the next client, where there is one
abbrev pub AcceptPlays : Left → Left → Result Bool Failed → Type 0
AcceptPlays before after (Ok true) = (is_next_to_fail before ≡ false) × (0 < length before.script.clients) × (after ≡ accepted (counted before))
AcceptPlays before after (Ok false) = (is_next_to_fail before ≡ false) × (before.script.clients ≡ []) × (after ≡ counted before)
AcceptPlays before after (Err _) = (is_next_to_fail before ≡ true) × (after ≡ counted before)

-- a recv gives the next octets of the client, and none past its last
abbrev pub RecvPlays : List ℕ → Left → Left → Result ℕ Failed → Type 0
RecvPlays room before after (Ok count) =
    (is_next_to_fail before ≡ false) × Gives before.script.piece (octets_of before.client) room count × (after ≡ received_on count (counted before))
RecvPlays room before after (Err _) = (is_next_to_fail before ≡ true) × (after ≡ counted before)

-- a send takes all octets
abbrev pub SendPlays : List ℕ → Left → Left → Result ℕ Failed → Type 0
SendPlays octets before after (Ok count) = (is_next_to_fail before ≡ false) × (count ≡ length octets) × (after ≡ counted before)
SendPlays octets before after (Err _) = (is_next_to_fail before ≡ true) × (after ≡ counted before)

-- a text is said
abbrev pub SayPlays : Left → Left → Result (Unit {0}) Failed → Type 0
SayPlays before after (Ok _) = (is_next_to_fail before ≡ false) × (after ≡ counted before)
SayPlays before after (Err _) = (is_next_to_fail before ≡ true) × (after ≡ counted before)

-- the batches that are kept, in the order in which they were appended
abbrev pub held : Left → List (List ℕ)
held left = left.script.batches

-- one batch more is kept, after the others
abbrev pub with_batch : List ℕ → Left → Left
with_batch batch left = record left { script = record left.script { batches = held left ++ batch ∷ [] } }

-- the next call keeps its batch, where it is an append that fails
abbrev pub is_next_kept : Left → Bool
is_next_kept left = list_any (λ (fail : Fail). (fail.call == next_call left) && fail.kept) left.script.fails

-- A load gives the batches that are held, or memory is wanting for them. It fails where it is to.
abbrev pub LoadPlays : Left → Left → Result (Vec (List ℕ) Global) KeepError → Type 0
LoadPlays before after (Ok batches) = (is_next_to_fail before ≡ false) × (batches.items ≡ held before) × (after ≡ counted before)
LoadPlays before after (Err keeping.Failed) = (is_next_to_fail before ≡ true) × (after ≡ counted before)
LoadPlays before after (Err keeping.Memory) = (is_next_to_fail before ≡ false) × (after ≡ counted before)

-- The batch is held after the others. Or memory is wanting for it: it isn't held, and the tape is told no longer.
abbrev pub Keeps : List ℕ → Left → Left → Option (List Event) → Type 0
Keeps batch before after tape = (after ≡ with_batch batch before) ⊎ ((after ≡ before) × (tape ≡ None))

-- the same where the batch is to be kept; else none is held that wasn't
abbrev pub KeepsWhere : Bool → List ℕ → Left → Left → Option (List Event) → Type 0
KeepsWhere true batch before after tape = Keeps batch before after tape
KeepsWhere false batch before after tape = after ≡ before

-- An append keeps its batch. It fails where it is to, and keeps its batch then where the script says so. The tape is the one after it.
abbrev pub AppendPlays : List ℕ → Left → Left → Option (List Event) → Result (Unit {0}) Failed → Type 0
AppendPlays batch before after tape (Ok _) = (is_next_to_fail before ≡ false) × Keeps batch (counted before) after tape
AppendPlays batch before after tape (Err _) = (is_next_to_fail before ≡ true) × KeepsWhere (is_next_kept before) batch (counted before) after tape

-- Where no call fails, a read gives the next octets of the link life, and octets 0 past its last one or where there is none.
abbrev pub SteadyReadPlays : List ℕ → Left → Left → ℕ → Type 0
SteadyReadPlays room before after count =
    ((0 < length (octets_of before.link)) × Gives before.script.piece (octets_of before.link) room count × (after ≡ read_on count before))
    ⊎ ((octets_of before.link ≡ []) × (count ≡ min (max before.script.piece 1) (length room)) × All (λ octet. octet ≡ 0) (take count room) × (after ≡ before))

-- where no call fails, an accept gives the next client, where there is one
abbrev pub SteadyAcceptPlays : Left → Left → Bool → Type 0
SteadyAcceptPlays before after true = (0 < length before.script.clients) × (after ≡ accepted before)
SteadyAcceptPlays before after false = (before.script.clients ≡ []) × (after ≡ before)

-- where no call fails, a load gives the batches that are held, or memory is wanting for them
abbrev pub SteadyLoadPlays : Left → Left → Result (Vec (List ℕ) Global) KeepError → Type 0
SteadyLoadPlays before after (Ok batches) = (batches.items ≡ held before) × (after ≡ before)
SteadyLoadPlays before after (Err keeping.Failed) = ⊥
SteadyLoadPlays before after (Err keeping.Memory) = after ≡ before
