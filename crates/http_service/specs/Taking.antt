-- How octets of the client are taken: what is due after those that were taken, and when more were asked for.
use Rattle.std.specs.Prelude.{◌≡◌, ◌≢◌, ◌⊎◌, ◌<◌, ◌≤◌, ◌++◌, ℕ, max, List, [], ◌∷◌, length, take, All}
use Rattle.httparse.specs.Ascii.{line_feed, carriage_return}
use Rattle.httparse.specs.Grammar.{LineEnd, print_end}
use Rattle.gate_world.specs.declared.event.Event.{Event}
use Rattle.gate_world.specs.declared.event.Event.TheVariants.{ClientGave, ClientEnded, FrontFailed}
use Rattle.gate_world.specs.Octets.{Asks}
use Rattle.http_service.specs.declared.lines.TheConstants.{MAX_HEAD_OCTETS}
use Rattle.http_service.specs.declared.error.HttpError.{HttpError}
use Rattle.http_service.specs.declared.error.HttpError.TheVariants.{BadHead, HeadTooLarge, TooLarge, Short, FrontFault, Memory}

-- lines that are read whole: those of a head, the one before a chunk's data, those of a trailer section
pub data Lines : Type 0 where
  HeadLines : Lines
  ChunkLine : Lines
  TrailerLines : Lines

-- CR or LF
abbrev pub IsOfLineEnd : ℕ → Type 0
IsOfLineEnd c = (c ≡ carriage_return) ⊎ (c ≡ line_feed)

-- The octets have the line end that ends such lines, whatever the lines say: of a head an empty line after one that isn't
-- empty (RFC 9112 section 2.2), of a chunk's line its LF, of a trailer section its empty line (section 7.1.2).
abbrev pub HaveEnd : Lines → List ℕ → Type 0
HaveEnd HeadLines octets =
    (blank : List ℕ) × (first : ℕ) × (text : List ℕ) × (last : LineEnd) × (rest : List ℕ) × All IsOfLineEnd blank
    × (first ≢ carriage_return) × (first ≢ line_feed) × (octets ≡ blank ++ ((first ∷ text) ++ ((line_feed ∷ print_end last) ++ rest)))
HaveEnd ChunkLine octets = (text : List ℕ) × (rest : List ℕ) × (octets ≡ text ++ (line_feed ∷ rest))
HaveEnd TrailerLines octets =
    ((last : LineEnd) × (rest : List ℕ) × (octets ≡ print_end last ++ rest))
    ⊎ ((text : List ℕ) × (last : LineEnd) × (rest : List ℕ) × (octets ≡ text ++ ((line_feed ∷ print_end last) ++ rest)))

-- the first octets, as many as such lines may have
abbrev pub window : List ℕ → List ℕ
window octets = take MAX_HEAD_OCTETS octets

-- what is due after the octets that were taken: nothing more, n octets, or lines of at most `MAX_HEAD_OCTETS`
pub data Due : Type 0 where
  Nothing : Due
  Octets : ℕ → Due
  LinesOf : Lines → Due

-- these octets aren't all of it yet
abbrev pub IsMissing : Due → List ℕ → Type 0
IsMissing Nothing octets = ⊥
IsMissing (Octets size) octets = length octets < size
IsMissing (LinesOf lines) octets = (HaveEnd lines octets → ⊥) × (length octets < MAX_HEAD_OCTETS)

-- the most octets that may stand there, where some were asked for
abbrev pub most : Due → ℕ
most Nothing = MAX_HEAD_OCTETS
most (Octets size) = max size MAX_HEAD_OCTETS
most (LinesOf lines) = MAX_HEAD_OCTETS

-- Where the client gave octets: before the last of them came, the text wasn't whole, or all that is due after it was missing.
abbrev pub WereMissing : Due → List ℕ → List ℕ → List Event → Type 0
WereMissing due text before events =
    (events ≡ [])
    ⊎ ((earlier : List Event) × (held : List ℕ) × (piece : List ℕ) × (events ≡ earlier ++ ClientGave piece ∷ []) × Asks held earlier
    × ((length (before ++ held) < length text) ⊎ ((stood : List ℕ) × (before ++ held ≡ text ++ stood) × IsMissing due stood)))

-- The client gave octets. Those and the ones that stood there before are this text and what stands there after. None were
-- asked for that weren't missing, and not many more.
pub record Takes (due : Due) (text before after : List ℕ) (events : List Event) : Type 0 where
  pub gave : List ℕ
  pub asks : Asks gave events
  pub octets : before ++ gave ≡ text ++ after
  pub missing : WereMissing due text before events
  pub few : (events ≡ []) ⊎ (length after ≤ most due)

-- the client ended its input where this was missing
abbrev pub EndedInside : Due → List ℕ → List Event → List Event → Type 0
EndedInside due rest events earlier = (events ≡ earlier ++ ClientEnded ∷ []) × IsMissing due rest

-- What came after these events, where this error did. Octets are malformed once all that is due has come, or where the
-- client ended its input before.
abbrev pub EndsBy : HttpError → Due → List ℕ → List Event → List Event → Type 0
EndsBy BadHead due rest events earlier = ((events ≡ earlier) × (IsMissing due rest → ⊥)) ⊎ EndedInside due rest events earlier
EndsBy HeadTooLarge due rest events earlier = events ≡ earlier
EndsBy (TooLarge limit) due rest events earlier = events ≡ earlier
EndsBy Short due rest events earlier = EndedInside due rest events earlier
EndsBy FrontFault due rest events earlier = (events ≡ earlier ++ FrontFailed ∷ []) × IsMissing due rest
EndsBy Memory due rest events earlier = (events ≡ earlier) ⊎ EndedInside due rest events earlier

-- A text was taken, and then this error came, for which there is a cause in what was taken, what was due and what stands there.
abbrev pub Breaks : (Due → List ℕ → List ℕ → HttpError → Type 0) → List ℕ → List ℕ → HttpError → List Event → Type 0
Breaks Cause before after e events =
    (due : Due) × (text : List ℕ) × (earlier : List Event) × Takes due text before after earlier × EndsBy e due after events earlier × Cause due text after e
