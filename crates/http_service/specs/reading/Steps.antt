-- What the steps of reading add to the tape.
use Rattle.std.specs.Prelude.{◌≡◌, ◌≢◌, ◌<◌, ◌≤◌, ◌⊎◌, ◌++◌, ℕ, Bool, true, false, List, [], ◌∷◌, length, Result, Ok, Err, ⊤}
use Rattle.httparse.specs.Ascii.{crlf_bytes}
use Rattle.gate_world.specs.declared.event.Event.{Event}
use Rattle.gate_world.specs.declared.event.Event.TheVariants.{ClientGave, ClientEnded, FrontFailed}
use Rattle.http_service.specs.declared.lines.TheConstants.{MAX_HEAD_OCTETS}
use Rattle.http_service.specs.declared.lines.Lines.{Lines}
use Rattle.http_service.specs.declared.lines.Place.TheVariants.{Ended}
use Rattle.http_service.specs.declared.line_reading.Stop.{Stop}
use Rattle.http_service.specs.declared.line_reading.Stop.TheVariants as stop
use Rattle.http_service.specs.declared.error.HttpError.{HttpError}
use Rattle.http_service.specs.declared.error.HttpError.TheVariants.{FrontFault, Memory}
use Rattle.http_service.specs.Taking.{Due, Nothing, Octets, LinesOf, Takes, EndsBy, EndedInside, IsMissing, Breaks, window}
use Rattle.http_service.specs.Chunked.{IsLine, IsTrailer}
use Rattle.http_service.specs.ReadChunked.{LineStops, TrailerStops, OctetStops, DataStops, ChunkStops}
use Rattle.http_service.specs.ReadBody.{Continues, NotContinued}
use Rattle.http_service.specs.reading.LineEnds.{lines_of, start, run}

-- one call of the client
abbrev pub Fills : List ℕ → List ℕ → Result Bool HttpError → List Event → Type 0
Fills before after (Ok true) events = (piece : List ℕ) × (events ≡ ClientGave piece ∷ []) × (after ≡ before ++ piece)
Fills before after (Ok false) events = (events ≡ ClientEnded ∷ []) × (after ≡ before)
Fills before after (Err FrontFault) events = (events ≡ FrontFailed ∷ []) × (after ≡ before)
Fills before after (Err Memory) events = (events ≡ []) × (after ≡ before)
Fills before after (Err _) events = ⊥

-- n octets more, at most
abbrev pub Grows : List ℕ → List ℕ → ℕ → Result Bool HttpError → Type 0
Grows before after most (Ok true) = (piece : List ℕ) × (after ≡ before ++ piece) × (0 < length piece) × (length piece ≤ most)
Grows before after most (Ok false) = after ≡ before
Grows before after most (Err _) = after ≡ before

-- where reading lines stopped: at their last line end, at the most octets that they may have, or at the end of the input
abbrev pub IsStopped : Lines → Stop → List ℕ → Type 0
IsStopped lines stop.Ended rest = run (start lines) (window rest) ≡ Ended
IsStopped lines stop.Full rest = (run (start lines) (window rest) ≢ Ended) × (MAX_HEAD_OCTETS ≤ length rest)
IsStopped lines stop.Closed rest = IsMissing (LinesOf (lines_of lines)) rest

abbrev pub StopsAt : Lines → Stop → List ℕ → List Event → List Event → Type 0
StopsAt lines stop.Ended rest events earlier = events ≡ earlier
StopsAt lines stop.Full rest events earlier = events ≡ earlier
StopsAt lines stop.Closed rest events earlier = EndedInside (LinesOf (lines_of lines)) rest events earlier

-- only the front and memory fail
abbrev pub IsOutside : HttpError → Type 0
IsOutside FrontFault = ⊤
IsOutside Memory = ⊤
IsOutside _ = ⊥

-- lines stand at the front, as far as their last line end, or as far as they may be read
abbrev pub ReadsLines : Lines → List ℕ → List ℕ → Result Stop HttpError → List Event → Type 0
ReadsLines lines before after (Ok at) events = (earlier : List Event) × Takes (LinesOf (lines_of lines)) [] before after earlier
    × StopsAt lines at after events earlier
ReadsLines lines before after (Err e) events = (earlier : List Event) × Takes (LinesOf (lines_of lines)) [] before after earlier
    × EndsBy e (LinesOf (lines_of lines)) after events earlier × IsOutside e

abbrev pub NoLine : Due → List ℕ → List ℕ → HttpError → Type 0
NoLine due text rest e = (text ≡ []) × LineStops due rest e

abbrev pub ReadsLine : List ℕ → List ℕ → Result (ℕ × ℕ) HttpError → List Event → Type 0
ReadsLine before after (Ok (count, size)) events = (text : List ℕ) × Takes Nothing text before after events × IsLine text size × (count ≡ length text)
ReadsLine before after (Err e) events = Breaks NoLine before after e events

abbrev pub NoTrailer : Due → List ℕ → List ℕ → HttpError → Type 0
NoTrailer due text rest e = (text ≡ []) × TrailerStops due rest e

abbrev pub ReadsTrailer : List ℕ → List ℕ → Result (Unit {0}) HttpError → List Event → Type 0
ReadsTrailer before after (Ok _) events = (text : List ℕ) × Takes Nothing text before after events × IsTrailer text
ReadsTrailer before after (Err e) events = Breaks NoTrailer before after e events

-- n octets stand there, and no more of them than that were asked for
abbrev pub FillsTo : ℕ → List ℕ → List ℕ → Result (Unit {0}) HttpError → List Event → Type 0
FillsTo size before after (Ok _) events = Takes (Octets size) [] before after events × (size ≤ length after) × ((events ≡ []) ⊎ (length after ≤ size))
FillsTo size before after (Err e) events = (earlier : List Event) × Takes (Octets size) [] before after earlier × EndsBy e (Octets size) after events earlier
    × DataStops size (Octets size) e

abbrev pub NoOctet : ℕ → Due → List ℕ → List ℕ → HttpError → Type 0
NoOctet octet due text rest e = (text ≡ []) × OctetStops octet due rest e

abbrev pub ReadsOctet : ℕ → List ℕ → List ℕ → Result (Unit {0}) HttpError → List Event → Type 0
ReadsOctet octet before after (Ok _) events = Takes Nothing (octet ∷ []) before after events
ReadsOctet octet before after (Err e) events = Breaks (NoOctet octet) before after e events

abbrev pub NoData : ℕ → Due → List ℕ → List ℕ → HttpError → Type 0
NoData size due text rest e = (text ≡ []) × DataStops size due e

-- the data stands after what was kept before
abbrev pub ReadsData : ℕ → List ℕ → List ℕ → List ℕ → List ℕ → Result (Unit {0}) HttpError → List Event → Type 0
ReadsData size kept keeps before after (Ok _) events = (octets : List ℕ) × Takes Nothing octets before after events × (length octets ≡ size)
    × (keeps ≡ kept ++ octets)
ReadsData size kept keeps before after (Err e) events = Breaks (NoData size) before after e events

-- the same, and the line end after it
abbrev pub ReadsChunk : ℕ → List ℕ → List ℕ → List ℕ → List ℕ → Result (Unit {0}) HttpError → List Event → Type 0
ReadsChunk size kept keeps before after (Ok _) events = (octets : List ℕ) × Takes Nothing (octets ++ crlf_bytes) before after events × (length octets ≡ size)
    × (keeps ≡ kept ++ octets)
ReadsChunk size kept keeps before after (Err e) events = Breaks (ChunkStops size) before after e events

-- the client is told to go on, where it waits for that
abbrev pub AsksOn : Bool → Result (Unit {0}) HttpError → List Event → Type 0
AsksOn expects (Ok _) events = Continues expects events
AsksOn expects (Err e) events = (e ≡ FrontFault) × NotContinued expects events
