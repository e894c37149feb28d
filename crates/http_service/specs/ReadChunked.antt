-- What reading a chunked body adds to the tape, and where it leaves the octets that came.
use Rattle.std.specs.Prelude.{◌≡◌, ◌≢◌, ◌<◌, ◌≤◌, ◌⊎◌, ◌+◌, ◌++◌, ℕ, List, [], ◌∷◌, length, All, Result, Ok, Err}
use Rattle.httparse.specs.Ascii.{carriage_return, line_feed}
use Rattle.httparse.specs.Grammar.{HasNoChunkLine, NeverHasChunkLine, MayBecomeChunkLine, HasNoSection, NeverHasSection, MayBecomeSection}
use Rattle.gate_world.specs.declared.event.Event.{Event}
use Rattle.http_service.specs.declared.chunks.TheConstants.{MAX_EXCESS_OCTETS}
use Rattle.http_service.specs.declared.lines.TheConstants.{MAX_HEAD_OCTETS}
use Rattle.http_service.specs.declared.error.HttpError.{HttpError}
use Rattle.http_service.specs.declared.error.HttpError.TheVariants.{BadHead, TooLarge, Short, FrontFault, Memory}
use Rattle.http_service.specs.Taking.{Due, Nothing, Octets, LinesOf, ChunkLine, TrailerLines, Takes, Breaks, window}
use Rattle.http_service.specs.Chunked.{Chunk, IsChunk, IsLine, IsTrailer, IsChunked, texts_of, content, excess, excess_of}

-- whatever follows, no chunk's line of at most `MAX_HEAD_OCTETS` begins the octets
abbrev pub BeginNoLine : List ℕ → Type 0
BeginNoLine octets = NeverHasChunkLine (window octets) ⊎ (HasNoChunkLine (window octets) × (MAX_HEAD_OCTETS ≤ length octets))

-- why a chunk's line isn't read of these octets
abbrev pub LineStops : Due → List ℕ → HttpError → Type 0
LineStops due octets BadHead = (due ≡ LinesOf ChunkLine) × BeginNoLine octets
LineStops due octets Short = (due ≡ LinesOf ChunkLine) × HasNoChunkLine octets × MayBecomeChunkLine octets
LineStops due octets FrontFault = due ≡ LinesOf ChunkLine
LineStops due octets Memory = due ≡ LinesOf ChunkLine
LineStops due octets _ = ⊥

-- whatever follows, no trailer section of at most `MAX_HEAD_OCTETS` begins the octets
abbrev pub BeginNoTrailer : List ℕ → Type 0
BeginNoTrailer octets = NeverHasSection (window octets) ⊎ (HasNoSection (window octets) × (MAX_HEAD_OCTETS ≤ length octets))

-- why a trailer section isn't read of these octets
abbrev pub TrailerStops : Due → List ℕ → HttpError → Type 0
TrailerStops due octets BadHead = (due ≡ LinesOf TrailerLines) × BeginNoTrailer octets
TrailerStops due octets Short = (due ≡ LinesOf TrailerLines) × HasNoSection octets × MayBecomeSection octets
TrailerStops due octets FrontFault = due ≡ LinesOf TrailerLines
TrailerStops due octets Memory = due ≡ LinesOf TrailerLines
TrailerStops due octets _ = ⊥

-- why an octet that is due isn't read of these octets
abbrev pub OctetStops : ℕ → Due → List ℕ → HttpError → Type 0
OctetStops octet due octets BadHead = (due ≡ Octets 1) × (c : ℕ) × (more : List ℕ) × (octets ≡ c ∷ more) × (c ≢ octet)
OctetStops octet due octets Short = due ≡ Octets 1
OctetStops octet due octets FrontFault = due ≡ Octets 1
OctetStops octet due octets Memory = due ≡ Octets 1
OctetStops octet due octets _ = ⊥

-- why n octets of data aren't read
abbrev pub DataStops : ℕ → Due → HttpError → Type 0
DataStops size due Short = due ≡ Octets size
DataStops size due FrontFault = due ≡ Octets size
DataStops size due Memory = due ≡ Octets size
DataStops size due _ = ⊥

-- Why a chunk's data of n octets and the line end after it aren't read, where this was read of them.
pub data ChunkStops (size : ℕ) (due : Due) (started rest : List ℕ) (e : HttpError) : Type 0 where
  InData : started ≡ [] → DataStops size due e → ChunkStops size due started rest e
  AtReturn : length started ≡ size → OctetStops carriage_return due rest e → ChunkStops size due started rest e
  AtFeed : (octets : List ℕ) → started ≡ octets ++ carriage_return ∷ [] → length octets ≡ size → OctetStops line_feed due rest e
      → ChunkStops size due started rest e

-- The line of a chunk after these ones. Neither the lines nor the data pass what they may have.
pub record BeginsChunk (limit : ℕ) (chunks : List Chunk) (line : List ℕ) (size : ℕ) : Type 0 where
  pub said : IsLine line size
  pub some : 0 < size
  pub few : excess_of chunks + excess line ≤ MAX_EXCESS_OCTETS
  pub fits : length (content chunks) + size ≤ limit

-- a body's end: last-chunk trailer-section CRLF
pub record EndsBody (text : List ℕ) : Type 0 where
  pub last : List ℕ
  pub trailer : List ℕ
  pub whole : text ≡ last ++ trailer
  pub is_last : IsLine last 0
  pub is_trailer : IsTrailer trailer

-- Why a body isn't read after these whole chunks, where this was read after them. At a chunk's line it is seen first whether
-- the lines are too long taken together, and then whether the data would pass the limit.
pub data BodyStops (limit : ℕ) (chunks : List Chunk) (due : Due) (started rest : List ℕ) (e : HttpError) : Type 0 where
  AtLine : started ≡ [] → LineStops due rest e → BodyStops limit chunks due started rest e
  AtExcess : (size : ℕ) → IsLine started size → 0 < size → MAX_EXCESS_OCTETS < excess_of chunks + excess started → due ≡ Nothing → e ≡ BadHead
      → BodyStops limit chunks due started rest e
  AtLimit : (size : ℕ) → IsLine started size → excess_of chunks + excess started ≤ MAX_EXCESS_OCTETS → limit < length (content chunks) + size
      → due ≡ Nothing → e ≡ TooLarge limit → BodyStops limit chunks due started rest e
  InChunk : (line more : List ℕ) (size : ℕ) → started ≡ line ++ more → BeginsChunk limit chunks line size → ChunkStops size due more rest e
      → BodyStops limit chunks due started rest e
  AtTrailer : IsLine started 0 → TrailerStops due rest e → BodyStops limit chunks due started rest e
  AtEnd : EndsBody started → due ≡ Nothing → e ≡ Memory → BodyStops limit chunks due started rest e

-- the same, in all that was read
abbrev pub ChunksStop : ℕ → Due → List ℕ → List ℕ → HttpError → Type 0
ChunksStop limit due text rest e =
    (chunks : List Chunk) × (started : List ℕ) × All IsChunk chunks × (text ≡ texts_of chunks ++ started) × (length (content chunks) ≤ limit)
    × (excess_of chunks ≤ MAX_EXCESS_OCTETS) × BodyStops limit chunks due started rest e

-- what reading a chunked body of at most `limit` octets adds
abbrev pub ReadsChunks : ℕ → List ℕ → List ℕ → Result (List ℕ) HttpError → List Event → Type 0
ReadsChunks limit before after (Ok body) events = (text : List ℕ) × Takes Nothing text before after events × IsChunked body text × (length body ≤ limit)
ReadsChunks limit before after (Err e) events = Breaks (ChunksStop limit) before after e events
