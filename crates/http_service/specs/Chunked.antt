-- A chunked body (RFC 9112 section 7.1).
use Rattle.std.specs.Prelude.{◌≡◌, ◌<◌, ◌≤◌, ◌-◌, ◌++◌, ℕ, List, length, All, sum_by}
use Rattle.std.specs.List.{flat_map}
use Rattle.httparse.specs.Ascii.{crlf_bytes}
use Rattle.httparse.specs.Grammar.{ChunkLine, IsChunkLine, print_chunk_line, chunk_size, Field, IsField, LineEnd, print_section}
use Rattle.http_service.specs.declared.chunks.TheConstants.{FREE_LINE_OCTETS, MAX_EXCESS_OCTETS}
use Rattle.http_service.specs.declared.lines.TheConstants.{MAX_HEAD_OCTETS}

-- chunk-size [ chunk-ext ] CRLF, of at most `MAX_HEAD_OCTETS`, and the size that it says
abbrev pub IsLine : List ℕ → ℕ → Type 0
IsLine text size = (l : ChunkLine) × IsChunkLine l × (text ≡ print_chunk_line l) × (size ≡ chunk_size l) × (length text ≤ MAX_HEAD_OCTETS)

-- trailer-section CRLF, of at most `MAX_HEAD_OCTETS`
abbrev pub IsTrailer : List ℕ → Type 0
IsTrailer text = (fields : List Field) × (last : LineEnd) × All IsField fields × (text ≡ print_section fields last) × (length text ≤ MAX_HEAD_OCTETS)

-- a chunk: the text of its line, and its data
pub record Chunk : Type 0 where
  pub line : List ℕ
  pub data_octets : List ℕ

-- the line says the size, which isn't 0
pub record IsChunk (c : Chunk) : Type 0 where
  pub line : IsLine c.line (length c.data_octets)
  pub some : 0 < length c.data_octets

abbrev pub data_of : Chunk → List ℕ
data_of c = c.data_octets

-- chunk = chunk-size [ chunk-ext ] CRLF chunk-data CRLF
abbrev pub chunk_text : Chunk → List ℕ
chunk_text c = c.line ++ (c.data_octets ++ crlf_bytes)

abbrev pub texts_of : List Chunk → List ℕ
texts_of chunks = flat_map chunk_text chunks

-- the data of the chunks
abbrev pub content : List Chunk → List ℕ
content chunks = flat_map data_of chunks

-- the octets that a chunk's line has beyond `FREE_LINE_OCTETS`
abbrev pub excess : List ℕ → ℕ
excess line = length line - FREE_LINE_OCTETS

-- the same of the lines of all chunks
abbrev pub excess_of : List Chunk → ℕ
excess_of chunks = sum_by (λ c. excess c.line) chunks

-- chunked-body = *chunk last-chunk trailer-section CRLF, where the chunks' lines aren't too long taken together
pub record IsChunked (body text : List ℕ) : Type 0 where
  pub chunks : List Chunk
  pub last : List ℕ
  pub trailer : List ℕ
  pub are_chunks : All IsChunk chunks
  pub few : excess_of chunks ≤ MAX_EXCESS_OCTETS
  pub is_last : IsLine last 0
  pub is_trailer : IsTrailer trailer
  pub whole : text ≡ texts_of chunks ++ (last ++ trailer)
  pub body_is : body ≡ content chunks
