-- Reading a chunked body, step by step.
use Rattle.std.proofs.Common.{◌≡◌, ◌≢◌, ◌<◌, ◌≤◌, ◌+◌, ◌-◌, ◌++◌, ℕ, List, [], ◌∷◌, length, take, drop, refl, sym, ap, ◌∙◌, subst, arith, append_assoc, length-append, length-take}
use Rattle.std.proofs.Common.{take-append-drop, ◌⊎◌, inl, inr, Ok, Err, Result, All}
use Rattle.std.proofs.lemmas.List.{append-nil}
use Rattle.std.proofs.lemmas.List.Concat.{flat_map-append}
use Rattle.std.proofs.lemmas.List.Elements.{All-append, All-cons, All-nil}
use Rattle.gate_world.specs.declared.event.Event.{Event}
use Rattle.http_service.specs.declared.error.HttpError.{HttpError}
use Rattle.http_service.specs.declared.error.HttpError.TheVariants as error
use Rattle.http_service.specs.Taking.{Nothing, Takes, Breaks}
use Rattle.http_service.specs.declared.chunks.TheConstants.{FREE_LINE_OCTETS, MAX_EXCESS_OCTETS}
use Rattle.http_service.specs.Chunked.{Chunk, IsChunk, IsLine, data_of, chunk_text, texts_of, content, excess, excess_of}
use Rattle.std.proofs.lemmas.List.Sums.{sum_by_push}
use Rattle.http_service.specs.ReadChunked.{ChunkStops, AtReturn, AtFeed, AtLine, AtExcess, AtLimit, InChunk, AtTrailer, AtEnd, ChunksStop, ReadsChunks}
use Rattle.http_service.specs.ReadBody.{ReadsLength}
use Rattle.http_service.specs.reading.Steps.{FillsTo, NoLine, NoTrailer, NoOctet, ReadsLine, ReadsTrailer, ReadsOctet, ReadsData, ReadsChunk}
use Rattle.http_service.proofs.TakingLemmas.{then_takes, then_breaks, octets_taken}

-- enough octets stand there: their front is taken
pub front_taken : {before now : List ℕ} {es : List Event} (size : ℕ) (after : List ℕ) → FillsTo size before now (Ok tt) es → after ≡ drop size now
    → Takes Nothing (take size now) before after es × (length (take size now) ≡ size) × ((es ≡ []) ⊎ (after ≡ []))
front_taken {before} {now} {es} size after (takes, enough, few) rest =
    let long : length (take size now) ≡ size = omega (arith, length-take size now, enough) in
    let whole : now ≡ take size now ++ after = sym (take-append-drop size now) ∙ ap (λ (l : List ℕ). take size now ++ l) (sym rest) in
    (octets_taken size (take size now) after takes whole long, long, left whole long few)
  where
    empty : (l : List ℕ) → length l ≡ 0 → l ≡ []
    empty [] is = refl
    empty (c ∷ l) is = absurd (omega (arith, is))

    left : now ≡ take size now ++ after → length (take size now) ≡ size → (es ≡ []) ⊎ (length now ≤ size) → (es ≡ []) ⊎ (after ≡ [])
    left whole long (inl none) = inl none
    left whole long (inr few) = inr (empty after (omega (arith, few, ap length whole, length-append (take size now) after, long)))

-- memory ran out after it was taken
pub length_memory : {before now : List ℕ} (es : List Event) (size : ℕ) (after : List ℕ) → FillsTo size before now (Ok tt) es → after ≡ drop size now
    → ReadsLength size before after (Err error.Memory) es
length_memory {now = now} es size after fills rest =
    let front = front_taken size after fills rest in
    (Nothing, take size now, es, front.0, inl refl, inr (front.1, refl, refl))

-- enough octets stand there: the first of them are the body of the length
pub length_read : {before now : List ℕ} (es : List Event) (size : ℕ) (after body : List ℕ) → FillsTo size before now (Ok tt) es → after ≡ drop size now → body ≡ take size now
    → ReadsLength size before after (Ok body) es
length_read {before} {now} es size after body fills rest is =
    let front = front_taken size after fills rest in
    (subst (λ (l : List ℕ). Takes Nothing l before after es) (sym is) front.0, ap length is ∙ front.1, front.2)

-- the data was read, but not the CR after it
pub return_stops : {a b c octets : List ℕ} {xs : List Event} {e : HttpError} (ys : List Event) (size : ℕ) → Takes Nothing octets a b xs → length octets ≡ size
    → Breaks (NoOctet 13) b c e ys → Breaks (ChunkStops size) a c e (xs ++ ys)
return_stops {octets = octets} ys size takes long breaks =
    then_breaks ys (NoOctet 13) (ChunkStops size) takes breaks (λ due text so. AtReturn (ap length (ap (λ (l : List ℕ). octets ++ l) so.0 ∙ append-nil octets) ∙ long) so.1)

-- the data and the CR after it were read
abbrev pub Returned : ℕ → List ℕ → List ℕ → List ℕ → List ℕ → List Event → Type 0
Returned size kept keeps before after events =
    (octets : List ℕ) × Takes Nothing (octets ++ 13 ∷ []) before after events × (length octets ≡ size) × (keeps ≡ kept ++ octets)

-- data that was read and a CR that was read after it were read together
pub returned : {a b : List ℕ} {xs : List Event} (kept keeps c : List ℕ) (ys : List Event) (size : ℕ) → ReadsData size kept keeps a b (Ok tt) xs → ReadsOctet 13 b c (Ok tt) ys
    → Returned size kept keeps a c (xs ++ ys)
returned kept keeps c ys size (octets, takes, long, adds) return = (octets, then_takes Nothing takes return, long, adds)

-- and then the LF, or not
pub chunk_end : {a c : List ℕ} {es : List Event} (kept keeps d : List ℕ) (zs : List Event) (size : ℕ) (r : Result (Unit {0}) HttpError) → Returned size kept keeps a c es
    → ReadsOctet 10 c d r zs → ReadsChunk size kept keeps a d r (es ++ zs)
chunk_end {a} {c} {es = es} kept keeps d zs size (Ok _) (octets, both, long, adds) feed = (
  octets,
  subst (λ (l : List ℕ). Takes Nothing l a d (es ++ zs)) (append_assoc octets (13 ∷ []) (10 ∷ [])) (then_takes Nothing both feed),
  long,
  adds,
)
chunk_end {a} {c} kept keeps d zs size (Err e) (octets, both, long, adds) feed =
    then_breaks zs (NoOctet 10) (ChunkStops size) both feed (λ due text so. AtFeed octets
    (ap (λ (l : List ℕ). (octets ++ 13 ∷ []) ++ l) so.0 ∙ append-nil (octets ++ 13 ∷ [])) long so.1)

-- whole chunks were read, with this content, and their lines have n octets beyond what is free
abbrev pub Gathered : List ℕ → List ℕ → List ℕ → ℕ → List Event → Type 0
Gathered before after body over events = (chunks : List Chunk) × All IsChunk chunks × Takes Nothing (texts_of chunks) before after events × (body ≡ content chunks)
    × (over ≡ excess_of chunks)

-- and then a chunk's line of n octets that says this size
abbrev pub LineRead : List ℕ → List ℕ → List ℕ → ℕ → ℕ → ℕ → List Event → Type 0
LineRead before after body over count size events = (chunks : List Chunk) × (line : List ℕ) × All IsChunk chunks
    × Takes Nothing (texts_of chunks ++ line) before after events × (body ≡ content chunks) × (over ≡ excess_of chunks) × IsLine line size × (count ≡ length line)

-- what was read keeps to its limits
pub record Keeps (limit : ℕ) (body : List ℕ) (over : ℕ) : Type 0 where
  pub octets : length body ≤ limit
  pub lines : over ≤ MAX_EXCESS_OCTETS

-- a chunk's line was read after whole chunks
pub after_line : {a b : List ℕ} {xs : List Event} (body : List ℕ) (over : ℕ) (c : List ℕ) (count size : ℕ) (ys : List Event) → Gathered a b body over xs
    → ReadsLine b c (Ok (count, size)) ys → LineRead a c body over count size (xs ++ ys)
after_line body over c count size ys (chunks, all, takes, is, so) (line, more, said, long) = (chunks, line, all, then_takes Nothing takes more, is, so, said, long)

-- no chunk's line is read after whole chunks, and so no body
pub line_stops : {a b : List ℕ} {xs : List Event} (limit : ℕ) (body : List ℕ) (over : ℕ) (c : List ℕ) (e : HttpError) (ys : List Event) → Keeps limit body over
    → Gathered a b body over xs → ReadsLine b c (Err e) ys → Breaks (ChunksStop limit) a c e (xs ++ ys)
line_stops {a} {b} limit body over c e ys keeps (chunks, all, takes, is, so) reads =
    then_breaks ys NoLine (ChunksStop limit) takes reads (λ due text stops. (
      chunks,
      text,
      all,
      refl,
      subst (λ (l : List ℕ). length l ≤ limit) is keeps.octets,
      subst (λ (n : ℕ). n ≤ MAX_EXCESS_OCTETS) so keeps.lines,
      AtLine stops.0 stops.1,
    ))

-- with this line the chunks' lines are too long taken together, and the body is malformed
pub excess_stops : {a b : List ℕ} {xs : List Event} (limit : ℕ) (body : List ℕ) (over count size : ℕ) → Keeps limit body over → size ≢ 0
    → MAX_EXCESS_OCTETS < over + (count - FREE_LINE_OCTETS) → LineRead a b body over count size xs → Breaks (ChunksStop limit) a b error.BadHead xs
excess_stops {xs = xs} limit body over count size keeps some passes (chunks, line, all, takes, is, so, said, long) = (
  Nothing,
  texts_of chunks ++ line,
  xs,
  takes,
  inl (refl, λ missing. absurd missing),
  (
    chunks,
    line,
    all,
    refl,
    subst (λ (l : List ℕ). length l ≤ limit) is keeps.octets,
    subst (λ (n : ℕ). n ≤ MAX_EXCESS_OCTETS) so keeps.lines,
    AtExcess size said (omega (arith, some)) (subst (λ (n : ℕ). MAX_EXCESS_OCTETS < excess_of chunks + (n - FREE_LINE_OCTETS)) long
        (subst (λ (n : ℕ). MAX_EXCESS_OCTETS < n + (count - FREE_LINE_OCTETS)) so passes)) refl refl,
  ),
)

-- the bound of the lines, as the definitions say it
lines_kept : (chunks : List Chunk) (line : List ℕ) (over count : ℕ) → over ≡ excess_of chunks → count ≡ length line → over + (count - FREE_LINE_OCTETS) ≤ MAX_EXCESS_OCTETS
    → excess_of chunks + excess line ≤ MAX_EXCESS_OCTETS
lines_kept chunks line over count so long few =
    subst (λ (n : ℕ). excess_of chunks + (n - FREE_LINE_OCTETS) ≤ MAX_EXCESS_OCTETS) long (subst (λ (n : ℕ). n + (count - FREE_LINE_OCTETS) ≤ MAX_EXCESS_OCTETS) so few)

-- with the size that this line says the data would pass the limit, and the body is too large
pub limit_stops : {a b : List ℕ} {xs : List Event} (limit : ℕ) (body : List ℕ) (over count size : ℕ) → Keeps limit body over
    → over + (count - FREE_LINE_OCTETS) ≤ MAX_EXCESS_OCTETS → limit < length body + size → LineRead a b body over count size xs
    → Breaks (ChunksStop limit) a b (error.TooLarge limit) xs
limit_stops {xs = xs} limit body over count size keeps few passes (chunks, line, all, takes, is, so, said, long) = (
  Nothing,
  texts_of chunks ++ line,
  xs,
  takes,
  refl,
  (
    chunks,
    line,
    all,
    refl,
    subst (λ (l : List ℕ). length l ≤ limit) is keeps.octets,
    subst (λ (n : ℕ). n ≤ MAX_EXCESS_OCTETS) so keeps.lines,
    AtLimit size said (lines_kept chunks line over count so long few) (subst (λ (l : List ℕ). limit < length l + size) is passes) refl refl,
  ),
)

-- no trailer section is read after the last chunk's line, and so no body
pub trailer_stops : {a b : List ℕ} {xs : List Event} (limit : ℕ) (body : List ℕ) (over count : ℕ) (c : List ℕ) (e : HttpError) (ys : List Event) → Keeps limit body over
    → LineRead a b body over count 0 xs → ReadsTrailer b c (Err e) ys → Breaks (ChunksStop limit) a c e (xs ++ ys)
trailer_stops {a} {b} limit body over count c e ys keeps (chunks, line, all, takes, is, so, said, long) reads =
    then_breaks ys NoTrailer (ChunksStop limit) takes reads (λ due text stops.
    let none : line ++ text ≡ line = ap (λ (l : List ℕ). line ++ l) stops.0 ∙ append-nil line in (
      chunks,
      line ++ text,
      all,
      append_assoc (texts_of chunks) line text,
      subst (λ (l : List ℕ). length l ≤ limit) is keeps.octets,
      subst (λ (n : ℕ). n ≤ MAX_EXCESS_OCTETS) so keeps.lines,
      AtTrailer (subst (λ (l : List ℕ). IsLine l 0) (sym none) said) stops.1,
    ))

-- a chunk's data or the line end after it isn't read, and so no body
pub chunk_stops : {a b : List ℕ} {xs : List Event} (limit : ℕ) (body keeps : List ℕ) (over count : ℕ) (c : List ℕ) (size : ℕ) (e : HttpError) (ys : List Event)
    → Keeps limit body over → over + (count - FREE_LINE_OCTETS) ≤ MAX_EXCESS_OCTETS → length body + size ≤ limit → size ≢ 0 → LineRead a b body over count size xs
    → ReadsChunk size body keeps b c (Err e) ys → Breaks (ChunksStop limit) a c e (xs ++ ys)
chunk_stops {a} {b} limit body keeps over count c size e ys kept few within some (chunks, line, all, takes, is, so, said, long) reads =
    let fits = subst (λ (l : List ℕ). length l + size ≤ limit) is within in
    then_breaks ys (ChunkStops size) (ChunksStop limit) takes reads (λ due text stops. (
      chunks,
      line ++ text,
      all,
      append_assoc (texts_of chunks) line text,
      omega (arith, fits),
      subst (λ (n : ℕ). n ≤ MAX_EXCESS_OCTETS) so kept.lines,
      InChunk line text size refl
          (record { said = said; some = omega (arith, some); few = lines_kept chunks line over count so long few; fits = fits }) stops,
    ))

-- a chunk more
pub chunk_read : {a b : List ℕ} {xs : List Event} (body keeps : List ℕ) (over count : ℕ) (c : List ℕ) (size : ℕ) (ys : List Event) → size ≢ 0
    → LineRead a b body over count size xs → ReadsChunk size body keeps b c (Ok tt) ys → Gathered a c keeps (over + (count - FREE_LINE_OCTETS)) (xs ++ ys)
chunk_read {a} {xs = xs} body keeps over count c size ys some (chunks, line, all, takes, is, so, said, counted) (octets, more, long, adds) =
    let chunk : Chunk = record { line = line; data_octets = octets } in
    let is_chunk : IsChunk chunk = record { line = subst (λ (n : ℕ). IsLine line n) (sym long) said; some = omega (arith, long, some) } in
    let texts : (texts_of chunks ++ line) ++ (octets ++ 13 ∷ 10 ∷ []) ≡ texts_of (chunks ++ chunk ∷ []) =
    append_assoc (texts_of chunks) line (octets ++ 13 ∷ 10 ∷ []) ∙ ap (λ (l : List ℕ). texts_of chunks ++ l) (sym (append-nil (line ++ (octets ++ 13 ∷ 10 ∷ []))))
    ∙ sym (flat_map-append chunk_text chunks (chunk ∷ [])) in
    let kept : keeps ≡ content (chunks ++ chunk ∷ []) =
    adds ∙ ap (λ (l : List ℕ). l ++ octets) is ∙ ap (λ (l : List ℕ). content chunks ++ l) (sym (append-nil octets)) ∙ sym (flat_map-append data_of chunks (chunk ∷ [])) in
    let sum : over + (count - FREE_LINE_OCTETS) ≡ excess_of (chunks ++ chunk ∷ []) =
    (λ i. so i + (counted i - FREE_LINE_OCTETS)) ∙ sym (sum_by_push (λ (k : Chunk). excess k.line) chunks chunk) in (
      chunks ++ chunk ∷ [],
      All-append IsChunk chunks (chunk ∷ []) all (All-cons IsChunk chunk [] is_chunk (All-nil IsChunk)),
      subst (λ (l : List ℕ). Takes Nothing l a c (xs ++ ys)) texts (then_takes Nothing takes more),
      kept,
      sum,
    )

-- the whole body
pub body_read : {a b : List ℕ} {xs : List Event} (limit : ℕ) (body : List ℕ) (over count : ℕ) (c : List ℕ) (ys : List Event) → Keeps limit body over
    → LineRead a b body over count 0 xs → ReadsTrailer b c (Ok tt) ys → ReadsChunks limit a c (Ok body) (xs ++ ys)
body_read limit body over count c ys keeps (chunks, line, all, takes, is, so, said, long) (trailer, more, is_trailer) = (
  (texts_of chunks ++ line) ++ trailer,
  then_takes Nothing takes more,
  record {
    chunks = chunks;
    last = line;
    trailer = trailer;
    are_chunks = all;
    few = subst (λ (n : ℕ). n ≤ MAX_EXCESS_OCTETS) so keeps.lines;
    is_last = said;
    is_trailer = is_trailer;
    whole = append_assoc (texts_of chunks) line trailer;
    body_is = is;
  },
  keeps.octets,
)

-- the whole body, and then memory ran out
pub body_memory : {a b : List ℕ} {xs : List Event} (limit : ℕ) (body : List ℕ) (over count : ℕ) (c : List ℕ) (ys : List Event) → Keeps limit body over
    → LineRead a b body over count 0 xs → ReadsTrailer b c (Ok tt) ys → Breaks (ChunksStop limit) a c error.Memory (xs ++ ys)
body_memory {xs = xs} limit body over count c ys keeps (chunks, line, all, takes, is, so, said, long) (trailer, more, is_trailer) = (
  Nothing,
  (texts_of chunks ++ line) ++ trailer,
  xs ++ ys,
  then_takes Nothing takes more,
  inl refl,
  (
    chunks,
    line ++ trailer,
    all,
    append_assoc (texts_of chunks) line trailer,
    subst (λ (l : List ℕ). length l ≤ limit) is keeps.octets,
    subst (λ (n : ℕ). n ≤ MAX_EXCESS_OCTETS) so keeps.lines,
    AtEnd (record { last = line; trailer = trailer; whole = refl; is_last = said; is_trailer = is_trailer }) refl refl,
  ),
)

-- enough octets stand there: the first of them are the data, which is kept after what was kept before
pub data_read : {before now : List ℕ} (es : List Event) (size : ℕ) (kept keeps octets after : List ℕ) → FillsTo size before now (Ok tt) es → after ≡ drop size now
    → octets ≡ take size now → keeps ≡ kept ++ octets → ReadsData size kept keeps before after (Ok tt) es
data_read {before} {now} es size kept keeps octets after fills rest is adds =
    let front = front_taken size after fills rest in
    (octets, subst (λ (l : List ℕ). Takes Nothing l before after es) (sym is) front.0, ap length is ∙ front.1, adds)
