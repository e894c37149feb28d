-- A chunked body that stands there fits none of the refusals that are about the octets.
use Rattle.std.proofs.Common.{◌≡◌, ◌<◌, ◌≤◌, ◌+◌, ◌++◌, ℕ, List, [], ◌∷◌, length, All, refl, sym, ap, ◌∙◌, subst, arith, append_assoc, length-append, ◌⊎◌, inl, inr}
use Rattle.std.specs.List.{flat_map}
use Rattle.std.proofs.lemmas.List.{append-nil}
use Rattle.std.proofs.lemmas.List.Concat.{flat_map-append}
use Rattle.std.proofs.lemmas.List.Elements.{All-head, All-tail}
use Rattle.std.proofs.lemmas.List.Sums.{sum_by-append, sum_by-cons}
use Rattle.gate_world.specs.Octets.{client_gave_in}
use Rattle.gate_world.specs.declared.event.Event.{Event}
use Rattle.gate_world.specs.declared.event.Event.TheVariants.{ClientEnded, FrontFailed}
use Rattle.http_service.specs.declared.chunks.TheConstants.{MAX_EXCESS_OCTETS}
use Rattle.http_service.specs.declared.error.HttpError.{HttpError}
use Rattle.http_service.specs.declared.error.HttpError.TheVariants as error
use Rattle.http_service.specs.Taking.{Due, Octets, IsMissing, EndsBy, Breaks, window}
use Rattle.http_service.specs.Chunked.{Chunk, IsChunk, IsLine, IsTrailer, IsChunked, data_of, texts_of, content, excess, excess_of}
use Rattle.http_service.specs.ReadChunked.{LineStops, TrailerStops, OctetStops, DataStops, ChunkStops, InData, AtReturn, AtFeed, BodyStops, AtLine, AtExcess, AtLimit}
use Rattle.http_service.specs.ReadChunked.{InChunk, AtTrailer, AtEnd, ChunksStop}
use Rattle.http_service.proofs.LawLemmas.{one_line, same_front, in_window, body_text}

-- only the front or memory ended it
abbrev pub IsOfOutside : HttpError → Type 0
IsOfOutside e = (e ≡ error.FrontFault) ⊎ (e ≡ error.Memory)

-- where a chunk's line stands, it is read
line_stands : (line rest after : List ℕ) (size : ℕ) (due : Due) (e : HttpError) → IsLine line size → after ≡ line ++ rest → LineStops due after e → IsOfOutside e
line_stands line rest after size due error.BadHead (l, is, printed, says, few) whole (dues, inl never) =
    let here = in_window line rest few in
    absurd (never [] l here.0 (is, append-nil (window after) ∙ ap window whole ∙ here.1 ∙ ap (λ (t : List ℕ). t ++ here.0) printed))
line_stands line rest after size due error.BadHead (l, is, printed, says, few) whole (dues, inr (none, many)) =
    let here = in_window line rest few in
    absurd (none l here.0 (is, ap window whole ∙ here.1 ∙ ap (λ (t : List ℕ). t ++ here.0) printed))
line_stands line rest after size due error.HeadTooLarge is whole stops = absurd stops
line_stands line rest after size due (error.TooLarge limit) is whole stops = absurd stops
line_stands line rest after size due error.Short (l, is, printed, says, few) whole (dues, none, may) =
    absurd (none l rest (is, whole ∙ ap (λ (t : List ℕ). t ++ rest) printed))
line_stands line rest after size due error.FrontFault is whole stops = inl refl
line_stands line rest after size due error.Memory is whole stops = inr refl

-- so is a trailer section
trailer_stands : (trailer rest after : List ℕ) (due : Due) (e : HttpError) → IsTrailer trailer → after ≡ trailer ++ rest → TrailerStops due after e → IsOfOutside e
trailer_stands trailer rest after due error.BadHead (fields, last, all, printed, few) whole (dues, inl never) =
    let here = in_window trailer rest few in
    absurd (never [] fields last here.0 (all, append-nil (window after) ∙ ap window whole ∙ here.1 ∙ ap (λ (t : List ℕ). t ++ here.0) printed))
trailer_stands trailer rest after due error.BadHead (fields, last, all, printed, few) whole (dues, inr (none, many)) =
    let here = in_window trailer rest few in
    absurd (none fields last here.0 (all, ap window whole ∙ here.1 ∙ ap (λ (t : List ℕ). t ++ here.0) printed))
trailer_stands trailer rest after due error.HeadTooLarge is whole stops = absurd stops
trailer_stands trailer rest after due (error.TooLarge limit) is whole stops = absurd stops
trailer_stands trailer rest after due error.Short (fields, last, all, printed, few) whole (dues, none, may) =
    absurd (none fields last rest (all, whole ∙ ap (λ (t : List ℕ). t ++ rest) printed))
trailer_stands trailer rest after due error.FrontFault is whole stops = inl refl
trailer_stands trailer rest after due error.Memory is whole stops = inr refl

-- where the octets stand that are due, none are missing
not_short : (size : ℕ) (due : Due) (octets rest after : List ℕ) (events earlier : List Event) → due ≡ Octets size → after ≡ octets ++ rest → size ≤ length octets
    → EndsBy error.Short due after events earlier → ⊥
not_short size due octets rest after events earlier is whole enough (ended, missing) =
    let short : length after < size = subst (λ (d : Due). IsMissing d after) is missing in
    omega (arith, short, ap length whole, length-append octets rest, enough)

-- so is an octet that is due
octet_stands : (octet : ℕ) (rest after : List ℕ) (due : Due) (e : HttpError) (events earlier : List Event) → after ≡ octet ∷ rest → EndsBy e due after events earlier
    → OctetStops octet due after e → IsOfOutside e
octet_stands octet rest after due error.BadHead events earlier whole ends (dues, c, more, is, other) = absurd (other (let k = sym is ∙ whole in cc))
octet_stands octet rest after due error.HeadTooLarge events earlier whole ends stops = absurd stops
octet_stands octet rest after due (error.TooLarge limit) events earlier whole ends stops = absurd stops
octet_stands octet rest after due error.Short events earlier whole ends dues = absurd (not_short 1 due (octet ∷ []) rest after events earlier dues whole (omega arith) ends)
octet_stands octet rest after due error.FrontFault events earlier whole ends stops = inl refl
octet_stands octet rest after due error.Memory events earlier whole ends stops = inr refl

-- so is data
data_stands : (octets rest after : List ℕ) (size : ℕ) (due : Due) (e : HttpError) (events earlier : List Event) → length octets ≡ size → after ≡ octets ++ rest
    → EndsBy e due after events earlier → DataStops size due e → IsOfOutside e
data_stands octets rest after size due error.BadHead events earlier long whole ends stops = absurd stops
data_stands octets rest after size due error.HeadTooLarge events earlier long whole ends stops = absurd stops
data_stands octets rest after size due (error.TooLarge limit) events earlier long whole ends stops = absurd stops
data_stands octets rest after size due error.Short events earlier long whole ends dues =
    absurd (not_short size due octets rest after events earlier dues whole (omega (arith, long)) ends)
data_stands octets rest after size due error.FrontFault events earlier long whole ends stops = inl refl
data_stands octets rest after size due error.Memory events earlier long whole ends stops = inr refl

-- so are a chunk's data and the line end after it
chunk_stands : (octets rest started after : List ℕ) (size : ℕ) (due : Due) (e : HttpError) (events earlier : List Event) → length octets ≡ size
    → started ++ after ≡ octets ++ (13 ∷ 10 ∷ rest) → EndsBy e due after events earlier → ChunkStops size due started after e → IsOfOutside e
chunk_stands octets rest started after size due e events earlier long whole ends (InData none stops) =
    data_stands octets (13 ∷ 10 ∷ rest) after size due e events earlier long (ap (λ (l : List ℕ). l ++ after) (sym none) ∙ whole) ends stops
chunk_stands octets rest started after size due e events earlier long whole ends (AtReturn read stops) =
    let same = same_front started octets after (13 ∷ 10 ∷ rest) (read ∙ sym long) whole in
    octet_stands 13 (10 ∷ rest) after due e events earlier same.1 ends stops
chunk_stands octets rest started after size due e events earlier long whole ends (AtFeed front is read stops) =
    let parts : front ++ (13 ∷ after) ≡ octets ++ (13 ∷ 10 ∷ rest) = sym (append_assoc front (13 ∷ []) after) ∙ ap (λ (l : List ℕ). l ++ after) (sym is) ∙ whole in
    let same = same_front front octets (13 ∷ after) (13 ∷ 10 ∷ rest) (read ∙ sym long) parts in
    let left : after ≡ 10 ∷ rest = cc (same.1) in
    octet_stands 10 rest after due e events earlier left ends stops

-- chunks that were read are those that stand there: what is left of them
pub record Left (read there : List Chunk) (started after last trailer rest : List ℕ) : Type 0 where
  pub more : List Chunk
  pub all : All IsChunk more
  pub whole : there ≡ read ++ more
  pub octets : started ++ after ≡ body_text more last trailer ++ rest

regroup : (l d t e m : List ℕ) → (((l ++ d) ++ t) ++ e) ++ m ≡ l ++ (d ++ ((t ++ e) ++ m))
regroup l d t e m = simp append_assoc

chunks_left : (cs ds : List Chunk) (started after last trailer rest : List ℕ) → All IsChunk cs → All IsChunk ds → IsLine last 0
    → texts_of cs ++ (started ++ after) ≡ body_text ds last trailer ++ rest → Left cs ds started after last trailer rest
chunks_left [] ds started after last trailer rest all every is_last whole = record { more = ds; all = every; whole = refl; octets = whole }
chunks_left (c ∷ cs) [] started after last trailer rest all every is_last whole =
    let is = All-head IsChunk c cs all in
    let line = one_line last c.line (trailer ++ rest) ((c.data_octets ++ 13 ∷ 10 ∷ []) ++ (texts_of cs ++ (started ++ after))) 0 (length c.data_octets) is_last is.line
    (sym (append_assoc last trailer rest) ∙ sym whole ∙ parts c.line (c.data_octets ++ 13 ∷ 10 ∷ []) (texts_of cs) (started ++ after)) in
    absurd (omega (arith, line.1, is.some))
  where
    parts : (l d t e : List ℕ) → ((l ++ d) ++ t) ++ e ≡ l ++ (d ++ (t ++ e))
    parts l d t e = simp append_assoc
chunks_left (c ∷ cs) (d ∷ ds) started after last trailer rest all every is_last whole =
    let is_c = All-head IsChunk c cs all in
    let is_d = All-head IsChunk d ds every in
    let line = one_line c.line d.line ((c.data_octets ++ 13 ∷ 10 ∷ []) ++ (texts_of cs ++ (started ++ after)))
    ((d.data_octets ++ 13 ∷ 10 ∷ []) ++ (body_text ds last trailer ++ rest)) (length c.data_octets) (length d.data_octets) is_c.line is_d.line
    (sym (parts c.line (c.data_octets ++ 13 ∷ 10 ∷ []) (texts_of cs) (started ++ after)) ∙ whole
    ∙ regroup d.line (d.data_octets ++ 13 ∷ 10 ∷ []) (texts_of ds) (last ++ trailer) rest) in
    let octets = same_front c.data_octets d.data_octets (13 ∷ 10 ∷ (texts_of cs ++ (started ++ after))) (13 ∷ 10 ∷ (body_text ds last trailer ++ rest)) line.1
    (sym (append_assoc c.data_octets (13 ∷ 10 ∷ []) (texts_of cs ++ (started ++ after))) ∙ line.2
    ∙ append_assoc d.data_octets (13 ∷ 10 ∷ []) (body_text ds last trailer ++ rest)) in
    let next : texts_of cs ++ (started ++ after) ≡ body_text ds last trailer ++ rest = cc (octets.1) in
    let left = chunks_left cs ds started after last trailer rest (All-tail IsChunk c cs all) (All-tail IsChunk d ds every) is_last next in
    let same : d ≡ c = λ i. record { line = sym line.0 i; data_octets = sym octets.0 i } in
    record { more = left.more; all = left.all; whole = λ i. same i ∷ left.whole i; octets = left.octets }
  where
    parts : (l d t e : List ℕ) → ((l ++ d) ++ t) ++ e ≡ l ++ (d ++ (t ++ e))
    parts l d t e = simp append_assoc

-- the same where a line stands first: it is the next chunk's
line_there : (line rest other more : List ℕ) (size count : ℕ) → IsLine line size → IsLine other count → line ++ rest ≡ other ++ more → size ≡ count
line_there line rest other more size count is is_other whole = (one_line line other rest more size count is is_other whole).1

-- why a body isn't read whose next chunks and end stand there
body_stands : (limit : ℕ) (cs more : List Chunk) (due : Due) (started after last trailer rest : List ℕ) (e : HttpError) (events earlier : List Event)
    → All IsChunk more → IsLine last 0 → IsTrailer trailer → length (content cs) + length (content more) ≤ limit → excess_of cs + excess_of more ≤ MAX_EXCESS_OCTETS
    → started ++ after ≡ body_text more last trailer ++ rest → EndsBy e due after events earlier → BodyStops limit cs due started after e → IsOfOutside e
body_stands limit cs [] due started after last trailer rest e events earlier all is_last is_trailer within few whole ends (AtLine none stops) =
    line_stands last (trailer ++ rest) after 0 due e is_last (ap (λ (l : List ℕ). l ++ after) (sym none) ∙ whole ∙ append_assoc last trailer rest) stops
body_stands limit cs (m ∷ ms) due started after last trailer rest e events earlier all is_last is_trailer within few whole ends (AtLine none stops) =
    line_stands m.line ((m.data_octets ++ 13 ∷ 10 ∷ []) ++ (body_text ms last trailer ++ rest)) after (length m.data_octets) due e (All-head IsChunk m ms all).line
    (ap (λ (l : List ℕ). l ++ after) (sym none) ∙ whole ∙ regroup m.line (m.data_octets ++ 13 ∷ 10 ∷ []) (texts_of ms) (last ++ trailer) rest) stops
body_stands limit cs [] due started after last trailer rest e events earlier all is_last is_trailer within few whole ends (AtExcess size is some over dues bad) =
    let same = line_there started after last (trailer ++ rest) size 0 is is_last (whole ∙ append_assoc last trailer rest) in
    absurd (omega (arith, same, some))
body_stands limit cs (m ∷ ms) due started after last trailer rest e events earlier all is_last is_trailer within few whole ends (AtExcess size is some over dues bad) =
    let same = one_line started m.line after ((m.data_octets ++ 13 ∷ 10 ∷ []) ++ (body_text ms last trailer ++ rest)) size (length m.data_octets) is
    (All-head IsChunk m ms all).line (whole ∙ regroup m.line (m.data_octets ++ 13 ∷ 10 ∷ []) (texts_of ms) (last ++ trailer) rest) in
    let sum : excess_of (m ∷ ms) ≡ excess m.line + excess_of ms = sum_by-cons (λ (k : Chunk). excess k.line) m ms in
    absurd (omega (arith, over, few, sum, ap excess same.0))
body_stands limit cs [] due started after last trailer rest e events earlier all is_last is_trailer within few whole ends (AtLimit size is keeps over dues large) =
    let same = line_there started after last (trailer ++ rest) size 0 is is_last (whole ∙ append_assoc last trailer rest) in
    absurd (omega (arith, same, over, within))
body_stands limit cs (m ∷ ms) due started after last trailer rest e events earlier all is_last is_trailer within few whole ends (AtLimit size is keeps over dues large) =
    let same = one_line started m.line after ((m.data_octets ++ 13 ∷ 10 ∷ []) ++ (body_text ms last trailer ++ rest)) size (length m.data_octets) is
    (All-head IsChunk m ms all).line (whole ∙ regroup m.line (m.data_octets ++ 13 ∷ 10 ∷ []) (texts_of ms) (last ++ trailer) rest) in
    absurd (omega (arith, over, within, same.1, length-append m.data_octets (content ms)))
body_stands limit cs [] due started after last trailer rest e events earlier all is_last is_trailer within few whole ends (InChunk line read size is begins stops) =
    let same = line_there line (read ++ after) last (trailer ++ rest) size 0 begins.said is_last
    (sym (append_assoc line read after) ∙ ap (λ (l : List ℕ). l ++ after) (sym is) ∙ whole ∙ append_assoc last trailer rest) in
    absurd (omega (arith, same, begins.some))
body_stands limit cs (m ∷ ms) due started after last trailer rest e events earlier all is_last is_trailer within few whole ends
    (InChunk line read size is begins stops) =
    let same = one_line line m.line (read ++ after) ((m.data_octets ++ 13 ∷ 10 ∷ []) ++ (body_text ms last trailer ++ rest)) size (length m.data_octets) begins.said
    (All-head IsChunk m ms all).line
    (sym (append_assoc line read after) ∙ ap (λ (l : List ℕ). l ++ after) (sym is) ∙ whole
    ∙ regroup m.line (m.data_octets ++ 13 ∷ 10 ∷ []) (texts_of ms) (last ++ trailer) rest) in
    chunk_stands m.data_octets (body_text ms last trailer ++ rest) read after size due e events earlier (sym same.1)
    (same.2 ∙ append_assoc m.data_octets (13 ∷ 10 ∷ []) (body_text ms last trailer ++ rest)) ends stops
body_stands limit cs [] due started after last trailer rest e events earlier all is_last is_trailer within few whole ends (AtTrailer is stops) =
    let same = one_line started last after (trailer ++ rest) 0 0 is is_last (whole ∙ append_assoc last trailer rest) in
    trailer_stands trailer rest after due e is_trailer same.2 stops
body_stands limit cs (m ∷ ms) due started after last trailer rest e events earlier all is_last is_trailer within few whole ends (AtTrailer is stops) =
    let is_chunk = All-head IsChunk m ms all in
    let same = line_there started after m.line ((m.data_octets ++ 13 ∷ 10 ∷ []) ++ (body_text ms last trailer ++ rest)) 0 (length m.data_octets) is is_chunk.line
    (whole ∙ regroup m.line (m.data_octets ++ 13 ∷ 10 ∷ []) (texts_of ms) (last ++ trailer) rest) in
    absurd (omega (arith, same, is_chunk.some))
body_stands limit cs more due started after last trailer rest e events earlier all is_last is_trailer within few whole ends (AtEnd end dues memory) =
    inr memory

-- an event that gives none
gave_none : (event : Event) (events earlier : List Event) → events ≡ earlier ++ event ∷ [] → client_gave_in event ≡ []
    → flat_map client_gave_in events ≡ flat_map client_gave_in earlier
gave_none event events earlier is none =
    ap (flat_map client_gave_in) is ∙ flat_map-append client_gave_in earlier (event ∷ []) ∙ (λ i. flat_map client_gave_in earlier ++ (none i ++ []))
    ∙ append-nil (flat_map client_gave_in earlier)

-- what ends it gives no octets
gave_before : (e : HttpError) (due : Due) (after : List ℕ) (events earlier : List Event) → EndsBy e due after events earlier
    → flat_map client_gave_in events ≡ flat_map client_gave_in earlier
gave_before error.BadHead due after events earlier (inl (is, there)) = ap (flat_map client_gave_in) is
gave_before error.BadHead due after events earlier (inr (is, missing)) = gave_none ClientEnded events earlier is refl
gave_before error.HeadTooLarge due after events earlier is = ap (flat_map client_gave_in) is
gave_before (error.TooLarge limit) due after events earlier is = ap (flat_map client_gave_in) is
gave_before error.Short due after events earlier (is, missing) = gave_none ClientEnded events earlier is refl
gave_before error.FrontFault due after events earlier (is, missing) = gave_none FrontFailed events earlier is refl
gave_before error.Memory due after events earlier (inl is) = ap (flat_map client_gave_in) is
gave_before error.Memory due after events earlier (inr (is, missing)) = gave_none ClientEnded events earlier is refl

-- octets that begin with a chunked body within the limit have no refusal that is about them
pub no_body_refusal : (limit : ℕ) (body text rest before after : List ℕ) (e : HttpError) (events : List Event) → IsChunked body text → length body ≤ limit
    → before ++ flat_map client_gave_in events ≡ text ++ rest → Breaks (ChunksStop limit) before after e events → (e ≡ error.FrontFault) ⊎ (e ≡ error.Memory)
no_body_refusal limit body text rest before after e events is within whole
    (due, taken, earlier, takes, ends, (chunks, started, all, parts, fits, few, stops)) =
    let gave : flat_map client_gave_in events ≡ takes.gave = gave_before e due after events earlier ends ∙ takes.asks.gave_is in
    let octets : texts_of chunks ++ (started ++ after) ≡ body_text is.chunks is.last is.trailer ++ rest =
    sym (append_assoc (texts_of chunks) started after) ∙ ap (λ (l : List ℕ). l ++ after) (sym parts) ∙ sym takes.octets ∙ ap (λ (l : List ℕ). before ++ l) (sym gave) ∙ whole
    ∙ ap (λ (l : List ℕ). l ++ rest) is.whole in
    let left = chunks_left chunks is.chunks started after is.last is.trailer rest all is.are_chunks is.is_last octets in
    let all_content : content is.chunks ≡ content chunks ++ content left.more = ap content left.whole ∙ flat_map-append data_of chunks left.more in
    let lines : excess_of is.chunks ≡ excess_of chunks + excess_of left.more = ap excess_of left.whole ∙ sum_by-append (λ (k : Chunk). excess k.line) chunks left.more in
    body_stands limit chunks left.more due started after is.last is.trailer rest e events earlier left.all is.is_last is.is_trailer
    (omega (arith, within, ap length is.body_is, ap length all_content, length-append (content chunks) (content left.more)))
    (omega (arith, is.few, lines)) left.octets ends stops
