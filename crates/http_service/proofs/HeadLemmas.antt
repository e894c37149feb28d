-- What the parser's answers say of a head.
use Rattle.std.proofs.Common.{◌≡◌, ◌≢◌, ◌≤◌, ◌<◌, ◌*◌, ◌++◌, ℕ, suc, List, [], ◌∷◌, length, take, map, refl, sym, ap, ◌∙◌, subst, arith, length-append, inl, inr, Ok, Err, Result}
use Rattle.std.proofs.Math.Nat.{lt_of_not-le}
use Rattle.std.proofs.lemmas.List.{take-append-le}
use Rattle.std.specs.List.{flat_map}
use Rattle.httparse.specs.declared.Error.{Error}
use Rattle.httparse.specs.declared.Error.TheVariants.{HeaderName, HeaderValue, NewLine, Status, Token, TooManyHeaders, Version}
use Rattle.httparse.specs.declared.spans.HeaderSpan.{HeaderSpan}
use Rattle.httparse.specs.declared.spans.RequestSpans.{RequestSpans}
use Rattle.httparse.specs.Ascii.{space, colon}
use Rattle.httparse.specs.Grammar.{LineEnd, crlf, lf, print_end, Field, print_field, print_section, RequestHead, print_request, print_blank, print_version, NeverHasRequest}
use Rattle.httparse.specs.Grammar.{NeverHasSection}
use Rattle.httparse.specs.Spans.{span_bytes, header_bytes, name_and_value, IsRequestAt, IsRequestOf, RequestExceeds, SectionExceeds}
use Rattle.http_service.specs.declared.head.Head.{Head}
use Rattle.http_service.specs.declared.error.HttpError.{HttpError}
use Rattle.http_service.specs.declared.error.HttpError.TheVariants as error
use Rattle.http_service.specs.declared.lines.Lines.{Lines}
use Rattle.http_service.specs.declared.lines.Lines.TheVariants.{Head as OfHead, Trailer}
use Rattle.http_service.specs.declared.lines.Place.TheVariants.{Ended}
use Rattle.http_service.specs.reading.LineEnds.{EndAt, start, run}
use Rattle.http_service.specs.Heads.{IsHeadText}
use Rattle.http_service.specs.reading.Parses.{MakesHead, IsAtFront, IsRefused, ParsesFields}
use Rattle.http_service.proofs.LineEndLemmas.{run_ended, request_open, section_open}

end_long : (e : LineEnd) → 1 ≤ length (print_end e)
end_long crlf = omega arith
end_long lf = omega arith

field_long : (f : Field) → 2 ≤ length (print_field f)
field_long f =
    omega (arith, length-append (f.name ++ colon ∷ f.raw) (print_end f.end), length-append f.name (colon ∷ f.raw), end_long f.end)

fields_long : (fields : List Field) → 2 * length fields ≤ length (flat_map print_field fields)
fields_long [] = omega arith
fields_long (f ∷ fields) = omega (arith, length-append (print_field f) (flat_map print_field fields), field_long f, fields_long fields)

-- a section has more than twice as many octets as fields
pub section_long : (fields : List Field) (last : LineEnd) → 2 * length fields < length (print_section fields last)
section_long fields last = omega (arith, length-append (flat_map print_field fields) (print_end last), end_long last, fields_long fields)

request_long : (h : RequestHead) → length (print_section h.fields h.last) ≤ length (print_request h)
unfolding print_request
request_long h =
    omega (arith, length-append (print_blank h.blank ++ h.method ++ space ∷ h.target ++ space ∷ print_version h.minor ++ print_end h.line_end) (print_section h.fields h.last))

-- lines that haven't ended after these octets are as long at least
as_long : (lines : Lines) (octets front rest : List ℕ) (n : ℕ) → EndAt lines octets n → octets ≡ front ++ rest → run (start lines) front ≢ Ended → length front ≤ n
as_long lines octets front rest n (inr all) is open_still = omega (arith, all, ap length is, length-append front rest)
as_long lines octets front rest n (inl ended) is open_still =
    let less : length front < suc n = lt_of_not-le (λ short.
    let front_of : take n octets ≡ take n front = ap (take n) is ∙ take-append-le n front rest (omega (arith, short)) in
    open_still (run_ended (start lines) front n (ap (run (start lines)) (sym front_of) ∙ ended))) in
    omega (arith, less)

-- there is room for all fields
pub request_room : (octets : List ℕ) (n room : ℕ) → EndAt OfHead octets n → n ≤ 2 * room → RequestExceeds room octets → ⊥
request_room octets n room at enough (front, rest, is, h, reads, more) =
    omega (
      arith,
      enough,
      more,
      as_long OfHead octets front rest n at is (request_open front (print_end lf) h reads (λ none. absurd cc)),
      ap length reads.1,
      length-append front (print_end lf),
      length-append (print_request h) [],
      request_long h,
      section_long h.fields h.last,
    )

-- an error of the parser
pub refused : (octets : List ℕ) (room : ℕ) (e : Error) → (RequestExceeds room octets → ⊥) → (e ≢ TooManyHeaders → NeverHasRequest octets)
    → (◌≡◌ {A = Error} e TooManyHeaders → RequestExceeds room octets) → IsRefused octets
refused octets room HeaderName enough never over = inl (never (λ is. cc))
refused octets room HeaderValue enough never over = inl (never (λ is. cc))
refused octets room NewLine enough never over = inl (never (λ is. cc))
refused octets room Status enough never over = inl (never (λ is. cc))
refused octets room Token enough never over = inl (never (λ is. cc))
refused octets room TooManyHeaders enough never over = absurd (enough (over refl))
refused octets room Version enough never over = inl (never (λ is. cc))

-- what is made of a head, where its parts stand in the octets
pub made : (octets : List ℕ) (headers : List HeaderSpan) (spans : RequestSpans) (h : RequestHead) (r : Result Head HttpError) → IsRequestAt octets headers spans h
    → MakesHead (span_bytes octets spans.method) (span_bytes octets spans.path) spans.version (map (header_bytes octets) (take spans.headers headers)) r
    → MakesHead h.method h.target h.minor (map name_and_value h.fields) r
made octets headers spans h r at makes =
    subst (λ (l : List ℕ). MakesHead l h.target h.minor (map name_and_value h.fields) r) at.method
    (subst (λ (l : List ℕ). MakesHead (span_bytes octets spans.method) l h.minor (map name_and_value h.fields) r) at.path
    (subst (λ (n : ℕ). MakesHead (span_bytes octets spans.method) (span_bytes octets spans.path) n (map name_and_value h.fields) r) at.version
    (subst (λ (l : List (List ℕ × List ℕ)). MakesHead (span_bytes octets spans.method) (span_bytes octets spans.path) spans.version l r) at.fields makes)))

-- the head that was found
pub found : (octets : List ℕ) (headers : List HeaderSpan) (spans : RequestSpans) (head : Head) → IsRequestOf octets headers spans
    → MakesHead (span_bytes octets spans.method) (span_bytes octets spans.path) spans.version (map (header_bytes octets) (take spans.headers headers)) (Ok head)
    → IsAtFront (λ text. IsHeadText text head) octets spans.len
found octets headers spans head (h, at) makes = (print_request h, (h, at.reads.0, refl, made octets headers spans h (Ok head) at makes), at.reads.1, at.len)

-- the head that was found says no body, or out of memory
pub not_made : (octets : List ℕ) (headers : List HeaderSpan) (spans : RequestSpans) (e : HttpError) → IsRequestOf octets headers spans
    → MakesHead (span_bytes octets spans.method) (span_bytes octets spans.path) spans.version (map (header_bytes octets) (take spans.headers headers)) (Err e)
    → ParsesFields octets (Err e)
not_made octets headers spans error.BadHead (h, at) makes = inr (h, _, at.reads, made octets headers spans h (Err error.BadHead) at makes)
not_made octets headers spans error.HeadTooLarge so makes = absurd makes
not_made octets headers spans (error.TooLarge limit) so makes = absurd makes
not_made octets headers spans error.Short so makes = absurd makes
not_made octets headers spans error.FrontFault so makes = absurd makes
not_made octets headers spans error.Memory so makes = tt

-- there is room for all fields of a trailer section
pub section_room : (octets : List ℕ) (n room : ℕ) → EndAt Trailer octets n → n ≤ 2 * room → SectionExceeds room octets → ⊥
section_room octets n room at enough (front, rest, is, fields, reads, more) =
    omega (
      arith,
      enough,
      more,
      as_long Trailer octets front rest n at is (section_open front (print_end lf) fields lf reads (λ none. absurd cc)),
      ap length reads.1,
      length-append front (print_end lf),
      length-append (print_section fields lf) [],
      section_long fields lf,
    )

-- an error of the parser, where there is room for all fields of a trailer section
pub trailer_refused : (octets : List ℕ) (room : ℕ) (e : Error) → (SectionExceeds room octets → ⊥) → (e ≢ TooManyHeaders → NeverHasSection octets)
    → (◌≡◌ {A = Error} e TooManyHeaders → SectionExceeds room octets) → NeverHasSection octets
trailer_refused octets room HeaderName enough never over = never (λ is. cc)
trailer_refused octets room HeaderValue enough never over = never (λ is. cc)
trailer_refused octets room NewLine enough never over = never (λ is. cc)
trailer_refused octets room Status enough never over = never (λ is. cc)
trailer_refused octets room Token enough never over = never (λ is. cc)
trailer_refused octets room TooManyHeaders enough never over = absurd (enough (over refl))
trailer_refused octets room Version enough never over = never (λ is. cc)
