-- Lines haven't ended before their last line end has come, and not before all of them have.
use Rattle.std.proofs.Common.{◌≡◌, ◌≢◌, ◌<◌, ◌+◌, ◌==◌, ◌++◌, ℕ, zero, suc, Bool, true, false, cond, List, [], ◌∷◌, length, take, get_or, refl, sym, ap, ◌∙◌, subst, arith}
use Rattle.std.proofs.Common.{append_assoc}
use Rattle.std.proofs.Common.{length-append, ◌⊎◌, inl, inr, All, Option, Some, None}
use Rattle.std.specs.List.{flat_map}
use Rattle.std.proofs.lemmas.List.{append-nil, take_more}
use Rattle.std.proofs.lemmas.List.Elements.{All-head, All-tail, All-cons, All-nil}
use Rattle.std.specs.Char.{is_ascii_hexdigit}
use Rattle.httparse.specs.Ascii.{space, colon}
use Rattle.httparse.specs.Grammar.{LineEnd, crlf, lf, print_end, print_blank, print_version, Field, IsField, print_field, print_section, AllPass, is_token_byte, is_uri_byte}
use Rattle.httparse.specs.Grammar.{is_value_byte, is_ows, is_extension_byte, IsToken, RequestHead, IsRequestHead, ReadsRequest, print_request, HasNoRequest, MayBecomeRequest}
use Rattle.httparse.specs.Grammar.{EndsInTarget}
use Rattle.httparse.specs.Grammar.{ChunkLine, IsExtension, ReadsChunkLine, print_extension, print_chunk_line, HasNoChunkLine, MayBecomeChunkLine, ReadsSection, HasNoSection}
use Rattle.httparse.specs.Grammar.{MayBecomeSection}
use Rattle.httparse.proofs.GrammarLemmas.{print_request-append}
use Rattle.httparse.proofs.PieceLemmas.{print_field-append}
use Rattle.http_service.specs.declared.lines.Place.{Place}
use Rattle.http_service.specs.declared.lines.Place.TheVariants.{Blank, Inside, Begun, Returned, Only, Ended}
use Rattle.http_service.specs.declared.lines.Lines.{Lines}
use Rattle.http_service.specs.declared.lines.Lines.TheVariants.{Head, ChunkLine as OfChunk, Trailer}
use Rattle.http_service.specs.Taking.{HaveEnd, HeadLines, ChunkLine as LineOfChunk, TrailerLines, IsOfLineEnd}
use Rattle.http_service.specs.reading.LineEnds.{lines_of, start, step, run}
use Rattle.http_service.proofs.TakingLemmas.{begins_other}

-- the place after two texts is the one that the second leads to from the place after the first
pub run-append : (place : Place) (xs ys : List ℕ) → run place (xs ++ ys) ≡ run (run place xs) ys
run-append place [] ys = refl
run-append place (c ∷ xs) ys = run-append (step place c) xs ys

-- the place after one octet more is one step from the place before it
pub run_more : (place : Place) (octets : List ℕ) (i : ℕ) → i < length octets → run place (take (i + 1) octets) ≡ step (run place (take i octets)) (get_or octets i 0)
run_more place octets i lt = ap (run place) (take_more octets i 0 lt) ∙ run-append place (take i octets) (get_or octets i 0 ∷ [])

stays_ended : (octets : List ℕ) → run Ended octets ≡ Ended
stays_ended [] = refl
stays_ended (c ∷ octets) = stays_ended octets

-- what comes after the line end that ends the lines changes nothing
pub run_ended : (place : Place) (octets : List ℕ) (i : ℕ) → run place (take i octets) ≡ Ended → run place octets ≡ Ended
run_ended place [] zero ended = ended
run_ended place [] (suc i) ended = ended
run_ended place (c ∷ octets) zero ended = ap (λ (p : Place). run p (c ∷ octets)) ended ∙ stays_ended (c ∷ octets)
run_ended place (c ∷ octets) (suc i) ended = run_ended (step place c) octets i ended

stays_blank : (ends : List LineEnd) (octets : List ℕ) → run Blank (print_blank ends ++ octets) ≡ run Blank octets
stays_blank [] octets = refl
stays_blank (crlf ∷ ends) octets = stays_blank ends octets
stays_blank (lf ∷ ends) octets = stays_blank ends octets

-- empty lines are octets of line ends
blank_octets : (ends : List LineEnd) → All IsOfLineEnd (print_blank ends)
blank_octets [] = All-nil IsOfLineEnd
blank_octets (crlf ∷ ends) = All-cons IsOfLineEnd 13 (10 ∷ print_blank ends) (inl refl) (All-cons IsOfLineEnd 10 (print_blank ends) (inr refl) (blank_octets ends))
blank_octets (lf ∷ ends) = All-cons IsOfLineEnd 10 (print_blank ends) (inr refl) (blank_octets ends)

-- which leave the place where it is
skips_blank : (blank octets : List ℕ) → All IsOfLineEnd blank → run Blank (blank ++ octets) ≡ run Blank octets
skips_blank [] octets all = refl
skips_blank (c ∷ blank) octets all =
    let stays : step Blank c ≡ Blank = by (All-head IsOfLineEnd c blank all) in
    ap (λ (p : Place). run p (blank ++ octets)) stays ∙ skips_blank blank octets (All-tail IsOfLineEnd c blank all)
  where
    by : IsOfLineEnd c → step Blank c ≡ Blank
    by (inl is) = ap (step Blank) is
    by (inr is) = ap (step Blank) is

-- something but line ends has come
abbrev pub Past : Place → Type 0
Past Blank = ⊥
Past Inside = Unit {0}
Past Begun = Unit {0}
Past Returned = Unit {0}
Past Only = Unit {0}
Past Ended = Unit {0}

-- where something but line ends has come at each of two places, it has at whichever is chosen
pub past_either : (b : Bool) (p q : Place) → Past p → Past q → Past (cond b p q)
past_either true p q x y = x
past_either false p q x y = y

-- once something but line ends has come, it has come after one octet more
pub past_step : (place : Place) (c : ℕ) → Past place → Past (step place c)
past_step Blank c past = absurd past
past_step Inside c past = past_either (c == 10) Begun Inside tt tt
past_step Begun c past = past_either (c == 10) Ended (cond (c == 13) Returned Inside) tt (past_either (c == 13) Returned Inside tt tt)
past_step Returned c past = past_either (c == 10) Ended Inside tt tt
past_step Only c past = past_either (c == 10) Ended Only tt tt
past_step Ended c past = tt

-- once something but line ends has come, it has come after any octets more
pub past_run : (place : Place) (octets : List ℕ) → Past place → Past (run place octets)
past_run place [] past = past
past_run place (c ∷ octets) past = past_run (step place c) octets (past_step place c past)

-- an empty line after a line's end
pub empty_line : (place : Place) (last : LineEnd) → Past place → run place (10 ∷ print_end last) ≡ Ended
empty_line Blank last past = absurd past
empty_line Inside crlf past = refl
empty_line Inside lf past = refl
empty_line Begun crlf past = refl
empty_line Begun lf past = refl
empty_line Returned crlf past = refl
empty_line Returned lf past = refl
empty_line Only crlf past = refl
empty_line Only lf past = refl
empty_line Ended crlf past = refl
empty_line Ended lf past = refl

-- lines end in a line feed
pub lines_end : (text : List ℕ) (e : LineEnd) (fields : List Field) → (more : List ℕ) × ((text ++ print_end e) ++ flat_map print_field fields ≡ text ++ (more ++ 10 ∷ []))
lines_end text crlf [] = (13 ∷ [], append-nil (text ++ 13 ∷ 10 ∷ []))
lines_end text lf [] = ([], append-nil (text ++ 10 ∷ []))
lines_end text e (f ∷ fields) =
    let next = lines_end ((text ++ print_end e) ++ (f.name ++ colon ∷ f.raw)) f.end fields in (
      (print_end e ++ (f.name ++ colon ∷ f.raw)) ++ next.0,
      regroup text (print_end e) (f.name ++ colon ∷ f.raw) (print_end f.end) (flat_map print_field fields) ∙ next.1
          ∙ collect text (print_end e) (f.name ++ colon ∷ f.raw) next.0 (10 ∷ []),
    )
  where
    regroup : (t e n d r : List ℕ) → (t ++ e) ++ ((n ++ d) ++ r) ≡ (((t ++ e) ++ n) ++ d) ++ r
    regroup t e n d r = simp append_assoc

    collect : (t e n m l : List ℕ) → ((t ++ e) ++ n) ++ (m ++ l) ≡ t ++ (((e ++ n) ++ m) ++ l)
    collect t e n m l = simp append_assoc

-- the parts of a head round its last line feeds
head_parts : (h : RequestHead) (rest : List ℕ) → (more : List ℕ) × (print_request h ++ rest ≡ print_blank h.blank ++ (h.method ++ (more ++ ((10 ∷ print_end h.last) ++ rest))))
unfolding print_request
head_parts h rest =
    let start = space ∷ h.target ++ space ∷ print_version h.minor in
    let lines = lines_end start h.line_end h.fields in (
      start ++ lines.0,
      regroup (print_blank h.blank) h.method (space ∷ h.target) (space ∷ print_version h.minor) (print_end h.line_end) (flat_map print_field h.fields) (print_end h.last) rest
          ∙ ap (λ (l : List ℕ). print_blank h.blank ++ (h.method ++ (l ++ (print_end h.last ++ rest)))) lines.1
          ∙ collect (print_blank h.blank) h.method start lines.0 (print_end h.last) rest,
    )
  where
    regroup : (b m t v e f l r : List ℕ) → (b ++ m ++ t ++ v ++ e ++ (f ++ l)) ++ r ≡ b ++ (m ++ ((((t ++ v) ++ e) ++ f) ++ (l ++ r)))
    regroup b m t v e f l r = simp append_assoc

    cons : (x : ℕ) (a b : List ℕ) → (x ∷ a) ++ b ≡ x ∷ (a ++ b)
    cons x a b = refl

    collect : (b m s o l r : List ℕ) → b ++ (m ++ ((s ++ (o ++ 10 ∷ [])) ++ (l ++ r))) ≡ b ++ (m ++ ((s ++ o) ++ ((10 ∷ l) ++ r)))
    collect b m s o l r = simp (append_assoc, cons)

-- a chunk's line ends in a line feed
line_feed_last : (l : ChunkLine) (rest : List ℕ) → (front : List ℕ) × (print_chunk_line l ++ rest ≡ front ++ 10 ∷ rest)
unfolding print_chunk_line
line_feed_last l rest =
    ((l.digits ++ l.pad ++ print_extension l.extension) ++ 13 ∷ [], regroup (l.digits ++ l.pad ++ print_extension l.extension) rest)
  where
    cons : (x : ℕ) (a b : List ℕ) → (x ∷ a) ++ b ≡ x ∷ (a ++ b)
    cons x a b = refl

    nil : (b : List ℕ) → [] ++ b ≡ b
    nil b = refl

    regroup : (t r : List ℕ) → (t ++ 13 ∷ 10 ∷ []) ++ r ≡ (t ++ 13 ∷ []) ++ 10 ∷ r
    regroup t r = simp (append_assoc, cons, nil)

-- an octet that begins a line
begins_blank : (c : ℕ) → c ≢ 13 → c ≢ 10 → step Blank c ≡ Inside
begins_blank c no_return no_feed = grind (arith, no_feed, no_return)

only_feed : (text rest : List ℕ) → run Only (text ++ 10 ∷ rest) ≡ Ended
only_feed [] rest = stays_ended rest
only_feed (c ∷ text) rest = either (c == 10) (only_feed text rest)
  where
    either : (b : Bool) → run Only (text ++ 10 ∷ rest) ≡ Ended → run (cond b Ended Only) (text ++ 10 ∷ rest) ≡ Ended
    either true more = stays_ended (text ++ 10 ∷ rest)
    either false more = more

-- where the line end has come, it is seen
pub no_end : (lines : Lines) (octets : List ℕ) → run (start lines) octets ≢ Ended → HaveEnd (lines_of lines) octets → ⊥
no_end Head octets open_still (blank, first, text, last, rest, all, no_return, no_feed, whole) =
    open_still (
    ap (run Blank) whole
    ∙ skips_blank blank ((first ∷ text) ++ ((10 ∷ print_end last) ++ rest)) all
    ∙ ap (λ (p : Place). run p (text ++ ((10 ∷ print_end last) ++ rest))) (begins_blank first no_return no_feed)
    ∙ run-append Inside text ((10 ∷ print_end last) ++ rest)
    ∙ run-append (run Inside text) (10 ∷ print_end last) rest
    ∙ ap (λ (p : Place). run p rest) (empty_line (run Inside text) last (past_run Inside text tt))
    ∙ stays_ended rest)
no_end OfChunk octets open_still (text, rest, whole) = open_still (ap (run Only) whole ∙ only_feed text rest)
no_end Trailer octets open_still (inl (crlf, rest, whole)) = open_still (ap (run Begun) whole ∙ stays_ended rest)
no_end Trailer octets open_still (inl (lf, rest, whole)) = open_still (ap (run Begun) whole ∙ stays_ended rest)
no_end Trailer octets open_still (inr (text, last, rest, whole)) =
    open_still (
    ap (run Begun) whole
    ∙ run-append Begun text ((10 ∷ print_end last) ++ rest)
    ∙ run-append (run Begun text) (10 ∷ print_end last) rest
    ∙ ap (λ (p : Place). run p rest) (empty_line (run Begun text) last (past_run Begun text tt))
    ∙ stays_ended rest)

-- what an octet may be where it is looked at
same_or_not : (c d : ℕ) → (c ≡ d) ⊎ (c ≢ d)
same_or_not c d = by (c == d) refl
  where
    by : (b : Bool) → c == d ≡ b → (c ≡ d) ⊎ (c ≢ d)
    by true is = inl (grind (arith, is))
    by false is = inr (λ same. grind (arith, is, same))

-- an empty line stands there, after a line's end
abbrev pub HasEmptyLine : List ℕ → Type 0
HasEmptyLine octets = (text : List ℕ) × (last : LineEnd) × (rest : List ℕ) × (octets ≡ text ++ ((10 ∷ print_end last) ++ rest))

abbrev pub BeginsEmpty : List ℕ → Type 0
BeginsEmpty octets = (last : LineEnd) × (rest : List ℕ) × (octets ≡ print_end last ++ rest)

after_octet : (c : ℕ) (octets : List ℕ) → HasEmptyLine octets → HasEmptyLine (c ∷ octets)
after_octet c octets (text, last, rest, whole) = (c ∷ text, last, rest, ap (λ (l : List ℕ). c ∷ l) whole)

-- what stands where the end is seen from a place on
abbrev pub Stands : Place → List ℕ → Type 0
Stands Blank octets = HaveEnd HeadLines octets
Stands Inside octets = HasEmptyLine octets
Stands Begun octets = BeginsEmpty octets ⊎ HasEmptyLine octets
Stands Returned octets = BeginsEmpty (13 ∷ octets) ⊎ HasEmptyLine octets
Stands Only octets = HaveEnd LineOfChunk octets
Stands Ended octets = Unit {0}

-- octets of line ends before a head
after_blank : (c : ℕ) (octets : List ℕ) → IsOfLineEnd c → HaveEnd HeadLines octets → HaveEnd HeadLines (c ∷ octets)
after_blank c octets is (blank, first, text, last, rest, all, no_return, no_feed, whole) =
    (c ∷ blank, first, text, last, rest, All-cons IsOfLineEnd c blank is all, no_return, no_feed, ap (λ (l : List ℕ). c ∷ l) whole)

stands_before : (place : Place) (c : ℕ) (octets : List ℕ) → Stands (step place c) octets → Stands place (c ∷ octets)
stands_before Blank c octets more = by (same_or_not c 10) (same_or_not c 13)
  where
    by : (c ≡ 10) ⊎ (c ≢ 10) → (c ≡ 13) ⊎ (c ≢ 13) → HaveEnd HeadLines (c ∷ octets)
    by (inl feed) _ = after_blank c octets (inr feed) (subst (λ (n : ℕ). Stands (step Blank n) octets) feed more)
    by (inr other) (inl return) = after_blank c octets (inl return) (subst (λ (n : ℕ). Stands (step Blank n) octets) return more)
    by (inr other) (inr neither) =
        let inside : HasEmptyLine octets = subst (λ (p : Place). Stands p octets) (begins_blank c neither other) more in
        ([], c, inside.0, inside.1, inside.2, All-nil IsOfLineEnd, neither, other, ap (λ (l : List ℕ). c ∷ l) inside.3)
stands_before Inside c octets more = by (same_or_not c 10)
  where
    begun : BeginsEmpty octets ⊎ HasEmptyLine octets → HasEmptyLine (10 ∷ octets)
    begun (inl (last, rest, whole)) = ([], last, rest, ap (λ (l : List ℕ). 10 ∷ l) whole)
    begun (inr later) = after_octet 10 octets later

    by : (c ≡ 10) ⊎ (c ≢ 10) → HasEmptyLine (c ∷ octets)
    by (inl feed) = subst (λ (n : ℕ). HasEmptyLine (n ∷ octets)) (sym feed) (begun (subst (λ (n : ℕ). Stands (step Inside n) octets) feed more))
    by (inr other) =
        let stays : step Inside c ≡ Inside = grind (arith, other) in
        after_octet c octets (subst (λ (p : Place). Stands p octets) stays more)
stands_before Begun c octets more = by (same_or_not c 10) (same_or_not c 13)
  where
    returned : BeginsEmpty (13 ∷ octets) ⊎ HasEmptyLine octets → BeginsEmpty (13 ∷ octets) ⊎ HasEmptyLine (13 ∷ octets)
    returned (inl here) = inl here
    returned (inr later) = inr (after_octet 13 octets later)

    by : (c ≡ 10) ⊎ (c ≢ 10) → (c ≡ 13) ⊎ (c ≢ 13) → BeginsEmpty (c ∷ octets) ⊎ HasEmptyLine (c ∷ octets)
    by (inl feed) _ = inl (lf, octets, ap (λ (n : ℕ). n ∷ octets) feed)
    by (inr other) (inl return) =
        subst (λ (n : ℕ). BeginsEmpty (n ∷ octets) ⊎ HasEmptyLine (n ∷ octets)) (sym return) (returned (subst (λ (n : ℕ). Stands (step Begun n) octets) return more))
    by (inr other) (inr neither) =
        let stays : step Begun c ≡ Inside = grind (arith, other, neither) in
        inr (after_octet c octets (subst (λ (p : Place). Stands p octets) stays more))
stands_before Returned c octets more = by (same_or_not c 10)
  where
    by : (c ≡ 10) ⊎ (c ≢ 10) → BeginsEmpty (13 ∷ c ∷ octets) ⊎ HasEmptyLine (c ∷ octets)
    by (inl feed) = inl (crlf, octets, ap (λ (n : ℕ). 13 ∷ n ∷ octets) feed)
    by (inr other) =
        let stays : step Returned c ≡ Inside = grind (arith, other) in
        inr (after_octet c octets (subst (λ (p : Place). Stands p octets) stays more))
stands_before Only c octets more = by (same_or_not c 10)
  where
    by : (c ≡ 10) ⊎ (c ≢ 10) → HaveEnd LineOfChunk (c ∷ octets)
    by (inl feed) = ([], octets, ap (λ (n : ℕ). n ∷ octets) feed)
    by (inr other) =
        let stays : step Only c ≡ Only = grind (arith, other) in
        let later : HaveEnd LineOfChunk octets = subst (λ (p : Place). Stands p octets) stays more in
        (c ∷ later.0, later.1, ap (λ (l : List ℕ). c ∷ l) later.2)
stands_before Ended c octets more = tt

nothing_stands : (place : Place) → place ≡ Ended → Stands place []
nothing_stands Blank ended = absurd cc
nothing_stands Inside ended = absurd cc
nothing_stands Begun ended = absurd cc
nothing_stands Returned ended = absurd cc
nothing_stands Only ended = absurd cc
nothing_stands Ended ended = tt

stands_there : (place : Place) (octets : List ℕ) → run place octets ≡ Ended → Stands place octets
stands_there place [] ended = nothing_stands place ended
stands_there place (c ∷ octets) ended = stands_before place c octets (stands_there (step place c) octets ended)

-- where the end is seen, the line end has come
pub has_end : (lines : Lines) (octets : List ℕ) → run (start lines) octets ≡ Ended → HaveEnd (lines_of lines) octets
has_end Head octets ended = stands_there Blank octets ended
has_end OfChunk octets ended = stands_there Only octets ended
has_end Trailer octets ended = stands_there Begun octets ended

token_no_feed : is_token_byte 10 ≡ false
unfolding is_token_byte
token_no_feed = refl

token_no_return : is_token_byte 13 ≡ false
unfolding is_token_byte
token_no_return = refl

not_it : (test : ℕ → Bool) (c d : ℕ) → test d ≡ false → test c ≡ true → c ≢ d
not_it test c d fails passes is = absurd (let k = subst (λ (n : ℕ). test n ≡ true) is passes in cc)

-- a head has the line end that ends it
pub head_end : (h : RequestHead) (rest : List ℕ) → IsRequestHead h → HaveEnd HeadLines (print_request h ++ rest)
head_end h rest is = by h.method is.method (head_parts h rest)
  where
    by : (method : List ℕ) → IsToken method → (more : List ℕ) × (print_request h ++ rest ≡ print_blank h.blank ++ (method ++ (more ++ ((10 ∷ print_end h.last) ++ rest))))
        → HaveEnd HeadLines (print_request h ++ rest)
    by [] token parts = absurd (omega (arith, token.0))
    by (c ∷ method) token (more, whole) =
        let passes = All-head (λ v. is_token_byte v ≡ true) c method token.1 in (
          print_blank h.blank,
          c,
          method ++ more,
          h.last,
          rest,
          blank_octets h.blank,
          not_it is_token_byte c 13 token_no_return passes,
          not_it is_token_byte c 10 token_no_feed passes,
          whole ∙ ap (λ (l : List ℕ). print_blank h.blank ++ (c ∷ l)) (sym (append_assoc method more ((10 ∷ print_end h.last) ++ rest))),
        )

-- so has a chunk's line
pub line_end : (l : ChunkLine) (rest : List ℕ) → HaveEnd LineOfChunk (print_chunk_line l ++ rest)
line_end l rest = let parts = line_feed_last l rest in (parts.0, rest, parts.1)

-- so has a trailer section
pub trailer_end : (fields : List Field) (last : LineEnd) (rest : List ℕ) → HaveEnd TrailerLines (print_section fields last ++ rest)
trailer_end [] last rest = inl (last, rest, refl)
trailer_end (f ∷ fields) last rest =
    let lines = lines_end (f.name ++ colon ∷ f.raw) f.end fields in
    inr (
      (f.name ++ colon ∷ f.raw) ++ lines.0,
      last,
      rest,
      ap (λ (l : List ℕ). (l ++ print_end last) ++ rest) lines.1 ∙ regroup (f.name ++ colon ∷ f.raw) lines.0 (print_end last) rest,
    )
  where
    cons : (x : ℕ) (a b : List ℕ) → (x ∷ a) ++ b ≡ x ∷ (a ++ b)
    cons x a b = refl

    nil : (b : List ℕ) → [] ++ b ≡ b
    nil b = refl

    regroup : (t m l r : List ℕ) → ((t ++ (m ++ 10 ∷ [])) ++ l) ++ r ≡ (t ++ m) ++ ((10 ∷ l) ++ r)
    regroup t m l r = simp (append_assoc, cons, nil)

-- what may go on hasn't ended, where all but the last octet of the whole hasn't
cut_before : (p : Place) (octets more init : List ℕ) (x : ℕ) → octets ++ more ≡ init ++ x ∷ [] → more ≢ [] → run p init ≢ Ended → run p octets ≢ Ended
cut_before p octets more init x whole some open_still ended = by (begins_other octets init more (x ∷ []) whole)
  where
    empty : (l : List ℕ) → length l ≡ 0 → l ≡ []
    empty [] is = refl
    empty (c ∷ l) is = absurd (omega (arith, is))

    by : (length init < length octets) ⊎ ((rest : List ℕ) × (init ≡ octets ++ rest)) → ⊥
    by (inl short) = some (empty more (omega (arith, short, ap length whole, length-append octets more, length-append init (x ∷ []))))
    by (inr (rest, is)) = open_still (ap (run p) is ∙ run-append p octets rest ∙ ap (λ (q : Place). run q rest) ended ∙ stays_ended rest)

goes_on : (octets more : List ℕ) (Whole : List ℕ → Type 0) → (Whole octets → ⊥) → Whole (octets ++ more) → more ≢ []
goes_on octets more Whole none whole is = none (subst Whole (ap (λ (l : List ℕ). octets ++ l) is ∙ append-nil octets) whole)

inside_more : (test : ℕ → Bool) (octets rest : List ℕ) → test 10 ≡ false → AllPass test octets → run Inside (octets ++ rest) ≡ run Inside rest
inside_more test [] rest fails all = refl
inside_more test (c ∷ octets) rest fails all =
    let no_feed = not_it test c 10 fails (All-head (λ v. test v ≡ true) c octets all) in
    let stays : step Inside c ≡ Inside = grind (arith, no_feed) in
    ap (λ (p : Place). run p (octets ++ rest)) stays ∙ inside_more test octets rest fails (All-tail (λ v. test v ≡ true) c octets all)

only_more : (test : ℕ → Bool) (octets rest : List ℕ) → test 10 ≡ false → AllPass test octets → run Only (octets ++ rest) ≡ run Only rest
only_more test [] rest fails all = refl
only_more test (c ∷ octets) rest fails all =
    let no_feed = not_it test c 10 fails (All-head (λ v. test v ≡ true) c octets all) in
    let stays : step Only c ≡ Only = grind (arith, no_feed) in
    ap (λ (p : Place). run p (octets ++ rest)) stays ∙ only_more test octets rest fails (All-tail (λ v. test v ≡ true) c octets all)

extension_more : (e : Option (List ℕ)) (rest : List ℕ) → IsExtension e → run Only (print_extension e ++ rest) ≡ run Only rest
extension_more None rest is = refl
extension_more (Some text) rest is = only_more is_extension_byte text rest refl is

-- a chunk's line that may go on
pub line_open : (octets : List ℕ) → HasNoChunkLine octets → MayBecomeChunkLine octets → run Only octets ≢ Ended
unfolding print_chunk_line
line_open octets none (more, l, (is_line, whole)) =
    cut_before Only octets more front 10 (whole ∙ append-nil (print_chunk_line l) ∙ regroup (l.digits ++ l.pad ++ print_extension l.extension)) some still
  where
    front : List ℕ
    front = (l.digits ++ l.pad ++ print_extension l.extension) ++ 13 ∷ []

    regroup : (t : List ℕ) → t ++ 13 ∷ 10 ∷ [] ≡ (t ++ 13 ∷ []) ++ 10 ∷ []
    regroup t = sym (append_assoc t (13 ∷ []) (10 ∷ []))

    some : more ≢ []
    some = goes_on octets more (λ text. ReadsChunkLine text l []) (none l []) (is_line, whole)

    parts : (d p e : List ℕ) → (d ++ p ++ e) ++ 13 ∷ [] ≡ d ++ (p ++ (e ++ 13 ∷ []))
    parts d p e = append_assoc (d ++ p) e (13 ∷ []) ∙ append_assoc d p (e ++ 13 ∷ [])

    open_still : run Only front ≡ Only
    open_still =
        ap (run Only) (parts l.digits l.pad (print_extension l.extension))
        ∙ only_more is_ascii_hexdigit l.digits (l.pad ++ (print_extension l.extension ++ 13 ∷ [])) refl is_line.digits.2
        ∙ only_more is_ows l.pad (print_extension l.extension ++ 13 ∷ []) refl is_line.pad
        ∙ extension_more l.extension (13 ∷ []) is_line.extension

    still : run Only front ≢ Ended
    still ended = absurd (let k = sym open_still ∙ ended in cc)

-- a line end, inside a line
ends_line : (e : LineEnd) (rest : List ℕ) → run Inside (print_end e ++ rest) ≡ run Begun rest
ends_line crlf rest = refl
ends_line lf rest = refl

token_more : (place : Place) (word rest : List ℕ) → ((c : ℕ) → is_token_byte c ≡ true → step place c ≡ Inside) → IsToken word → run place (word ++ rest) ≡ run Inside rest
token_more place [] rest begins token = absurd (omega (arith, token.0))
token_more place (c ∷ word) rest begins token =
    ap (λ (p : Place). run p (word ++ rest)) (begins c (All-head (λ v. is_token_byte v ≡ true) c word token.1))
    ∙ inside_more is_token_byte word rest token_no_feed (All-tail (λ v. is_token_byte v ≡ true) c word token.1)

begins_at_blank : (c : ℕ) → is_token_byte c ≡ true → step Blank c ≡ Inside
begins_at_blank c token = begins_blank c (not_it is_token_byte c 13 token_no_return token) (not_it is_token_byte c 10 token_no_feed token)

begins_at_line : (c : ℕ) → is_token_byte c ≡ true → step Begun c ≡ Inside
begins_at_line c token =
    let no_return = not_it is_token_byte c 13 token_no_return token in
    let no_feed = not_it is_token_byte c 10 token_no_feed token in
    grind (arith, no_return, no_feed)

field_more : (f : Field) (rest : List ℕ) → IsField f → run Begun (print_field f ++ rest) ≡ run Begun rest
field_more f rest is =
    ap (run Begun) (print_field-append f rest)
    ∙ token_more Begun f.name (58 ∷ (f.raw ++ (print_end f.end ++ rest))) begins_at_line is.name
    ∙ inside_more is_value_byte f.raw (print_end f.end ++ rest) refl is.raw
    ∙ ends_line f.end rest

fields_more : (fields : List Field) (rest : List ℕ) → All IsField fields → run Begun (flat_map print_field fields ++ rest) ≡ run Begun rest
fields_more [] rest all = refl
fields_more (f ∷ fields) rest all =
    ap (run Begun) (append_assoc (print_field f) (flat_map print_field fields) rest)
    ∙ field_more f (flat_map print_field fields ++ rest) (All-head IsField f fields all)
    ∙ fields_more fields rest (All-tail IsField f fields all)

-- all but the last octet of a section, from a line's first octet on
section_init : (fields : List Field) (last : LineEnd) → All IsField fields → (init : List ℕ) × (print_section fields last ≡ init ++ 10 ∷ []) × (run Begun init ≢ Ended)
section_init fields crlf all =
    let at : run Begun (flat_map print_field fields ++ 13 ∷ []) ≡ Returned = fields_more fields (13 ∷ []) all in
    (flat_map print_field fields ++ 13 ∷ [], sym (append_assoc (flat_map print_field fields) (13 ∷ []) (10 ∷ [])), λ ended. absurd (let k = sym at ∙ ended in cc))
section_init fields lf all =
    let at : run Begun (flat_map print_field fields) ≡ Begun = ap (run Begun) (sym (append-nil (flat_map print_field fields))) ∙ fields_more fields [] all in
    (flat_map print_field fields, refl, λ ended. absurd (let k = sym at ∙ ended in cc))

-- a trailer section hasn't ended before its last octet
pub section_open : (octets more : List ℕ) (fields : List Field) (last : LineEnd) → ReadsSection (octets ++ more) fields last [] → more ≢ [] → run Begun octets ≢ Ended
section_open octets more fields last (all, whole) some =
    let init = section_init fields last all in
    cut_before Begun octets more init.0 10 (whole ∙ append-nil (print_section fields last) ∙ init.1) some init.2

-- a trailer section that may go on
pub trailer_open : (octets : List ℕ) → HasNoSection octets → MayBecomeSection octets → run Begun octets ≢ Ended
trailer_open octets none (more, fields, last, reads) =
    section_open octets more fields last reads (goes_on octets more (λ text. ReadsSection text fields last []) (none fields last []) reads)

version_more : (minor : ℕ) (rest : List ℕ) → run Inside (print_version minor ++ rest) ≡ run Inside rest
version_more minor rest =
    let no_feed : 48 + minor ≢ 10 = λ is. omega (arith, is) in
    let stays : step Inside (48 + minor) ≡ Inside = grind (arith, no_feed) in
    ap (λ (p : Place). run p rest) stays

-- the line of a request, and what follows it
request_more : (h : RequestHead) (rest : List ℕ) → IsRequestHead h
    → run Blank (print_blank h.blank ++ (h.method ++ 32 ∷ (h.target ++ 32 ∷ (print_version h.minor ++ (print_end h.line_end ++ rest))))) ≡ run Begun rest
request_more h rest is =
    stays_blank h.blank (h.method ++ 32 ∷ (h.target ++ 32 ∷ (print_version h.minor ++ (print_end h.line_end ++ rest))))
    ∙ token_more Blank h.method (32 ∷ (h.target ++ 32 ∷ (print_version h.minor ++ (print_end h.line_end ++ rest)))) begins_at_blank is.method
    ∙ inside_more is_uri_byte h.target (32 ∷ (print_version h.minor ++ (print_end h.line_end ++ rest))) refl is.target.1
    ∙ version_more h.minor (print_end h.line_end ++ rest)
    ∙ ends_line h.line_end rest

-- octets that end inside a target
inside_target : (octets : List ℕ) → EndsInTarget octets → run Blank octets ≡ Inside
inside_target octets (blank, method, target, token, all, whole) =
    ap (run Blank) (whole ∙ append_assoc (print_blank blank) method (32 ∷ target))
    ∙ stays_blank blank (method ++ 32 ∷ target)
    ∙ token_more Blank method (32 ∷ target) begins_at_blank token
    ∙ ap (run Inside) (sym (append-nil target))
    ∙ inside_more is_uri_byte target [] refl all

-- they have no head
pub no_head_in_target : (octets : List ℕ) (h : RequestHead) (rest : List ℕ) → EndsInTarget octets → ReadsRequest octets h rest → ⊥
no_head_in_target octets h rest cut (is, whole) =
    no_end Head octets (λ ended. absurd (let k = sym (inside_target octets cut) ∙ ended in cc)) (subst (HaveEnd HeadLines) (sym whole) (head_end h rest is))

-- a head hasn't ended before its last octet
pub request_open : (octets more : List ℕ) (h : RequestHead) → ReadsRequest (octets ++ more) h [] → more ≢ [] → run Blank octets ≢ Ended
request_open octets more h (is, whole) some =
    cut_before Blank octets more (lead init.0) 10 text some (λ ended. init.2 (sym (request_more h init.0 is) ∙ ended))
  where
    lead : List ℕ → List ℕ
    lead rest = print_blank h.blank ++ (h.method ++ 32 ∷ (h.target ++ 32 ∷ (print_version h.minor ++ (print_end h.line_end ++ rest))))

    init : (init : List ℕ) × (print_section h.fields h.last ≡ init ++ 10 ∷ []) × (run Begun init ≢ Ended)
    init = section_init h.fields h.last is.fields

    regroup : (a b c d e f r : List ℕ) → a ++ (b ++ 32 ∷ (c ++ 32 ∷ (d ++ (e ++ (f ++ r))))) ≡ (a ++ (b ++ 32 ∷ (c ++ 32 ∷ (d ++ (e ++ f))))) ++ r
    regroup a b c d e f r = simp append_assoc

    text : octets ++ more ≡ lead init.0 ++ 10 ∷ []
    text =
        whole
        ∙ print_request-append h []
        ∙ ap lead (append-nil (print_section h.fields h.last) ∙ init.1)
        ∙ regroup (print_blank h.blank) h.method h.target (print_version h.minor) (print_end h.line_end) init.0 (10 ∷ [])

-- a head that may go on
pub head_open : (octets : List ℕ) → HasNoRequest octets → MayBecomeRequest octets → run Blank octets ≢ Ended
head_open octets none (inl (more, h, reads)) =
    request_open octets more h reads (goes_on octets more (λ t. ReadsRequest t h []) (none h []) reads)
head_open octets none (inr cut) = λ ended. absurd (let k = sym (inside_target octets cut) ∙ ended in cc)
