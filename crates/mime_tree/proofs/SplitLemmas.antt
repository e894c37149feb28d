-- Splitting, line by line.
use Rattle.std.proofs.Common.{◌≡◌, ℕ, ◌+◌, ◌<◌, ◌≤◌, List, [], ◌∷◌, ◌++◌, length, drop, refl, sym, ap, subst, ◌∙◌, arith, append_assoc, Option, Some, None}
use Rattle.std.specs.Prelude.{IfSome}
use Rattle.std.proofs.lemmas.List.{drop_all, length-append}
use Rattle.mime_tree.specs.declared.split.Mark.{Mark}
use Rattle.mime_tree.specs.declared.split.Mark.TheVariants as mark
use Rattle.mime_tree.specs.declared.split.Piece.{Piece}
use Rattle.mime_tree.specs.Delimiters.{size, lines}
use Rattle.mime_tree.specs.reading.LineReading.{line_mark}
use Rattle.mime_tree.specs.Splits.{piece, ending, before, end_of, InPart, AreParts, Follows, HasParts, IsSplit}
use Rattle.mime_tree.specs.reading.Bounds.{HasMoreThan}
use Rattle.mime_tree.proofs.LineLemmas.{Here}
use Rattle.mime_tree.proofs.MarkLemmas.{mark_is}
use Rattle.mime_tree.proofs.OneSplit.{one_split}

-- pieces before those that are found
abbrev pub onto : List Piece → Option (List Piece) → Option (List Piece)
onto ps None = None
onto ps (Some qs) = Some (ps ++ qs)

onto_onto : (ps qs : List Piece) (r : Option (List Piece)) → onto ps (onto qs r) ≡ onto (ps ++ qs) r
onto_onto ps qs None = refl
onto_onto ps qs (Some rs) = ap (λ (u : List Piece). Some u) (sym (append_assoc ps qs rs))

-- what is left to read: a preamble and parts, or lines of a part that has begun and the parts after it
abbrev pub Left : Option ℕ → List ℕ → List ℕ → Option (List Piece) → ℕ → List (List ℕ) → Type 0
Left None b y r at t = HasParts b y r at t
Left (Some start) b y None at t = ⊥
Left (Some start) b y (Some []) at t = ⊥
Left (Some start) b y (Some (p ∷ ps)) at t = InPart (AreParts b y ps) b y start at p t

-- a line that is no delimiter is the preamble's, or the part's
plain_more : (begun : Option ℕ) (b y : List ℕ) (at : ℕ) (l : List ℕ) (t : List (List ℕ)) (r : Option (List Piece)) → line_mark y l ≡ mark.Plain → Left begun b y r (at + length l) t
    → Left begun b y r at (l ∷ t)
plain_more None b y at l t r e h = record {
  preamble = l ∷ h.preamble;
  rest = h.rest;
  whole = ap (λ (u : List (List ℕ)). l ∷ u) h.whole;
  plain = (mark_is y l mark.Plain e, h.plain);
  follows = let P : ℕ → Type 0 = λ n. Follows b y r n h.rest in subst P (omega arith) h.follows;
}
plain_more (Some start) b y at l t None e h = h
plain_more (Some start) b y at l t (Some []) e h = h
plain_more (Some start) b y at l t (Some (p ∷ ps)) e h =
    let n : at + length l + size h.inner ≡ at + size (l ∷ h.inner) = omega arith in
    record {
      inner = l ∷ h.inner;
      rest = h.rest;
      whole = ap (λ (u : List (List ℕ)). l ∷ u) h.whole;
      plain = (mark_is y l mark.Plain e, h.plain);
      start_is = h.start_is;
      end_is = h.end_is ∙ ap (λ (n : ℕ). end_of b start n h.rest) n;
      behind = let P : ℕ → Type 0 = λ n. AreParts b y ps n h.rest in subst P n h.behind;
    }

-- the part before a line at which parts go on or end
ended : (b y : List ℕ) (start at : ℕ) (l : List ℕ) (t : List (List ℕ)) (ps : List Piece) → AreParts b y ps at (l ∷ t)
    → Left (Some start) b y (Some (piece start (before b start at) ∷ ps)) at (l ∷ t)
ended b y start at l t ps h = record {
  inner = [];
  rest = l ∷ t;
  whole = refl;
  plain = tt;
  start_is = refl;
  end_is = ap (before b start) (omega arith);
  behind = let P : ℕ → Type 0 = λ n. AreParts b y ps n (l ∷ t) in subst P (omega arith) h;
}

-- no preamble
begins : (b y : List ℕ) (at : ℕ) (t : List (List ℕ)) (r : Option (List Piece)) → Follows b y r at t → HasParts b y r at t
begins b y at t r h = record { preamble = []; rest = t; whole = refl; plain = tt; follows = let P : ℕ → Type 0 = λ n. Follows b y r n t in subst P (omega arith) h }

opens_more : (begun : Option ℕ) (b y : List ℕ) (at : ℕ) (l : List ℕ) (t : List (List ℕ)) (r : Option (List Piece)) → line_mark y l ≡ mark.Opens
    → Left (Some (at + length l)) b y r (at + length l) t → Left begun b y (onto (ending begun b at) r) at (l ∷ t)
opens_more begun b y at l t None e h = absurd h
opens_more begun b y at l t (Some []) e h = absurd h
opens_more None b y at l t (Some (p ∷ ps)) e h = begins b y at (l ∷ t) (Some (p ∷ ps))
    (record { line = l; lines = t; whole = refl; delimiter = mark_is y l mark.Opens e; part = h })
opens_more (Some start) b y at l t (Some (p ∷ ps)) e h = ended b y start at l t (p ∷ ps)
    (record { line = l; lines = t; whole = refl; delimiter = mark_is y l mark.Opens e; part = h })

closes_here : (begun : Option ℕ) (b y : List ℕ) (at : ℕ) (l : List ℕ) (t : List (List ℕ)) → line_mark y l ≡ mark.Closes → Left begun b y (Some (ending begun b at)) at (l ∷ t)
closes_here None b y at l t e = begins b y at (l ∷ t) (Some []) (mark_is y l mark.Closes e)
closes_here (Some start) b y at l t e = ended b y start at l t [] (mark_is y l mark.Closes e)

ends_inside : (b y : List ℕ) (start at : ℕ) → Left (Some start) b y (Some (piece start at ∷ [])) at []
ends_inside b y start at = record { inner = []; rest = []; whole = refl; plain = tt; start_is = refl; end_is = omega arith; behind = tt }

-- the pieces so far are the first: with those of what is left they are the whole's
pub record SoFar (begun : Option ℕ) (b y : List ℕ) (ps : List Piece) (at : ℕ) (t all : List (List ℕ)) : Type 0 where
  pub forth : (r : Option (List Piece)) → Left begun b y r at t → HasParts b y (onto ps r) 0 all

so_far_plain : (begun : Option ℕ) (b y : List ℕ) (ps : List Piece) (at : ℕ) (l : List ℕ) (t all : List (List ℕ)) → SoFar begun b y ps at (l ∷ t) all → line_mark y l ≡ mark.Plain
    → SoFar begun b y ps (at + length l) t all
so_far_plain begun b y ps at l t all h e = record { forth = λ r q. h.forth r (plain_more begun b y at l t r e q) }

so_far_opens : (begun : Option ℕ) (b y : List ℕ) (ps : List Piece) (at : ℕ) (l : List ℕ) (t all : List (List ℕ)) → SoFar begun b y ps at (l ∷ t) all → line_mark y l ≡ mark.Opens
    → SoFar (Some (at + length l)) b y (ps ++ ending begun b at) (at + length l) t all
so_far_opens begun b y ps at l t all h e = record {
  forth = λ r q.
      let P : Option (List Piece) → Type 0 = λ u. HasParts b y u 0 all in
      subst P (onto_onto ps (ending begun b at) r) (h.forth (onto (ending begun b at) r) (opens_more begun b y at l t r e q));
}

-- ---- at an offset of the octets

pub record Split (begun : Option ℕ) (b y : List ℕ) (ps : List Piece) (at : ℕ) : Type 0 where
  pub so_far : SoFar begun b y ps at (lines (drop at b)) (lines b)
  pub ordered : IfSome begun (λ start. start ≤ at)

line_here : (begun : Option ℕ) (b y : List ℕ) (ps : List Piece) (at n : ℕ) (line : List ℕ) → Here b at line n → Split begun b y ps at
    → SoFar begun b y ps at (line ∷ lines (drop (at + n) b)) (lines b)
line_here begun b y ps at n line h s = let P : List (List ℕ) → Type 0 = λ t. SoFar begun b y ps at t (lines b) in subst P h.first s.so_far

-- past a line that neither delimits nor closes, the pieces and the part that has begun stay as they were
pub at_plain : (begun begun' : Option ℕ) (b y : List ℕ) (ps ps' : List Piece) (at n : ℕ) (line : List ℕ) → Here b at line n → line_mark y line ≡ mark.Plain → Split begun b y ps at
    → begun' ≡ begun → ps' ≡ ps → Split begun' b y ps' (at + n)
at_plain begun begun' b y ps ps' at n line h e s p q =
    let m = so_far_plain begun b y ps at line (lines (drop (at + n) b)) (lines b) (line_here begun b y ps at n line h s) e in
    let P : ℕ → Type 0 = λ k. SoFar begun b y ps (at + k) (lines (drop (at + n) b)) (lines b) in
    let A : Option ℕ → Type 0 = λ o. Split o b y ps (at + n) in
    let B : List Piece → Type 0 = λ u. Split begun' b y u (at + n) in
    subst B (sym q) (subst A (sym p) (record { so_far = subst P (sym h.counted) m; ordered = later begun s.ordered }))
  where
    later : (o : Option ℕ) → IfSome o (λ start. start ≤ at) → IfSome o (λ start. start ≤ at + n)
    later None l = tt
    later (Some start) l = omega (arith, l)

-- past a delimiter line, the part before it, if one has begun, is a piece, and another begins
pub at_opens : (begun begun' : Option ℕ) (b y : List ℕ) (ps ps' : List Piece) (at n : ℕ) (line : List ℕ) → Here b at line n → line_mark y line ≡ mark.Opens → Split begun b y ps at
    → begun' ≡ Some (at + n) → ps' ≡ ps ++ ending begun b at → Split begun' b y ps' (at + n)
at_opens begun begun' b y ps ps' at n line h e s p q =
    let m = so_far_opens begun b y ps at line (lines (drop (at + n) b)) (lines b) (line_here begun b y ps at n line h s) e in
    let P : ℕ → Type 0 = λ k. SoFar (Some (at + k)) b y (ps ++ ending begun b at) (at + k) (lines (drop (at + n) b)) (lines b) in
    let A : Option ℕ → Type 0 = λ o. Split o b y (ps ++ ending begun b at) (at + n) in
    let B : List Piece → Type 0 = λ u. Split begun' b y u (at + n) in
    subst B (sym q) (subst A (sym p) (record { so_far = subst P (sym h.counted) m; ordered = omega arith }))

-- at a closing line the octets are split: the part before it, if one has begun, is the last piece
pub at_closes : (begun : Option ℕ) (b y : List ℕ) (ps ps' : List Piece) (at n : ℕ) (line : List ℕ) → Here b at line n → line_mark y line ≡ mark.Closes → Split begun b y ps at
    → ps' ≡ ps ++ ending begun b at → IsSplit b y (Some ps')
at_closes begun b y ps ps' at n line h e s q =
    let P : List Piece → Type 0 = λ u. IsSplit b y (Some u) in
    let m = line_here begun b y ps at n line h s in
    subst P (sym q) (m.forth (Some (ending begun b at)) (closes_here begun b y at line (lines (drop (at + n) b)) e))

nothing_left : (b : List ℕ) (at : ℕ) → length b ≤ at → lines (drop at b) ≡ []
unfolding lines
nothing_left b at le = ap lines (drop_all at b le)

-- where the octets end in a part that has begun, they are split: that part is the last piece
pub at_end_inside : (begun : Option ℕ) (b y : List ℕ) (start : ℕ) (ps ps' : List Piece) (at : ℕ) → length b ≤ at → Split begun b y ps at → begun ≡ Some start
    → ps' ≡ ps ++ piece start at ∷ [] → IsSplit b y (Some ps')
at_end_inside begun b y start ps ps' at le s e q =
    let P : List Piece → Type 0 = λ u. IsSplit b y (Some u) in
    let L : List (List ℕ) → Type 0 = λ t. Left (Some start) b y (Some (piece start at ∷ [])) at t in
    let O : Option ℕ → Type 0 = λ o. Left o b y (Some (piece start at ∷ [])) at (lines (drop at b)) in
    let m = s.so_far in
    subst P (sym q) (m.forth (Some (piece start at ∷ [])) (subst O (sym e) (subst L (sym (nothing_left b at le)) (ends_inside b y start at))))

-- where the octets end and no part has begun, no delimiter line comes in them
pub at_end_outside : (begun : Option ℕ) (b y : List ℕ) (ps : List Piece) (at : ℕ) → length b ≤ at → Split begun b y ps at → begun ≡ None → IsSplit b y None
at_end_outside begun b y ps at le s e =
    let O : Option ℕ → Type 0 = λ o. Left o b y None at (lines (drop at b)) in
    let m = s.so_far in
    m.forth None (subst O (sym e) (begins b y at (lines (drop at b)) None (nothing_left b at le)))

-- ---- up to a number of pieces

-- any lines can be read on
left_some : (begun : Option ℕ) (b y : List ℕ) (at : ℕ) (t : List (List ℕ)) → (r : Option (List Piece)) × Left begun b y r at t
left_some None b y at [] = (None, begins b y at [] None refl)
left_some (Some start) b y at [] = (Some (piece start at ∷ []), ends_inside b y start at)
left_some begun b y at (l ∷ t) = by (line_mark y l) refl (λ other n. left_some other b y n t)
  where
    by : (m : Mark) → line_mark y l ≡ m → ((other : Option ℕ) (n : ℕ) → (r : Option (List Piece)) × Left other b y r n t)
        → (r : Option (List Piece)) × Left begun b y r at (l ∷ t)
    by mark.Plain e more = let q = more begun (at + length l) in (q.0, plain_more begun b y at l t q.0 e q.1)
    by mark.Opens e more =
        let q = more (Some (at + length l)) (at + length l) in
        (onto (ending begun b at) q.0, opens_more begun b y at l t q.0 e q.1)
    by mark.Closes e more = (Some (ending begun b at), closes_here begun b y at l t e)

left_more : (start : ℕ) (b y : List ℕ) (ps : List Piece) (most at : ℕ) (t : List (List ℕ)) → most ≤ length ps → (r : Option (List Piece)) → Left (Some start) b y r at t
    → HasMoreThan most (onto ps r)
left_more start b y ps most at t le None h = absurd h
left_more start b y ps most at t le (Some []) h = absurd h
left_more start b y ps most at t le (Some (q ∷ qs)) h = omega (arith, length-append ps (q ∷ qs))

-- where a part begins behind as many pieces as are wanted, there are more
pub split_more : (start : ℕ) (b y : List ℕ) (ps : List Piece) (most at : ℕ) → Split (Some start) b y ps at → most ≤ length ps → (r : Option (List Piece)) → IsSplit b y r
    → HasMoreThan most r
split_more start b y ps most at s le r h =
    let q = left_some (Some start) b y at (lines (drop at b)) in
    let P : Option (List Piece) → Type 0 = λ u. HasMoreThan most u in
    subst P (one_split b y (onto ps q.0) r (s.so_far.forth q.0 q.1) h) (left_more start b y ps most at (lines (drop at b)) le q.0 q.1)

-- there is room for the part that has begun
abbrev pub HasRoom : ℕ → Option ℕ → List Piece → Type 0
HasRoom most None ps = ps ≡ []
HasRoom most (Some start) ps = length ps < most

-- with it there are no more than are wanted
pub room_ends : (most : ℕ) (begun : Option ℕ) (b : List ℕ) (at : ℕ) (ps ps' : List Piece) → HasRoom most begun ps → ps' ≡ ps ++ ending begun b at → length ps' ≤ most
room_ends most None b at ps ps' h e = omega (arith, ap length e, length-append ps [], ap length h)
room_ends most (Some start) b at ps ps' h e = omega (arith, ap length e, length-append ps (piece start (before b start at) ∷ []))

-- so at the end of the body
pub room_inside : (most : ℕ) (begun : Option ℕ) (start at : ℕ) (ps ps' : List Piece) → HasRoom most begun ps → begun ≡ Some start → ps' ≡ ps ++ piece start at ∷ []
    → length ps' ≤ most
room_inside most None start at ps ps' h b e = absurd cc
room_inside most (Some s) start at ps ps' h b e = omega (arith, ap length e, length-append ps (piece start at ∷ []))

-- a part that begins where the pieces are fewer than are wanted has room
pub room_begins : (most : ℕ) (begun : Option ℕ) (start : ℕ) (ps : List Piece) → begun ≡ Some start → length ps < most → HasRoom most begun ps
room_begins most begun start ps e h = let P : Option ℕ → Type 0 = λ o. HasRoom most o ps in subst P (sym e) h

-- nothing changed
pub room_stays : (most : ℕ) (begun begun' : Option ℕ) (ps ps' : List Piece) → HasRoom most begun ps → begun' ≡ begun → ps' ≡ ps → HasRoom most begun' ps'
room_stays most begun begun' ps ps' h e f =
    let P : Option ℕ → Type 0 = λ o. HasRoom most o ps' in
    let Q : List Piece → Type 0 = λ u. HasRoom most begun u in
    subst P (sym e) (subst Q (sym f) h)
