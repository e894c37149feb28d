-- The octets of a literal and the one that follows them are read as what they are.
use Rattle.std.proofs.Common.{◌≡◌, ℕ, zero, suc, ◌+◌, ◌-◌, ◌<◌, ◌≤◌, Bool, true, false, List, [], ◌∷◌, ◌++◌, length, map, take, drop, get_or, cond, refl, sym, ap, subst, ◌∙◌}
use Rattle.std.proofs.Common.{append_assoc, arith, inl, inr, replicate}
use Rattle.std.specs.Prelude.{◌==◌, nat_le, Result, Ok, Err}
use Rattle.std.proofs.lemmas.Bool.{cond-true, cond-false, ne_eqb, le-leb, lt-leb, cases_lt}
use Rattle.std.proofs.lemmas.List.{length-append, length-map, length-replicate, length-take-le, take-append-drop, take_at, drop_at, get_or_at, drop_more, append-nil}
use Rattle.imap_types.proofs.EachLemmas.{each_parts}
use Rattle.imap_types.specs.Octets.{is_inside}
use Rattle.imap_types.specs.Texts.{Each, plain_of, plain_octets}
use Rattle.imap_values.proofs.Cuts.{plain_small}
use Rattle.command_parts.specs.Fields.{fits_octet, AreOctets}
use Rattle.command_parts.specs.declared.no_command.NoCommand.{NoCommand}
use Rattle.command_parts.specs.declared.no_command.NoCommand.TheVariants.{NeedMore, WantsLiteral, Bad}
use Rattle.command_parts.specs.declared.follow.Follow.{Follow}
use Rattle.command_parts.specs.declared.follow.Follow.TheVariants as follow
use Rattle.command_parts.specs.reading.Lexemes.{may_follow}
use Rattle.command_parts.specs.reading.Strings.{octets_at}
use Rattle.command_parts.proofs.Readers.{ends_with_line, stop_of, IsOpen, Stopped, IsReader, some_cons, more_before, plain_cut, seam}

-- ---- what follows

-- an octet that may follow
abbrev pub follow_octet : Follow → ℕ
follow_octet follow.Space = 32
follow_octet follow.Line = 13
follow_octet follow.SpaceOrLine = 32
follow_octet follow.ColonOrSpace = 32
follow_octet follow.Close = 41

pub follows : (f : Follow) → may_follow f (follow_octet f) ≡ true
follows follow.Space = refl
follows follow.Line = refl
follows follow.SpaceOrLine = refl
follows follow.ColonOrSpace = refl
follows follow.Close = refl

pub follow_small : (f : Follow) (c : ℕ) → may_follow f c ≡ true → fits_octet c ≡ true
follow_small follow.Space c e = grind arith
follow_small follow.Line c e = grind arith
follow_small follow.SpaceOrLine c e = grind arith
follow_small follow.ColonOrSpace c e = grind arith
follow_small follow.Close c e = grind arith

pub follow_no_line : (f : Follow) (c : ℕ) → may_follow f c ≡ true → (c == 10) ≡ false
follow_no_line follow.Space c e = grind arith
follow_no_line follow.Line c e = grind arith
follow_no_line follow.SpaceOrLine c e = grind arith
follow_no_line follow.ColonOrSpace c e = grind arith
follow_no_line follow.Close c e = grind arith

-- ---- octets within a literal

-- so many octets, and one that may follow them
pub record IsOctetsBefore (count : ℕ) (f : Follow) (v t : List ℕ) : Type 0 where
  pub octets : List ℕ
  pub stop : ℕ
  pub whole : t ≡ octets ++ stop ∷ []
  pub inside : Each is_inside octets
  pub counted : length octets ≡ count
  pub value : v ≡ plain_octets octets
  pub may : may_follow f stop ≡ true

-- octets as they stand within a literal
abbrev pub marked : List ℕ → List ℕ
marked b = map (λ c. c + 256) b

marked_octet : (c : ℕ) → fits_octet c ≡ true → is_inside (c + 256) ≡ true
marked_octet c e = grind arith

plain_marked_octet : (c : ℕ) → plain_of (c + 256) ≡ c
plain_marked_octet c = grind arith

pub marked_inside : (b : List ℕ) → AreOctets b → Each is_inside (marked b)
marked_inside [] h = tt
marked_inside (c ∷ b) h = (marked_octet c h.0, marked_inside b h.1)

pub plain_marked : (b : List ℕ) → plain_octets (marked b) ≡ b
plain_marked [] = refl
plain_marked (c ∷ b) = ap (λ (n : ℕ). n ∷ plain_octets (marked b)) (plain_marked_octet c) ∙ ap (λ (u : List ℕ). c ∷ u) (plain_marked b)

inside_no_line : (c : ℕ) → is_inside c ≡ true → (c == 10) ≡ false
inside_no_line c e = grind arith

pub inside_open : (t : List ℕ) → Each is_inside t → ends_with_line t ≡ false
inside_open [] h = refl
inside_open (c ∷ []) h = inside_no_line c h.0
inside_open (c ∷ d ∷ t) h = inside_open (d ∷ t) h.1

zeros_octets : (n : ℕ) → AreOctets (replicate n 0)
zeros_octets zero = tt
zeros_octets (suc n) = (refl, zeros_octets n)

-- ---- what is read by its tests

abbrev wants : Result (List ℕ × List ℕ) NoCommand
wants = Err WantsLiteral

abbrev few : Result (List ℕ × List ℕ) NoCommand
few = Err NeedMore

abbrev picked : ℕ → Follow → List ℕ → Result (List ℕ × List ℕ) NoCommand
picked count f b = cond (may_follow f (get_or b count 0)) (Ok (take count b, drop (count + 1) b)) (Err (Bad (length b - count)))

at_few : (count : ℕ) (f : Follow) (b : List ℕ) → 0 < length b → length b ≤ count → octets_at count f b ≡ few
at_few count f b some le =
    cond-false (length b == 0) wants (cond (nat_le (length b) count) few (picked count f b)) (ne_eqb (length b) 0 (λ e. omega (arith, e, some)))
    ∙ cond-true (nat_le (length b) count) few (picked count f b) (le-leb (length b) count le)

at_more : (count : ℕ) (f : Follow) (b : List ℕ) → count < length b → octets_at count f b ≡ picked count f b
at_more count f b lt =
    cond-false (length b == 0) wants (cond (nat_le (length b) count) few (picked count f b)) (ne_eqb (length b) 0 (λ e. omega (arith, e, lt)))
    ∙ cond-false (nat_le (length b) count) few (picked count f b) (lt-leb (length b) count lt)

longer : (count : ℕ) (x rest : List ℕ) (c : ℕ) → length x ≡ count → count < length (x ++ c ∷ rest)
longer count x rest c same = let long = length-append x (c ∷ rest) in omega (arith, long, same)

-- octets before one that may follow
reads_octets : (count : ℕ) (f : Follow) (x rest : List ℕ) (c : ℕ) → length x ≡ count → may_follow f c ≡ true → octets_at count f (x ++ c ∷ rest) ≡ Ok (x, rest)
reads_octets count f x rest c same may =
    let b : List ℕ = x ++ c ∷ rest in
    let at : get_or b count 0 ≡ c = get_or_at x c rest 0 count same in
    let behind : drop (count + 1) b ≡ rest =
    ap (drop (count + 1)) (sym (append_assoc x (c ∷ []) rest)) ∙ drop_at (x ++ c ∷ []) rest (count + 1) (length-append x (c ∷ []) ∙ omega (arith, same)) in
    at_more count f b (longer count x rest c same)
    ∙ cond-true (may_follow f (get_or b count 0)) (Ok (take count b, drop (count + 1) b)) (Err (Bad (length b - count))) (ap (may_follow f) at ∙ may)
    ∙ ap (λ (u : List ℕ). Ok (u, drop (count + 1) b)) (take_at x (c ∷ rest) count same) ∙ ap (λ (u : List ℕ). Ok (x, u)) behind

-- octets before one that may not
wrong_octets : (count : ℕ) (f : Follow) (x rest : List ℕ) (c : ℕ) → length x ≡ count → may_follow f c ≡ false → octets_at count f (x ++ c ∷ rest) ≡ Err (Bad (suc (length rest)))
wrong_octets count f x rest c same may =
    let b : List ℕ = x ++ c ∷ rest in
    let at : get_or b count 0 ≡ c = get_or_at x c rest 0 count same in
    let long = length-append x (c ∷ rest) in
    let left : length b - count ≡ suc (length rest) = omega (arith, long, same) in
    at_more count f b (longer count x rest c same)
    ∙ cond-false (may_follow f (get_or b count 0)) (Ok (take count b, drop (count + 1) b)) (Err (Bad (length b - count))) (ap (may_follow f) at ∙ may)
    ∙ ap (λ (n : ℕ). Err (Bad n)) left

-- ---- the reader

pub octet_alone : (c : ℕ) → fits_octet c ≡ true → plain_octets (c ∷ []) ≡ c ∷ []
octet_alone c e = plain_small (c ∷ []) (e, tt)

octets_whole : (count : ℕ) (f : Follow) (v t rest : List ℕ) → IsOctetsBefore count f v t → octets_at count f (plain_octets t ++ rest) ≡ Ok (v, rest)
octets_whole count f v t rest h =
    ap (λ (u : List ℕ). octets_at count f (plain_octets u ++ rest)) h.whole
    ∙ ap (octets_at count f) (plain_cut h.octets (h.stop ∷ []) rest ∙ ap (λ (u : List ℕ). plain_octets h.octets ++ (u ++ rest)) (octet_alone h.stop (follow_small f h.stop h.may)))
    ∙ reads_octets count f (plain_octets h.octets) rest h.stop (length-map h.octets plain_of ∙ h.counted) h.may
    ∙ ap (λ (u : List ℕ). Ok (u, rest)) (sym h.value)

-- a front within the octets
front_stop : (count : ℕ) (f : Follow) (t : List ℕ) → Each is_inside t → length t ≤ count → octets_at count f (plain_octets t) ≡ Err (stop_of WantsLiteral t)
front_stop count f [] h le = refl
front_stop count f (c ∷ t) h le =
    let long : length (plain_octets (c ∷ t)) ≡ length (c ∷ t) = length-map (c ∷ t) plain_of in
    at_few count f (plain_octets (c ∷ t)) (omega (arith, long)) (omega (arith, long, le))
    ∙ ap (λ (b : Bool). Err (cond b WantsLiteral NeedMore)) (sym (inside_open (c ∷ t) h))

octets_short : (count : ℕ) (f : Follow) (v t more : List ℕ) → IsOctetsBefore count f v (t ++ more) → (more ≡ [] → ⊥)
    → octets_at count f (plain_octets t) ≡ Err (stop_of WantsLiteral t)
octets_short count f v t more h proper = elim (seam t more h.octets (h.stop ∷ []) h.whole) [
  | inl s ↦
      let each = (each_parts is_inside t (s.0 ∷ s.1) (subst (Each is_inside) s.2 h.inside)).0 in
      let long = length-append t (s.0 ∷ s.1) in
      let counted = ap length s.2 in
      front_stop count f t each (omega (arith, long, counted, h.counted))
  | inr s ↦ behind s.0 s.1 s.2
]
  where
    behind : (y : List ℕ) → t ≡ h.octets ++ y → h.stop ∷ [] ≡ y ++ more → octets_at count f (plain_octets t) ≡ Err (stop_of WantsLiteral t)
    behind [] e g =
        let same : h.octets ≡ t = sym (e ∙ append-nil h.octets) in
        let counted = ap length same in
        front_stop count f t (subst (Each is_inside) same h.inside) (omega (arith, counted, h.counted))
    behind (d ∷ y) e g = let tail : [] ≡ y ++ more = cc in absurd (more_before y more proper (sym tail))

octets_found : (count : ℕ) (f : Follow) (b v rest : List ℕ) → AreOctets b → octets_at count f b ≡ Ok (v, rest)
    → (t : List ℕ) × IsOctetsBefore count f v t × (b ≡ plain_octets t ++ rest)
octets_found count f b v rest are e = elim (cases_lt count (length b)) [
  | inl lt ↦ within lt (may_follow f (get_or b count 0)) refl
  | inr le ↦ absurd (without le)
]
  where
    empty_stop : (b : List ℕ) → length b ≡ 0 → octets_at count f b ≡ Ok (v, rest) → ⊥
    empty_stop [] z g = cc
    empty_stop (c ∷ b) z g = cc

    without : length b ≤ count → ⊥
    without le = elim (cases_lt 0 (length b)) [
      | inl some ↦ let g = sym (at_few count f b some le) ∙ e in cc
      | inr none ↦ empty_stop b (omega (arith, none)) e
    ]

    within : count < length b → (may : Bool) → may_follow f (get_or b count 0) ≡ may → (t : List ℕ) × IsOctetsBefore count f v t × (b ≡ plain_octets t ++ rest)
    within lt true may =
        let c : ℕ = get_or b count 0 in
        let front : List ℕ = take count b in
        let cut : b ≡ front ++ c ∷ drop (count + 1) b = sym (take-append-drop count b) ∙ ap (λ (u : List ℕ). front ++ u) (drop_more b count 0 lt) in
        let counted : length front ≡ count = length-take-le count b (omega (arith, lt)) in
        let octets = (each_parts fits_octet front (c ∷ drop (count + 1) b) (subst AreOctets cut are)).0 in
        let g : ◌≡◌ {A = Result (List ℕ × List ℕ) NoCommand} (Ok (front, drop (count + 1) b)) (Ok (v, rest)) = sym
        (ap (octets_at count f) cut ∙ reads_octets count f front (drop (count + 1) b) c counted may) ∙ e in
        let p : ◌≡◌ {A = List ℕ × List ℕ} (front, drop (count + 1) b) (v, rest) = cc in
        let value : front ≡ v = ap (λ (q : List ℕ × List ℕ). q.0) p in
        let left : drop (count + 1) b ≡ rest = ap (λ (q : List ℕ × List ℕ). q.1) p in (
          marked front ++ c ∷ [],
          record {
            octets = marked front;
            stop = c;
            whole = refl;
            inside = marked_inside front octets;
            counted = length-map front (λ c. c + 256) ∙ counted;
            value = sym (plain_marked front ∙ value);
            may = may;
          },
          cut ∙ ap (λ (u : List ℕ). front ++ c ∷ u) left
              ∙ sym (plain_cut (marked front) (c ∷ []) rest ∙ ap (λ (u : List ℕ). u ++ (plain_octets (c ∷ []) ++ rest)) (plain_marked front)
              ∙ ap (λ (u : List ℕ). front ++ (u ++ rest)) (octet_alone c (follow_small f c may))),
        )
    within lt false may =
        let c : ℕ = get_or b count 0 in
        let front : List ℕ = take count b in
        let cut : b ≡ front ++ c ∷ drop (count + 1) b = sym (take-append-drop count b) ∙ ap (λ (u : List ℕ). front ++ u) (drop_more b count 0 lt) in
        let counted : length front ≡ count = length-take-le count b (omega (arith, lt)) in
        let g = sym (ap (octets_at count f) cut ∙ wrong_octets count f front (drop (count + 1) b) c counted may) ∙ e in absurd cc

-- octets that are few begin a text
few_open : (count : ℕ) (f : Follow) (b : List ℕ) (e : NoCommand) → AreOctets b → length b ≤ count → e ≡ stop_of WantsLiteral (marked b)
    → IsOpen (IsOctetsBefore count f) WantsLiteral b e
few_open count f b e are le stop =
    let zeros : List ℕ = marked (replicate (count - length b) 0) in
    let long : length zeros ≡ count - length b = length-map (replicate (count - length b) 0) (λ c. c + 256) ∙ length-replicate (count - length b) 0 in
    let all = length-append (marked b) zeros in
    let front = length-map b (λ c. c + 256) in
    record {
      value = plain_octets (marked b ++ zeros);
      text = marked b;
      more = zeros ++ follow_octet f ∷ [];
      reads = record {
        octets = marked b ++ zeros;
        stop = follow_octet f;
        whole = sym (append_assoc (marked b) zeros (follow_octet f ∷ []));
        inside = joined (marked b) zeros (marked_inside b are) (marked_inside (replicate (count - length b) 0) (zeros_octets (count - length b)));
        counted = omega (arith, all, front, long, le);
        value = refl;
        may = follows f;
      };
      proper = more_before zeros (follow_octet f ∷ []) (some_cons (follow_octet f) []);
      octets = plain_marked b;
      stop = stop;
    }
  where
    joined : (x y : List ℕ) → Each is_inside x → Each is_inside y → Each is_inside (x ++ y)
    joined [] y h k = k
    joined (c ∷ x) y h k = (h.0, joined x y h.1 k)

octets_stopped : (count : ℕ) (f : Follow) (b : List ℕ) (e : NoCommand) → AreOctets b → octets_at count f b ≡ Err e
    → Stopped (IsOctetsBefore count f) (octets_at count f) WantsLiteral b e
octets_stopped count f b e are h = elim (cases_lt count (length b)) [
  | inl lt ↦ within lt (may_follow f (get_or b count 0)) refl e h
  | inr le ↦ before b are le e h
]
  where
    before : (b : List ℕ) → AreOctets b → length b ≤ count → (e : NoCommand) → octets_at count f b ≡ Err e → Stopped (IsOctetsBefore count f) (octets_at count f) WantsLiteral b e
    before [] are le NeedMore h = absurd cc
    before [] are le WantsLiteral h = few_open count f [] WantsLiteral are le refl
    before [] are le (Bad left) h = absurd cc
    before (c ∷ b) are le NeedMore h = few_open count f (c ∷ b) NeedMore are le
        (ap (λ (l : Bool). cond l WantsLiteral NeedMore) (sym (inside_open (marked (c ∷ b)) (marked_inside (c ∷ b) are))))
    before (c ∷ b) are le WantsLiteral h = let g = sym (at_few count f (c ∷ b) (omega arith) le) ∙ h in absurd cc
    before (c ∷ b) are le (Bad left) h = let g = sym (at_few count f (c ∷ b) (omega arith) le) ∙ h in absurd cc

    no_other : count < length b → may_follow f (get_or b count 0) ≡ false → (e : NoCommand) → octets_at count f b ≡ Err e → ((left : ℕ) → Bad left ≡ e → ⊥) → ⊥
    no_other lt may e h k =
        let c : ℕ = get_or b count 0 in
        let front : List ℕ = take count b in
        let rest : List ℕ = drop (count + 1) b in
        let cut : b ≡ front ++ c ∷ rest = sym (take-append-drop count b) ∙ ap (λ (u : List ℕ). front ++ u) (drop_more b count 0 lt) in
        let counted : length front ≡ count = length-take-le count b (omega (arith, lt)) in
        let g : ◌≡◌ {A = Result (List ℕ × List ℕ) NoCommand} (Err (Bad (suc (length rest)))) (Err e) = sym
        (ap (octets_at count f) cut ∙ wrong_octets count f front rest c counted may) ∙ h in
        k (suc (length rest)) cc

    within : count < length b → (may : Bool) → may_follow f (get_or b count 0) ≡ may → (e : NoCommand) → octets_at count f b ≡ Err e
        → Stopped (IsOctetsBefore count f) (octets_at count f) WantsLiteral b e
    within lt true may e h =
        let c : ℕ = get_or b count 0 in
        let front : List ℕ = take count b in
        let cut : b ≡ front ++ c ∷ drop (count + 1) b = sym (take-append-drop count b) ∙ ap (λ (u : List ℕ). front ++ u) (drop_more b count 0 lt) in
        let counted : length front ≡ count = length-take-le count b (omega (arith, lt)) in
        let g = sym (ap (octets_at count f) cut ∙ reads_octets count f front (drop (count + 1) b) c counted may) ∙ h in absurd cc
    within lt false may NeedMore h = absurd (no_other lt may NeedMore h (λ left k. cc))
    within lt false may WantsLiteral h = absurd (no_other lt may WantsLiteral h (λ left k. cc))
    within lt false may (Bad left) h =
        let c : ℕ = get_or b count 0 in
        let front : List ℕ = take count b in
        let rest : List ℕ = drop (count + 1) b in
        let cut : b ≡ front ++ c ∷ rest = sym (take-append-drop count b) ∙ ap (λ (u : List ℕ). front ++ u) (drop_more b count 0 lt) in
        let counted : length front ≡ count = length-take-le count b (omega (arith, lt)) in
        let octets = (each_parts fits_octet front (c ∷ rest) (subst AreOctets cut are)).0 in
        let g : ◌≡◌ {A = Result (List ℕ × List ℕ) NoCommand} (Err (Bad (suc (length rest)))) (Err (Bad left)) = sym
        (ap (octets_at count f) cut ∙ wrong_octets count f front rest c counted may) ∙ h in
        let left_is : suc (length rest) ≡ left = cc in
        record {
          value = plain_octets (marked front);
          text = marked front;
          more = follow_octet f ∷ [];
          octet = c;
          rest = rest;
          reads = record {
            octets = marked front;
            stop = follow_octet f;
            whole = refl;
            inside = marked_inside front octets;
            counted = length-map front (λ c. c + 256) ∙ counted;
            value = refl;
            may = follows f;
          };
          proper = some_cons (follow_octet f) [];
          whole = cut ∙ ap (λ (u : List ℕ). u ++ c ∷ rest) (sym (plain_marked front));
          left_is = sym left_is;
          stays = λ r. ap (λ (u : List ℕ). octets_at count f (u ++ c ∷ r)) (plain_marked front) ∙ wrong_octets count f front r c counted may;
        }

-- so many octets of a literal and the one that follows are read
pub octets_reader : (count : ℕ) (f : Follow) → IsReader WantsLiteral (IsOctetsBefore count f) (octets_at count f)
octets_reader count f = record {
  whole = octets_whole count f;
  short = octets_short count f;
  found = octets_found count f;
  stopped = octets_stopped count f;
  some =
      let zeros : List ℕ = marked (replicate count 0) in (
        plain_octets zeros,
        zeros ++ follow_octet f ∷ [],
        record {
          octets = zeros;
          stop = follow_octet f;
          whole = refl;
          inside = marked_inside (replicate count 0) (zeros_octets count);
          counted = length-map (replicate count 0) (λ c. c + 256) ∙ length-replicate count 0;
          value = refl;
          may = follows f;
        },
      );
}
