-- Which paths a pattern matches, and that matchit's walk over rows finds a row whose pattern matches.
use Rattle.std.proofs.Common.{◌≡◌, ◌≢◌, ◌<◌, ◌-◌, ◌⊎◌, inl, inr, ℕ, zero, suc, Bool, true, false, cond, List, [], ◌∷◌, ◌++◌, ◌==◌, ◌&&◌, ltb, nat_eq}
use Rattle.std.proofs.Common.{length, take, drop, Option, Some, None, refl, sym, ap, ◌∙◌, subst, arith}
use Rattle.std.specs.List.{ends_with}
use Rattle.std.proofs.lemmas.Bool.{eqb-true, ltb-true, and_parts}
use Rattle.std.proofs.lemmas.List.{take-append-drop, append-nil}
use Rattle.matchit.specs.Rows.{RowsOf, param_token, catch_all_token}
use Rattle.matchit.specs.Seek.{seek, step, own, or_else, param_step, longest_from, longest_suffix, better, cuts, with_suffix, same_text, segment, has_slash}
use Rattle.http_routes.specs.Paths.{IsPathPart}
use Rattle.http_routes.proofs.PathParts.{has_none, before_end}

-- what a pattern's token takes of a path, with this rest: an octet, or a part; what a catch-all takes is left open
abbrev pub TakesToken : ℕ → List ℕ → List ℕ → Type 0
TakesToken x path rest = (path ≡ x ∷ rest) ⊎ (((part : List ℕ) × (x ≡ param_token) × IsPathPart part × (path ≡ part ++ rest)) ⊎ (x ≡ catch_all_token))

abbrev pub MatchesPattern : List ℕ → List ℕ → Type 0
MatchesPattern [] path = path ≡ []
MatchesPattern (x ∷ pattern) path = (rest : List ℕ) × TakesToken x path rest × MatchesPattern pattern rest

-- the word has octets alone, and no other token
abbrev pub is_literal : List ℕ → Bool
is_literal [] = true
is_literal (c ∷ word) = ltb c 256 && is_literal word

-- a path that a pattern matches begins with the octets that the pattern begins with
pub literal_start : (word pattern path : List ℕ) → is_literal word ≡ true → MatchesPattern (word ++ pattern) path
    → (rest : List ℕ) × (path ≡ word ++ rest) × MatchesPattern pattern rest
literal_start [] pattern path low matches = (path, refl, matches)
literal_start (c ∷ word) pattern path low (rest, inl is, matches) =
    let more = literal_start word pattern rest (and_parts (ltb c 256) (is_literal word) low).1 matches in
    (more.0, is ∙ ap (λ (l : List ℕ). c ∷ l) more.1, more.2)
literal_start (c ∷ word) pattern path low (rest, inr (inl (part, wild, is, whole)), matches) =
    let small = ltb-true c 256 (and_parts (ltb c 256) (is_literal word) low).0 in
    absurd (omega (arith, small, wild))
literal_start (c ∷ word) pattern path low (rest, inr (inr wild), matches) =
    let small = ltb-true c 256 (and_parts (ltb c 256) (is_literal word) low).0 in
    absurd (omega (arith, small, wild))

-- and with a part where the pattern begins with a parameter
pub part_start : (pattern path : List ℕ) → MatchesPattern (param_token ∷ pattern) path
    → (part : List ℕ) × (rest : List ℕ) × IsPathPart part × (path ≡ part ++ rest) × MatchesPattern pattern rest
part_start pattern path (rest, inl is, matches) =
    let some : param_token ∷ [] ≢ [] = λ e. cc in
    let other : param_token ≢ 47 = λ e. omega (arith, e) in
    (param_token ∷ [], rest, (some, (other, tt)), is, matches)
part_start pattern path (rest, inr (inl (part, wild, is, whole)), matches) = (part, rest, is, whole, matches)
part_start pattern path (rest, inr (inr wild), matches) = absurd (omega (arith, wild))

-- one that is a parameter matches parts alone
pub last_part : (path : List ℕ) → MatchesPattern (param_token ∷ []) path → IsPathPart path
last_part path matches =
    let p = part_start [] path matches in
    subst IsPathPart (sym (p.3 ∙ ap (λ (l : List ℕ). p.0 ++ l) p.4 ∙ append-nil p.0)) p.2

-- and before a slash it matches a part and the slash
pub part_and_slash : (pattern path : List ℕ) → MatchesPattern (param_token ∷ 47 ∷ pattern) path
    → (part : List ℕ) × (rest : List ℕ) × IsPathPart part × (path ≡ part ++ 47 ∷ rest) × MatchesPattern pattern rest
part_and_slash pattern path matches =
    let p = part_start (47 ∷ pattern) path matches in
    let s = literal_start (47 ∷ []) pattern p.1 refl p.4 in
    (p.0, s.0, p.2, p.3 ∙ ap (λ (l : List ℕ). p.0 ++ l) s.1, s.2)

-- the suffix that is chosen is empty, or leaves something of the segment
abbrev IsShort : List ℕ → List ℕ → Type 0
IsShort seg suffix = (length suffix ≡ 0) ⊎ (length suffix < length seg)

better_short : (seg best suffix : List ℕ) → IsShort seg best → IsShort seg (better seg best suffix)
better_short seg best suffix short = by (ltb (length best) (length suffix)) refl (cuts seg suffix) refl short
  where
    by : (u : Bool) → ltb (length best) (length suffix) ≡ u → (v : Bool) → cuts seg suffix ≡ v → IsShort seg best → IsShort seg (cond (u && v) suffix best)
    by true e true f so = inr (ltb-true (length suffix) (length seg) (and_parts (ltb (length suffix) (length seg)) (ends_with nat_eq seg suffix) f).0)
    by true e false f so = so
    by false e v f so = so

drop_length : (path : List ℕ) → drop (length path) path ≡ []
drop_length [] = refl
drop_length (c ∷ path) = drop_length path

module _ {K : Type 0} where
  -- the path matches the pattern of a row with this value
  abbrev pub HasMatch : List ℕ → K → RowsOf K → Type 0
  HasMatch path key [] = ⊥
  HasMatch path key ((pattern, k) ∷ rows) = ((k ≡ key) × MatchesPattern pattern path) ⊎ HasMatch path key rows

  -- a match after a step is one before it
  stepped : (x : ℕ) (after path : List ℕ) (key : K) (rows : RowsOf K) → TakesToken x path after → HasMatch after key (step x rows) → HasMatch path key rows
  stepped x after path key [] takes has = has
  stepped x after path key (([], k) ∷ rows) takes has = inr (stepped x after path key rows takes has)
  stepped x after path key ((y ∷ pattern, k) ∷ rows) takes has = by (y == x) refl (stepped x after path key rows takes) has
    where
      by : (v : Bool) → (y == x) ≡ v → (HasMatch after key (step x rows) → HasMatch path key rows)
          → HasMatch after key (cond v ((pattern, k) ∷ step x rows) (step x rows)) → HasMatch path key ((y ∷ pattern, k) ∷ rows)
      by true e rest (inl (is, matches)) = inl (is, (after, subst (λ (z : ℕ). TakesToken z path after) (sym (eqb-true y x e)) takes, matches))
      by true e rest (inr more) = inr (rest more)
      by false e rest more = inr (rest more)

  -- a match among some rows is one among all
  some_rows : (suffix path : List ℕ) (key : K) (rows : RowsOf K) → HasMatch path key (with_suffix suffix rows) → HasMatch path key rows
  some_rows suffix path key [] has = has
  some_rows suffix path key ((pattern, k) ∷ rows) has = by (same_text (segment pattern) suffix) (some_rows suffix path key rows) has
    where
      by : (v : Bool) → (HasMatch path key (with_suffix suffix rows) → HasMatch path key rows)
          → HasMatch path key (cond v ((pattern, k) ∷ with_suffix suffix rows) (with_suffix suffix rows)) → HasMatch path key ((pattern, k) ∷ rows)
      by true rest (inl here) = inl here
      by true rest (inr more) = inr (rest more)
      by false rest more = inr (rest more)

  -- a row that ends matches a path that ends
  ended : (key : K) (rows : RowsOf K) → own rows ≡ Some key → HasMatch [] key rows
  ended key [] is = absurd cc
  ended key (([], k) ∷ rows) is = let same : k ≡ key = cc in inl (same, refl)
  ended key ((x ∷ pattern, k) ∷ rows) is = inr (ended key rows is)

  -- a part at the start of a path, with a match of the rest
  abbrev TakesPart : List ℕ → K → RowsOf K → Type 0
  TakesPart path key rows = (part : List ℕ) × (rest : List ℕ) × IsPathPart part × (path ≡ part ++ rest) × HasMatch rest key rows

  -- what is cut inside a segment is a part
  cut_part : (m : ℕ) (c : ℕ) (path : List ℕ) (key : K) (rows : RowsOf K) → 0 < m → m < length (segment (c ∷ path)) → HasMatch (drop (m - 1) path) key rows
      → TakesPart (c ∷ path) key rows
  cut_part zero c path key rows some small has = absurd (omega (arith, some))
  cut_part (suc m) c path key rows some small has =
      let less : suc m - 1 ≡ m = omega arith in
      let begins : take (suc m) (c ∷ path) ≢ [] = λ e. cc in (
        take (suc m) (c ∷ path),
        drop (suc m) (c ∷ path),
        (begins, before_end (suc m) (c ∷ path) small),
        sym (take-append-drop (suc m) (c ∷ path)),
        subst (λ (n : ℕ). HasMatch (drop n path) key rows) less has,
      )

  longest_short : (seg best : List ℕ) (rows : RowsOf K) → IsShort seg best → IsShort seg (longest_from seg best rows)
  longest_short seg best [] short = short
  longest_short seg best ((pattern, k) ∷ rows) short = longest_short seg (better seg best (segment pattern)) rows (better_short seg best (segment pattern) short)

  -- how many octets a parameter takes of a path, and the rows after it, by whether a suffix was chosen and whether there is a slash
  abbrev pub taken : Bool → Bool → List ℕ → RowsOf K → List ℕ → ℕ × RowsOf K
  taken chosen slash suffix rows path = cond chosen (length (segment path) - length suffix, with_suffix suffix rows) (cond slash (0, []) (length path, rows))

  taken_part : (chosen slash : Bool) (suffix : List ℕ) (c : ℕ) (path : List ℕ) (key : K) (rows : RowsOf K) → ltb 0 (length suffix) ≡ chosen → has_slash (c ∷ path) ≡ slash
      → IsShort (segment (c ∷ path)) suffix
      → HasMatch (drop ((taken chosen slash suffix rows (c ∷ path)).0 - 1) path) key (taken chosen slash suffix rows (c ∷ path)).1 → TakesPart (c ∷ path) key rows
  taken_part true slash suffix c path key rows some is (inl none) has =
      let more = ltb-true 0 (length suffix) some in
      absurd (omega (arith, more, none))
  taken_part true slash suffix c path key rows some is (inr short) has =
      let more = ltb-true 0 (length suffix) some in
      cut_part (length (segment (c ∷ path)) - length suffix) c path key rows (omega (arith, short)) (omega (arith, more, short))
      (some_rows suffix (drop (length (segment (c ∷ path)) - length suffix - 1) path) key rows has)
  taken_part false true suffix c path key rows none is short has = absurd has
  taken_part false false suffix c path key rows none is short has =
      let less : length (c ∷ path) - 1 ≡ length path = omega arith in
      let begins : c ∷ path ≢ [] = λ e. cc in (
        c ∷ path,
        [],
        (begins, has_none (c ∷ path) is),
        sym (append-nil (c ∷ path)),
        subst (λ (l : List ℕ). HasMatch l key rows) (ap (λ (n : ℕ). drop n path) less ∙ drop_length path) has,
      )

  -- what a parameter takes is a part
  param_part : (c : ℕ) (path : List ℕ) (key : K) (rows : RowsOf K) → HasMatch (drop ((param_step rows (c ∷ path)).0 - 1) path) key (param_step rows (c ∷ path)).1
      → TakesPart (c ∷ path) key rows
  unfolding param_step
  param_part c path key rows has =
      taken_part (ltb 0 (length (longest_suffix (segment (c ∷ path)) rows))) (has_slash (c ∷ path)) (longest_suffix (segment (c ∷ path)) rows) c path key rows refl refl
      (longest_short (segment (c ∷ path)) [] rows (inl refl)) has

  -- one of three answers, the first that there is
  one_of_three : {A : Type 0} (x y z : Option K) (key : K) → or_else x (or_else y z) ≡ Some key → (x ≡ Some key → A) → (y ≡ Some key → A) → (z ≡ Some key → A) → A
  one_of_three None None z key is first second third = third is
  one_of_three None (Some k) z key is first second third = second is
  one_of_three (Some k) y z key is first second third = first is

  after_part_taken : (path : List ℕ) (key : K) (rows : RowsOf K) → TakesPart path key (step param_token rows) → HasMatch path key rows
  after_part_taken path key rows (part, rest, is, whole, has) = stepped param_token rest path key rows (inr (inl (part, refl, is, whole))) has

  -- what the walk finds is of a row whose pattern the path matches
  pub seek_match : (n : ℕ) (rows : RowsOf K) (path : List ℕ) (key : K) → seek n rows path ≡ Some key → HasMatch (drop n path) key rows
  unfolding seek
  seek_match zero rows [] key is = ended key rows is
  seek_match (suc n) rows [] key is = ended key rows is
  seek_match (suc n) rows (c ∷ path) key is = seek_match n rows path key is
  seek_match zero rows (c ∷ path) key is =
      one_of_three (seek 0 (step c rows) path)
      (seek ((param_step (step param_token rows) (c ∷ path)).0 - 1) (param_step (step param_token rows) (c ∷ path)).1 path)
      (own (step catch_all_token rows)) key is
      (λ e. stepped c path (c ∷ path) key rows (inl refl) (seek_match 0 (step c rows) path key e))
      (λ e. after_part_taken (c ∷ path) key rows (param_part c path key (step param_token rows)
      (seek_match ((param_step (step param_token rows) (c ∷ path)).0 - 1) (param_step (step param_token rows) (c ∷ path)).1 path key e)))
      (λ e. stepped catch_all_token [] (c ∷ path) key rows (inr (inr refl)) (ended key (step catch_all_token rows) e))
