-- What matchit's walk over rows finds at paths of a known form.
use Rattle.std.proofs.Common.{◌≡◌, ◌≢◌, ◌+◌, ◌-◌, inl, inr, ℕ, suc, Bool, true, false, cond, List, [], ◌∷◌, ◌++◌, ltb, nat_eq, length, drop, length-append}
use Rattle.std.proofs.Common.{◌&&◌, Option, Some, None, refl, sym, ap, ◌∙◌, subst, arith}
use Rattle.std.specs.List.{ends_with}
use Rattle.std.specs.Cmp.Lexicographic.{pointwise}
use Rattle.std.proofs.lemmas.Bool.{lt-ltb, and_from}
use Rattle.matchit.specs.Rows.{RowsOf, param_token, catch_all_token}
use Rattle.matchit.specs.Seek.{seek, step, own, or_else, param_step, cuts, segment, has_slash}
use Rattle.http_routes.specs.Paths.{HasNoSlash, IsPathPart}
use Rattle.http_routes.proofs.PathParts.{no_slash, segment_part, drop_front}
use Rattle.http_routes.proofs.Patterns.{HasMatch, taken, seek_match}

-- a part and the slash after it end with that slash, and with more before it
part_cuts : (part : List ℕ) → part ≢ [] → cuts (part ++ 47 ∷ []) (47 ∷ []) ≡ true
part_cuts [] some = absurd (some refl)
part_cuts (c ∷ part) some =
    let long : length ((c ∷ part) ++ 47 ∷ []) ≡ length (c ∷ part) + 1 = length-append (c ∷ part) (47 ∷ []) in
    let less : length ((c ∷ part) ++ 47 ∷ []) - 1 ≡ length (c ∷ part) = omega (arith, long) in
    let more : ltb 1 (length ((c ∷ part) ++ 47 ∷ [])) ≡ true = lt-ltb 1 (length ((c ∷ part) ++ 47 ∷ [])) (omega (arith, long)) in
    let behind : drop (length ((c ∷ part) ++ 47 ∷ []) - 1) ((c ∷ part) ++ 47 ∷ []) ≡ 47 ∷ [] =
    ap (λ (n : ℕ). drop n ((c ∷ part) ++ 47 ∷ [])) less ∙ drop_front (c ∷ part) (47 ∷ []) in
    and_from (ltb 1 (length ((c ∷ part) ++ 47 ∷ []))) (ends_with nat_eq ((c ∷ part) ++ 47 ∷ []) (47 ∷ [])) more
    (ap (λ (l : List ℕ). pointwise nat_eq (47 ∷ []) l) behind)

module _ {K : Type 0} where
  -- the rows after these octets
  abbrev pub along : List ℕ → RowsOf K → RowsOf K
  along [] rows = rows
  along (c ∷ word) rows = along word (step c rows)

  -- what is found after some octets is found with them
  pub seek_along : (word path : List ℕ) (rows : RowsOf K) (key : K) → seek 0 (along word rows) path ≡ Some key → seek 0 rows (word ++ path) ≡ Some key
  unfolding seek
  seek_along [] path rows key is = is
  seek_along (c ∷ word) path rows key is =
      ap (λ (o : Option K). or_else o (or_else
      (seek ((param_step (step param_token rows) (c ∷ (word ++ path))).0 - 1) (param_step (step param_token rows) (c ∷ (word ++ path))).1 (word ++ path))
      (own (step catch_all_token rows)))) (seek_along word path (step c rows) key is)

  -- at the end of a path a row that ends is found
  pub seek_ends : (rows : RowsOf K) (key : K) → own rows ≡ Some key → seek 0 rows [] ≡ Some key
  unfolding seek
  seek_ends rows key is = is

  seek_end : (part : List ℕ) (rows : RowsOf K) → seek (length part) rows part ≡ own rows
  unfolding seek
  seek_end [] rows = refl
  seek_end (c ∷ part) rows = seek_end part rows

  seek_behind : (part rest : List ℕ) (rows : RowsOf K) → seek (length part) rows (part ++ rest) ≡ seek 0 rows rest
  unfolding seek
  seek_behind [] rest rows = refl
  seek_behind (c ∷ part) rest rows = seek_behind part rest rows

  -- what is found in one row is its value
  one_key : (pattern path : List ℕ) (key other : K) → seek 0 ((pattern, key) ∷ []) path ≡ Some other → other ≡ key
  one_key pattern path key other is = one (seek_match 0 ((pattern, key) ∷ []) path other is)
    where
      one : HasMatch path other ((pattern, key) ∷ []) → other ≡ key
      one (inl (same, matches)) = sym same
      one (inr none) = absurd none

  -- and in two rows it is one of their values
  one_of_two : (P : K → Type 0) (a b path : List ℕ) (one two other : K) → P one → P two → seek 0 ((a, one) ∷ (b, two) ∷ []) path ≡ Some other → P other
  one_of_two P a b path one two other first second is = by (seek_match 0 ((a, one) ∷ (b, two) ∷ []) path other is)
    where
      by : HasMatch path other ((a, one) ∷ (b, two) ∷ []) → P other
      by (inl (same, matches)) = subst P same first
      by (inr (inl (same, matches))) = subst P same second
      by (inr (inr none)) = absurd none

  -- the second of three answers, where the first could be no other
  second_of_three : (x y z : Option K) (key : K) → ((other : K) → x ≡ Some other → other ≡ key) → y ≡ Some key → or_else x (or_else y z) ≡ Some key
  second_of_three None y z key one is = ap (λ (o : Option K). or_else o z) is
  second_of_three (Some other) y z key one is = ap Some (one other refl)

  -- such a value is found
  abbrev pub Finds : (K → Type 0) → Option K → Type 0
  Finds P found = (key : K) × (found ≡ Some key) × P key

  -- of three answers such a one, where the first could be no other and the second is one
  such_of_three : (P : K → Type 0) (x y z : Option K) → ((other : K) → x ≡ Some other → P other) → Finds P y → Finds P (or_else x (or_else y z))
  such_of_three P None y z such (key, is, there) = (key, ap (λ (o : Option K). or_else o z) is, there)
  such_of_three P (Some other) y z such found = (other, refl, such other refl)

  -- a parameter that ends the pattern takes a part that ends the path
  pub seek_last : (part : List ℕ) (key : K) → IsPathPart part → seek 0 ((param_token ∷ [], key) ∷ []) part ≡ Some key
  unfolding seek param_step
  seek_last [] key is = absurd (is.0 refl)
  seek_last (c ∷ part) key is =
      let row : RowsOf K = (param_token ∷ [], key) ∷ [] in
      let after : RowsOf K = ([], key) ∷ [] in
      let goes : Bool → Option K = λ slash. seek ((taken false slash [] after (c ∷ part)).0 - 1) (taken false slash [] after (c ∷ part)).1 part in
      let less : suc (length part) - 1 ≡ length part = omega arith in
      let ends : goes false ≡ Some key = ap (λ (n : ℕ). seek n after part) less ∙ seek_end part after in
      second_of_three (seek 0 (step c row) part) (goes (has_slash (c ∷ part))) (own (step catch_all_token row)) key
      (λ other e. one_key (param_token ∷ []) (c ∷ part) key other (seek_along (c ∷ []) part row other e))
      (ap goes (no_slash (c ∷ part) is.1) ∙ ends)

  -- one that ends the pattern, beside a row that ends before it, takes what ends the path, which may be nothing
  pub seek_name : (P : K → Type 0) (name : List ℕ) (one two : K) → HasNoSlash name → P one → P two
      → Finds P (seek 0 ((param_token ∷ [], one) ∷ ([], two) ∷ []) name)
  unfolding seek
  seek_name P [] one two none first second = (two, refl, second)
  seek_name P (c ∷ name) one two none first second =
      let some : c ∷ name ≢ [] = λ e. cc in
      (one, seek_last (c ∷ name) one (some, none), first)

  -- a parameter before a slash takes the part before that slash, in two rows as well
  pub seek_part : (P : K → Type 0) (part rest a b : List ℕ) (one two : K) → IsPathPart part → P one → P two → Finds P (seek 0 ((a, one) ∷ (b, two) ∷ []) rest)
      → Finds P (seek 0 ((param_token ∷ 47 ∷ a, one) ∷ (param_token ∷ 47 ∷ b, two) ∷ []) (part ++ 47 ∷ rest))
  unfolding seek param_step
  seek_part P [] rest a b one two is first second found = absurd (is.0 refl)
  seek_part P (c ∷ part) rest a b one two is first second found =
      let path : List ℕ = part ++ 47 ∷ rest in
      let rows : RowsOf K = (param_token ∷ 47 ∷ a, one) ∷ (param_token ∷ 47 ∷ b, two) ∷ [] in
      let after : RowsOf K = (47 ∷ a, one) ∷ (47 ∷ b, two) ∷ [] in
      let best : Bool → List ℕ = λ chosen. cond chosen (47 ∷ []) [] in
      let suffix : Bool → List ℕ = λ chosen. cond (ltb (length (best chosen)) 1 && chosen) (47 ∷ []) (best chosen) in
      let takes : Bool → ℕ × RowsOf K = λ chosen. taken (ltb 0 (length (suffix chosen))) (has_slash (c ∷ path)) (suffix chosen) after (c ∷ path) in
      let goes : Bool → Option K = λ chosen. seek ((takes chosen).0 - 1) (takes chosen).1 path in
      let whole : segment (c ∷ path) ≡ (c ∷ part) ++ 47 ∷ [] = segment_part (c ∷ part) rest is.1 in
      let chosen : cuts (segment (c ∷ path)) (47 ∷ []) ≡ true = ap (λ (l : List ℕ). cuts l (47 ∷ [])) whole ∙ part_cuts (c ∷ part) is.0 in
      let long : length ((c ∷ part) ++ 47 ∷ []) ≡ length (c ∷ part) + 1 = length-append (c ∷ part) (47 ∷ []) in
      let segment_long : length (segment (c ∷ path)) ≡ length ((c ∷ part) ++ 47 ∷ []) = ap (λ (l : List ℕ). length l) whole in
      let less : length (segment (c ∷ path)) - 1 - 1 ≡ length part = omega (arith, long, segment_long) in
      let goes_on : goes true ≡ Some found.0 =
      ap (λ (n : ℕ). seek n after path) less ∙ seek_behind part (47 ∷ rest) after ∙ seek_along (47 ∷ []) rest after found.0 found.1 in
      such_of_three P (seek 0 (step c rows) path) (goes (cuts (segment (c ∷ path)) (47 ∷ []))) (own (step catch_all_token rows))
      (λ other e. one_of_two P (param_token ∷ 47 ∷ a) (param_token ∷ 47 ∷ b) (c ∷ path) one two other first second (seek_along (c ∷ []) path rows other e))
      (found.0, ap goes chosen ∙ goes_on, found.2)
