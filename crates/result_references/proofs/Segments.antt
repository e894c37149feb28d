-- Pointers cut at their slashes, and the escapes of tokens undone.
use Rattle.std.proofs.Common.{◌≡◌, ◌≢◌, ℕ, suc, ◌+◌, ◌<◌, List, [], ◌∷◌, ◌++◌, map, length, take, drop, Bool, true, false, ◌==◌, if◌then◌else◌, Option, Some, None, option_map, is_some, refl, sym, ap, subst, ◌∙◌, arith, ne_eqb, length-append, append_assoc}
use Rattle.std.specs.Prelude.{option_and_then}
use Rattle.std.proofs.lemmas.Bool.{eqb-true}
use Rattle.std.proofs.lemmas.List.{append-nil, take_at, drop_at}
use Rattle.std.proofs.lemmas.List.Splits.{slice_split-cons_no}
use Rattle.std.specs.List.{slice_split, onto_first}
use Rattle.serde_json.proofs.Paths.{Lacks, walk_last}
use Rattle.serde_json.specs.Data.{Data, null, boolean, number, string, array, object, Items}
use Rattle.serde_json.specs.Find.{get, as_object, pointer, unescape, step, walk}
use Rattle.result_references.specs.References.{after_first, segments_of}
use Rattle.result_references.specs.reading.Reaching.{IsPointer, IsSegment, Cuts, segments_in, AtStar, starred, reached, reached_by}

-- ---- the slash at the front

-- a text that begins with an octet
pub first_octet : (octet : ℕ) (text rest : List ℕ) → Some rest ≡ after_first octet text → text ≡ octet ∷ rest
first_octet octet [] rest is = cc
first_octet octet (x ∷ xs) rest is = go (x == octet) refl is
  where
    go : (t : Bool) → (x == octet) ≡ t → Some rest ≡ (if t then Some xs else None) → x ∷ xs ≡ octet ∷ rest
    go true at is = let same : xs ≡ rest = cc in ap (λ n. n ∷ xs) (eqb-true x octet at) ∙ ap (λ (ys : List ℕ). octet ∷ ys) same
    go false at is = cc

-- the segments of a pointer
pub segments-pointer : (path : List ℕ) → IsPointer path → segments_of path ≡ Some (segments_in path)
segments-pointer [] pointer = refl
segments-pointer (x ∷ xs) pointer = go (x == 47) pointer
  where
    go : (t : Bool) → is_some (option_map (λ tokens. map (λ token. 47 ∷ token) (slice_split (λ b. b == 47) tokens)) (if t then Some xs else None)) ≡ true → option_map (λ tokens. map (λ token. 47 ∷ token) (slice_split (λ b. b == 47) tokens)) (if t then Some xs else None) ≡ Some (segments_in (x ∷ xs))
    go true pointer = refl
    go false pointer = cc

-- ---- the next slash

split_none : (xs : List ℕ) → Lacks 47 xs → slice_split (λ b. b == 47) xs ≡ xs ∷ []
split_none [] lacks = refl
split_none (x ∷ xs) lacks =
    slice_split-cons_no (λ b. b == 47) x xs (ne_eqb x 47 (lacks 0 (omega arith))) ∙ ap (onto_first x) (split_none xs (λ i less. lacks (suc i) (omega arith)))

split_at : (xs ys : List ℕ) → Lacks 47 xs → slice_split (λ b. b == 47) (xs ++ 47 ∷ ys) ≡ xs ∷ slice_split (λ b. b == 47) ys
split_at [] ys lacks = refl
split_at (x ∷ xs) ys lacks =
    slice_split-cons_no (λ b. b == 47) x (xs ++ 47 ∷ ys) (ne_eqb x 47 (lacks 0 (omega arith))) ∙ ap (onto_first x) (split_at xs ys (λ i less. lacks (suc i) (omega arith)))

-- the last segment of a pointer is all of it
pub cuts-last : (path token : List ℕ) → path ≡ 47 ∷ token → Lacks 47 token → Cuts path path []
cuts-last path token is lacks = (
  (token, is, lacks),
  refl,
  sym (append-nil path),
  ap segments_in is ∙ ap (map (λ (t : List ℕ). 47 ∷ t)) (split_none token lacks) ∙ ap (λ (s : List ℕ). s ∷ []) (sym is),
)

whole : (path after token more : List ℕ) → path ≡ 47 ∷ after → after ≡ token ++ 47 ∷ more → path ≡ (47 ∷ token) ++ 47 ∷ more
whole path after token more is cut = is ∙ ap (λ (xs : List ℕ). 47 ∷ xs) cut

-- a segment before another one
pub cuts-at : (path after token more segment behind : List ℕ) → path ≡ 47 ∷ after → after ≡ token ++ 47 ∷ more → Lacks 47 token
    → segment ≡ take (length token + 1) path → behind ≡ drop (length token + 1) path → Cuts path segment behind
cuts-at path after token more segment behind is cut lacks front back =
    let all = whole path after token more is cut in
    let long : length (47 ∷ token) ≡ length token + 1 = omega arith in
    let first : segment ≡ 47 ∷ token = front ∙ ap (take (length token + 1)) all ∙ take_at (47 ∷ token) (47 ∷ more) (length token + 1) long in
    let rest : behind ≡ 47 ∷ more = back ∙ ap (drop (length token + 1)) all ∙ drop_at (47 ∷ token) (47 ∷ more) (length token + 1) long in
    let both : Cuts path (47 ∷ token) (47 ∷ more) = ((token, refl, lacks), refl, all, ap segments_in all ∙ ap (map (λ (t : List ℕ). 47 ∷ t)) (split_at token more lacks)) in
    rw (first, rest) both

-- behind a segment there is less of the path
pub shorter : (path segment behind : List ℕ) → Cuts path segment behind → length behind < length path
shorter path segment behind cut = omega (arith, ap length cut.2, length-append segment behind, ap length cut.0.1)

-- ---- where a pointer leads

module _ (path segment behind : List ℕ) (cut : Cuts path segment behind) (d : Data) where
  first_step : reached (segments_in path) d ≡ reached_by segment (segments_in behind) (reached (segments_in behind)) d (starred segment d)
  first_step = ap (λ (segments : List (List ℕ)). reached segments d) cut.3

  plain_step : None ≡ starred segment d → reached (segments_in path) d ≡ option_and_then (reached (segments_in behind)) (pointer segment d)
  plain_step plain = first_step ∙ ap (reached_by segment (segments_in behind) (reached (segments_in behind)) d) (sym plain)

  -- over an array at a `*`
  pub reached-star : (items : Items) → Some items ≡ starred segment d → reached (segments_in path) d ≡ Some (AtStar items (segments_in behind))
  reached-star items at = first_step ∙ ap (reached_by segment (segments_in behind) (reached (segments_in behind)) d) (sym at)

  -- a step further
  pub reached-step : (e : Data) → None ≡ starred segment d → Some e ≡ pointer segment d → reached (segments_in path) d ≡ reached (segments_in behind) e
  reached-step e plain found = plain_step plain ∙ ap (option_and_then (reached (segments_in behind))) (sym found)

  -- to nothing
  pub reached-nothing : None ≡ starred segment d → None ≡ pointer segment d → reached (segments_in path) d ≡ None
  reached-nothing plain none = plain_step plain ∙ ap (option_and_then (reached (segments_in behind))) (sym none)

-- ---- escapes

-- an octet that isn't `~` stands for itself
unescape-other : (x : ℕ) (ys : List ℕ) → x ≢ 126 → unescape (x ∷ ys) ≡ x ∷ unescape ys
unfolding unescape
unescape-other x [] other = refl
unescape-other x (y ∷ ys) other = rw (ne_eqb x 126 other) refl

-- and so does a text without one
pub unescape-before : (xs ys : List ℕ) → Lacks 126 xs → unescape (xs ++ 126 ∷ ys) ≡ xs ++ unescape (126 ∷ ys)
unescape-before [] ys lacks = refl
unescape-before (x ∷ xs) ys lacks =
    unescape-other x (xs ++ 126 ∷ ys) (lacks 0 (omega arith)) ∙ ap (λ (zs : List ℕ). x ∷ zs) (unescape-before xs ys (λ i less. lacks (suc i) (omega arith)))

-- one more text without `~`, and what a `~` stands for, behind a name so far
pub unescape-more : (whole name rest plain escaped stands behind : List ℕ) → whole ≡ name ++ unescape rest → rest ≡ plain ++ 126 ∷ escaped → Lacks 126 plain
    → unescape (126 ∷ escaped) ≡ stands ++ unescape behind → whole ≡ ((name ++ plain) ++ stands) ++ unescape behind
unescape-more whole name rest plain escaped stands behind is cut lacks for =
    is
    ∙ ap (λ (s : List ℕ). name ++ s) (ap unescape cut ∙ unescape-before plain escaped lacks ∙ ap (λ (s : List ℕ). plain ++ s) for)
    ∙ sym (append_assoc (name ++ plain) stands (unescape behind) ∙ append_assoc name plain (stands ++ unescape behind))

-- `~1`
pub unescape-one : (text behind : List ℕ) → text ≡ 49 ∷ behind → unescape (126 ∷ text) ≡ 47 ∷ unescape behind
unfolding unescape
unescape-one text behind is = rw is refl

-- `~0`
pub unescape-zero : (text behind : List ℕ) → text ≡ 48 ∷ behind → unescape (126 ∷ text) ≡ 126 ∷ unescape behind
unfolding unescape
unescape-zero text behind is = rw is refl

-- another `~`
pub unescape-neither : (text : List ℕ) → ((rest : List ℕ) → text ≢ 49 ∷ rest) → ((rest : List ℕ) → text ≢ 48 ∷ rest) → unescape (126 ∷ text) ≡ 126 ∷ unescape text
unfolding unescape
unescape-neither [] one zero = refl
unescape-neither (y ∷ ys) one zero =
    rw (ne_eqb y 49 (λ e. one ys (ap (λ n. n ∷ ys) e)), ne_eqb y 48 (λ e. zero ys (ap (λ n. n ∷ ys) e))) refl

-- the member of an object that a segment names
pub member-named : (segment token : List ℕ) (d : Data) → IsSegment segment → segment ≡ 47 ∷ token → is_some (as_object d) ≡ true → get (unescape token) d ≡ pointer segment d
member-named segment token null is begins object_is = cc
member-named segment token (boolean b) is begins object_is = cc
member-named segment token (number n) is begins object_is = cc
member-named segment token (string s) is begins object_is = cc
member-named segment token (array ds) is begins object_is = cc
member-named segment token (object ms) is begins object_is =
    let same : is.0 ≡ token = cc in
    sym (ap (λ (s : List ℕ). pointer s (object ms)) begins ∙ walk_last token (object ms) (subst (Lacks 47) same is.2))
