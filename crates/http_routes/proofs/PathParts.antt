-- Parts of a path, and where slashes cut them.
use Rattle.std.proofs.Common.{◌≡◌, ◌≢◌, ◌<◌, ◌+◌, ℕ, zero, suc, Bool, true, false, cond, List, [], ◌∷◌, ◌++◌, ◌==◌, length, take, drop}
use Rattle.std.proofs.Common.{add-one, refl, ap, ◌∙◌, arith}
use Rattle.std.specs.List.{position_or_len}
use Rattle.std.proofs.Math.Seq.{take-length}
use Rattle.std.proofs.lemmas.Bool.{ne_eqb, eqb-false}
use Rattle.matchit.specs.Seek.{has_slash, segment}
use Rattle.http_routes.specs.Paths.{HasNoSlash}
use Rattle.http_routes.specs.reading.Parts.{before_slash, after_slash}

-- the same as a test
pub no_slash : (part : List ℕ) → HasNoSlash part → has_slash part ≡ false
no_slash [] none = refl
no_slash (c ∷ part) none =
    let e : (c == 47) ≡ false = ne_eqb c 47 none.0 in
    rw e (no_slash part none.1)

-- and the other way round
pub has_none : (part : List ℕ) → has_slash part ≡ false → HasNoSlash part
has_none [] none = tt
has_none (c ∷ part) none = by (c == 47) refl (has_none part) none
  where
    by : (v : Bool) → (c == 47) ≡ v → (has_slash part ≡ false → HasNoSlash part) → cond v true (has_slash part) ≡ false → HasNoSlash (c ∷ part)
    by true e rest is = absurd cc
    by false e rest is = (eqb-false c 47 e, rest is)

-- a part and the slash after it are a segment
pub segment_part : (part rest : List ℕ) → HasNoSlash part → segment (part ++ 47 ∷ rest) ≡ part ++ 47 ∷ []
segment_part [] rest none = refl
segment_part (c ∷ part) rest none =
    let e : (c == 47) ≡ false = ne_eqb c 47 none.0 in
    rw e (ap (λ (l : List ℕ). c ∷ l) (segment_part part rest none.1))

-- before the end of a segment there is no slash
pub before_end : (m : ℕ) (path : List ℕ) → m < length (segment path) → HasNoSlash (take m path)
before_end zero path small = tt
before_end (suc m) [] small = tt
before_end (suc m) (c ∷ path) small = by (c == 47) refl (before_end m path) small
  where
    by : (v : Bool) → (c == 47) ≡ v → (m < length (segment path) → HasNoSlash (take m path)) → suc m < length (cond v (c ∷ []) (c ∷ segment path))
        → HasNoSlash (take (suc m) (c ∷ path))
    by true e rest less = absurd (omega (arith, less))
    by false e rest less = (eqb-false c 47 e, rest (omega (arith, less)))

-- the first slash stands behind the part before it
slash_behind : (part rest : List ℕ) → HasNoSlash part → position_or_len (λ octet. octet == 47) (part ++ 47 ∷ rest) ≡ length part
slash_behind [] rest none = refl
slash_behind (c ∷ part) rest none =
    let e : (c == 47) ≡ false = ne_eqb c 47 none.0 in
    let more = slash_behind part rest none.1 in
    rw (e, more) (omega arith)

-- and where there is none, it stands behind the end
slash_nowhere : (part : List ℕ) → HasNoSlash part → position_or_len (λ octet. octet == 47) part ≡ length part
slash_nowhere [] none = refl
slash_nowhere (c ∷ part) none =
    let e : (c == 47) ≡ false = ne_eqb c 47 none.0 in
    let more = slash_nowhere part none.1 in
    rw (e, more) (omega arith)

take_front : (part rest : List ℕ) → take (length part) (part ++ rest) ≡ part
take_front [] rest = refl
take_front (c ∷ part) rest = ap (λ (l : List ℕ). c ∷ l) (take_front part rest)

-- what stands behind a list
pub drop_front : (part rest : List ℕ) → drop (length part) (part ++ rest) ≡ rest
drop_front [] rest = refl
drop_front (c ∷ part) rest = drop_front part rest

drop_behind : (part rest : List ℕ) (c : ℕ) → drop (suc (length part)) (part ++ c ∷ rest) ≡ rest
drop_behind [] rest c = refl
drop_behind (d ∷ part) rest c = drop_behind part rest c

-- a part stands before the slash behind it
pub before_part : (part rest : List ℕ) → HasNoSlash part → before_slash (part ++ 47 ∷ rest) ≡ part
before_part part rest none = ap (λ (n : ℕ). take n (part ++ 47 ∷ rest)) (slash_behind part rest none) ∙ take_front part (47 ∷ rest)

-- and all of it where no slash is behind it
pub before_none : (part : List ℕ) → HasNoSlash part → before_slash part ≡ part
before_none part none = ap (λ (n : ℕ). take n part) (slash_nowhere part none) ∙ take-length part

-- what is behind that slash stands after it
pub after_part : (part rest : List ℕ) → HasNoSlash part → after_slash (part ++ 47 ∷ rest) ≡ rest
after_part part rest none =
    ap (λ (n : ℕ). drop (n + 1) (part ++ 47 ∷ rest)) (slash_behind part rest none)
    ∙ ap (λ (n : ℕ). drop n (part ++ 47 ∷ rest)) (add-one (length part))
    ∙ drop_behind part rest 47
