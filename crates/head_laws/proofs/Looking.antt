-- A client asks exactly where no more octets of its head are missing.
use Rattle.std.proofs.Common.{◌≡◌, ◌∙◌, ◌++◌, ◌||◌, ℕ, Bool, true, false, List, [], ◌∷◌, length, drop, cond, refl, sym, ap, arith, nat_le, Some}
use Rattle.std.proofs.lemmas.Bool.{leb-true, leb-false}
use Rattle.client_front.specs.FirstOctet.{can_begin}
use Rattle.client_front.specs.HeadEnd.{is_body, stage_after}
use Rattle.client_front.specs.Scanning.{coming, coming_at, scanned, stage_from, unscanned}
use Rattle.client_front.specs.Waiting.{asks, is_never}
use Rattle.client_front.specs.declared.progress.Stage.{Stage}
use Rattle.client_front.specs.declared.progress.Stage.TheVariants.{Blank, Line, LineStart, Returned, Body}
use Rattle.http_service.specs.Taking.{HeadLines, IsMissing, LinesOf}
use Rattle.head_laws.proofs.HeadEnds.{has_end, no_end}

body : (stage : Stage) → is_body stage ≡ true → stage ≡ Body
body Body _ = refl
body Blank is = absurd cc
body Line is = absurd cc
body LineStart is = absurd cc
body Returned is = absurd cc

not_body : (stage : Stage) → is_body stage ≡ false → stage ≡ Body → ⊥
not_body Body is _ = cc
not_body Blank _ is = cc
not_body Line _ is = cc
not_body LineStart _ is = cc
not_body Returned _ is = cc

-- the end has come, or the octets are as many as a head has at most
read : (octets : List ℕ) (ends full : Bool) → is_body (stage_from Blank octets) ≡ ends → nat_le 16384 (length octets) ≡ full → ends || full ≡ true
    → IsMissing (LinesOf HeadLines) octets → ⊥
read octets true full is _ _ (open_still, _) = open_still (has_end octets (body (stage_from Blank octets) is))
read octets false true _ is _ (_, short) = omega (arith, leb-true 16384 (length octets) is, short)
read octets false false _ _ whole _ = absurd cc

missing : (octets : List ℕ) → is_body (stage_from Blank octets) || nat_le 16384 (length octets) ≡ false → IsMissing (LinesOf HeadLines) octets
missing octets neither = by (is_body (stage_from Blank octets)) (nat_le 16384 (length octets)) refl refl neither
  where
    by : (ends full : Bool) → is_body (stage_from Blank octets) ≡ ends → nat_le 16384 (length octets) ≡ full → ends || full ≡ false
        → IsMissing (LinesOf HeadLines) octets
    by false false is short _ = (no_end octets (not_body (stage_from Blank octets) is), omega (arith, leb-false 16384 (length octets) short))
    by true _ _ _ isnt = absurd cc
    by false true _ _ isnt = absurd cc

-- ---- what a choice of two says, by a test

both : {A : Type 0} (test : A → Bool) (b : Bool) (x y : A) → test (cond b x y) ≡ true → test y ≡ false → (b ≡ true) × (test x ≡ true)
both test true x y is isnt = (refl, is)
both test false x y is isnt = absurd (let k : true ≡ false = sym is ∙ isnt in cc)

second : {A : Type 0} (test : A → Bool) (b : Bool) (x y : A) → test (cond b x y) ≡ false → test x ≡ true → b ≡ false
second test true x y isnt is = absurd (let k : false ≡ true = sym isnt ∙ is in cc)
second test false x y isnt is = refl

first : {A : Type 0} (test other : A → Bool) (b : Bool) (x y : A) → test (cond b x y) ≡ false → other (cond b x y) ≡ false → other y ≡ true → test x ≡ false
first test other true x y isnt _ _ = isnt
first test other false x y _ isnt is = absurd (let k : false ≡ true = sym isnt ∙ is in cc)

pub whole_is_read : (octets : List ℕ) → asks (coming unscanned (Some octets)) ≡ true → IsMissing (LinesOf HeadLines) octets → ⊥
whole_is_read [] is = absurd cc
whole_is_read (octet ∷ octets) is =
    let ends : Bool = is_body (stage_from Blank (octet ∷ octets)) in
    let full : Bool = nat_le 16384 (length (octet ∷ octets)) in
    let begun : asks (coming_at (scanned (octet ∷ octets) unscanned)) ≡ true =
    (both asks (can_begin octet) (coming_at (scanned (octet ∷ octets) unscanned)) _ is refl).1 in
    read (octet ∷ octets) ends full refl refl (both asks (ends || full) _ _ begun refl).0

pub part_is_missing : (octets : List ℕ) → asks (coming unscanned (Some octets)) ≡ false → is_never (coming unscanned (Some octets)) ≡ false
    → IsMissing (LinesOf HeadLines) octets
part_is_missing [] _ _ = missing [] refl
part_is_missing (octet ∷ octets) isnt goes_on =
    let ends : Bool = is_body (stage_from Blank (octet ∷ octets)) in
    let full : Bool = nat_le 16384 (length (octet ∷ octets)) in
    let waits : asks (coming_at (scanned (octet ∷ octets) unscanned)) ≡ false =
    first asks is_never (can_begin octet) (coming_at (scanned (octet ∷ octets) unscanned)) _ isnt goes_on refl in
    missing (octet ∷ octets) (second asks (ends || full) _ _ waits refl)

-- ---- octets as they come

onward : (stage : Stage) (octets more : List ℕ) → stage_from (stage_from stage octets) (drop (length octets) (octets ++ more)) ≡ stage_from stage (octets ++ more)
onward stage [] more = refl
onward stage (octet ∷ octets) more = onward (stage_after stage octet) octets more

pub looked_through : (octets more : List ℕ) → scanned (octets ++ more) (scanned octets unscanned) ≡ scanned (octets ++ more) unscanned
looked_through octets more = ap (λ (stage : Stage). record { seen = length (octets ++ more); stage = stage }) (onward Blank octets more)
