-- The places in a head's lines that the front knows reach the body exactly where the octets have the end of a head.
use Rattle.std.proofs.Common.{◌≡◌, ◌≢◌, ◌∙◌, ◌++◌, ◌||◌, ℕ, Bool, true, false, List, [], ◌∷◌, cond, refl, sym, ap, subst, arith}
use Rattle.std.proofs.Common.{◌⊎◌, inl, inr, All, nat_eq, eqb-true}
use Rattle.std.proofs.lemmas.List.Elements.{All-head, All-tail, All-cons, All-nil}
use Rattle.httparse.specs.Grammar.{LineEnd, crlf, lf, print_end}
use Rattle.client_front.specs.HeadEnd.{stage_after}
use Rattle.client_front.specs.Scanning.{stage_from}
use Rattle.client_front.specs.declared.progress.Stage.{Stage}
use Rattle.client_front.specs.declared.progress.Stage.TheVariants.{Blank, Line, LineStart, Returned, Body}
use Rattle.http_service.specs.Taking.{HaveEnd, HeadLines, IsOfLineEnd}

-- the place after two texts is the one that the second leads to from the place after the first
pub from-append : (stage : Stage) (xs ys : List ℕ) → stage_from stage (xs ++ ys) ≡ stage_from (stage_from stage xs) ys
from-append stage [] ys = refl
from-append stage (c ∷ xs) ys = from-append (stage_after stage c) xs ys

stays_body : (octets : List ℕ) → stage_from Body octets ≡ Body
stays_body [] = refl
stays_body (c ∷ octets) = stays_body octets

differs : (c d : ℕ) → c ≢ d → nat_eq c d ≡ false
differs c d other = by (nat_eq c d) refl
  where
    by : (b : Bool) → nat_eq c d ≡ b → nat_eq c d ≡ false
    by true is = absurd (other (eqb-true c d is))
    by false is = is

same_or_not : (c d : ℕ) → (c ≡ d) ⊎ (c ≢ d)
same_or_not c d = by (nat_eq c d) refl
  where
    by : (b : Bool) → nat_eq c d ≡ b → (c ≡ d) ⊎ (c ≢ d)
    by true is = inl (eqb-true c d is)
    by false is = inr (λ same. grind (arith, is, same))

-- ---- where the end has come, it is seen

skips_blank : (blank octets : List ℕ) → All IsOfLineEnd blank → stage_from Blank (blank ++ octets) ≡ stage_from Blank octets
skips_blank [] octets all = refl
skips_blank (c ∷ blank) octets all =
    let stays : stage_after Blank c ≡ Blank = by (All-head IsOfLineEnd c blank all) in
    ap (λ (s : Stage). stage_from s (blank ++ octets)) stays ∙ skips_blank blank octets (All-tail IsOfLineEnd c blank all)
  where
    by : IsOfLineEnd c → stage_after Blank c ≡ Blank
    by (inl is) = ap (stage_after Blank) is
    by (inr is) = ap (stage_after Blank) is

begins_line : (c : ℕ) → c ≢ 13 → c ≢ 10 → stage_after Blank c ≡ Line
begins_line c no_return no_feed =
    ap (λ (b : Bool). cond (b || nat_eq c 10) Blank Line) (differs c 13 no_return) ∙ ap (λ (b : Bool). cond (false || b) Blank Line) (differs c 10 no_feed)

-- something but line ends has come
abbrev pub Past : Stage → Type 0
Past Blank = ⊥
Past Line = Unit {0}
Past LineStart = Unit {0}
Past Returned = Unit {0}
Past Body = Unit {0}

past_either : (b : Bool) (p q : Stage) → Past p → Past q → Past (cond b p q)
past_either true p q x y = x
past_either false p q x y = y

past_step : (stage : Stage) (c : ℕ) → Past stage → Past (stage_after stage c)
past_step Blank c past = absurd past
past_step Line c past = past_either (nat_eq c 10) LineStart Line tt tt
past_step LineStart c past = past_either (nat_eq c 10) Body (cond (nat_eq c 13) Returned Line) tt (past_either (nat_eq c 13) Returned Line tt tt)
past_step Returned c past = past_either (nat_eq c 10) Body Line tt tt
past_step Body c past = tt

past_from : (stage : Stage) (octets : List ℕ) → Past stage → Past (stage_from stage octets)
past_from stage [] past = past
past_from stage (c ∷ octets) past = past_from (stage_after stage c) octets (past_step stage c past)

-- an empty line after a line's end
empty_line : (stage : Stage) (last : LineEnd) → Past stage → stage_from stage (10 ∷ print_end last) ≡ Body
empty_line Blank last past = absurd past
empty_line Line crlf past = refl
empty_line Line lf past = refl
empty_line LineStart crlf past = refl
empty_line LineStart lf past = refl
empty_line Returned crlf past = refl
empty_line Returned lf past = refl
empty_line Body crlf past = refl
empty_line Body lf past = refl

pub no_end : (octets : List ℕ) → stage_from Blank octets ≢ Body → HaveEnd HeadLines octets → ⊥
no_end octets open_still (blank, first, text, last, rest, all, no_return, no_feed, whole) =
    open_still (
    ap (stage_from Blank) whole
    ∙ skips_blank blank ((first ∷ text) ++ ((10 ∷ print_end last) ++ rest)) all
    ∙ ap (λ (s : Stage). stage_from s (text ++ ((10 ∷ print_end last) ++ rest))) (begins_line first no_return no_feed)
    ∙ from-append Line text ((10 ∷ print_end last) ++ rest)
    ∙ from-append (stage_from Line text) (10 ∷ print_end last) rest
    ∙ ap (λ (s : Stage). stage_from s rest) (empty_line (stage_from Line text) last (past_from Line text tt))
    ∙ stays_body rest)

-- ---- where the end is seen, it has come

-- an empty line stands there, after a line's end
abbrev pub HasEmptyLine : List ℕ → Type 0
HasEmptyLine octets = (text : List ℕ) × (last : LineEnd) × (rest : List ℕ) × (octets ≡ text ++ ((10 ∷ print_end last) ++ rest))

abbrev pub BeginsEmpty : List ℕ → Type 0
BeginsEmpty octets = (last : LineEnd) × (rest : List ℕ) × (octets ≡ print_end last ++ rest)

after_octet : (c : ℕ) (octets : List ℕ) → HasEmptyLine octets → HasEmptyLine (c ∷ octets)
after_octet c octets (text, last, rest, whole) = (c ∷ text, last, rest, ap (λ (l : List ℕ). c ∷ l) whole)

-- what stands where the end is seen from a place on
abbrev pub Stands : Stage → List ℕ → Type 0
Stands Blank octets = HaveEnd HeadLines octets
Stands Line octets = HasEmptyLine octets
Stands LineStart octets = BeginsEmpty octets ⊎ HasEmptyLine octets
Stands Returned octets = BeginsEmpty (13 ∷ octets) ⊎ HasEmptyLine octets
Stands Body octets = Unit {0}

-- octets of line ends before a head
after_blank : (c : ℕ) (octets : List ℕ) → IsOfLineEnd c → HaveEnd HeadLines octets → HaveEnd HeadLines (c ∷ octets)
after_blank c octets is (blank, first, text, last, rest, all, no_return, no_feed, whole) =
    (c ∷ blank, first, text, last, rest, All-cons IsOfLineEnd c blank is all, no_return, no_feed, ap (λ (l : List ℕ). c ∷ l) whole)

stands_before : (stage : Stage) (c : ℕ) (octets : List ℕ) → Stands (stage_after stage c) octets → Stands stage (c ∷ octets)
stands_before Blank c octets more = by (same_or_not c 10) (same_or_not c 13)
  where
    by : (c ≡ 10) ⊎ (c ≢ 10) → (c ≡ 13) ⊎ (c ≢ 13) → HaveEnd HeadLines (c ∷ octets)
    by (inl feed) _ = after_blank c octets (inr feed) (subst (λ (n : ℕ). Stands (stage_after Blank n) octets) feed more)
    by (inr other) (inl return) = after_blank c octets (inl return) (subst (λ (n : ℕ). Stands (stage_after Blank n) octets) return more)
    by (inr other) (inr neither) =
        let inside : HasEmptyLine octets = subst (λ (s : Stage). Stands s octets) (begins_line c neither other) more in
        ([], c, inside.0, inside.1, inside.2, All-nil IsOfLineEnd, neither, other, ap (λ (l : List ℕ). c ∷ l) inside.3)
stands_before Line c octets more = by (same_or_not c 10)
  where
    begun : BeginsEmpty octets ⊎ HasEmptyLine octets → HasEmptyLine (10 ∷ octets)
    begun (inl (last, rest, whole)) = ([], last, rest, ap (λ (l : List ℕ). 10 ∷ l) whole)
    begun (inr later) = after_octet 10 octets later

    by : (c ≡ 10) ⊎ (c ≢ 10) → HasEmptyLine (c ∷ octets)
    by (inl feed) = subst (λ (n : ℕ). HasEmptyLine (n ∷ octets)) (sym feed) (begun (subst (λ (n : ℕ). Stands (stage_after Line n) octets) feed more))
    by (inr other) =
        let stays : stage_after Line c ≡ Line = ap (λ (b : Bool). cond b LineStart Line) (differs c 10 other) in
        after_octet c octets (subst (λ (s : Stage). Stands s octets) stays more)
stands_before LineStart c octets more = by (same_or_not c 10) (same_or_not c 13)
  where
    returned : BeginsEmpty (13 ∷ octets) ⊎ HasEmptyLine octets → BeginsEmpty (13 ∷ octets) ⊎ HasEmptyLine (13 ∷ octets)
    returned (inl here) = inl here
    returned (inr later) = inr (after_octet 13 octets later)

    by : (c ≡ 10) ⊎ (c ≢ 10) → (c ≡ 13) ⊎ (c ≢ 13) → BeginsEmpty (c ∷ octets) ⊎ HasEmptyLine (c ∷ octets)
    by (inl feed) _ = inl (lf, octets, ap (λ (n : ℕ). n ∷ octets) feed)
    by (inr other) (inl return) =
        subst (λ (n : ℕ). BeginsEmpty (n ∷ octets) ⊎ HasEmptyLine (n ∷ octets)) (sym return)
        (returned (subst (λ (n : ℕ). Stands (stage_after LineStart n) octets) return more))
    by (inr other) (inr neither) =
        let stays : stage_after LineStart c ≡ Line =
        ap (λ (b : Bool). cond b Body (cond (nat_eq c 13) Returned Line)) (differs c 10 other) ∙ ap (λ (b : Bool). cond b Returned Line) (differs c 13 neither) in
        inr (after_octet c octets (subst (λ (s : Stage). Stands s octets) stays more))
stands_before Returned c octets more = by (same_or_not c 10)
  where
    by : (c ≡ 10) ⊎ (c ≢ 10) → BeginsEmpty (13 ∷ c ∷ octets) ⊎ HasEmptyLine (c ∷ octets)
    by (inl feed) = inl (crlf, octets, ap (λ (n : ℕ). 13 ∷ n ∷ octets) feed)
    by (inr other) =
        let stays : stage_after Returned c ≡ Line = ap (λ (b : Bool). cond b Body Line) (differs c 10 other) in
        inr (after_octet c octets (subst (λ (s : Stage). Stands s octets) stays more))
stands_before Body c octets more = tt

nothing_stands : (stage : Stage) → stage ≡ Body → Stands stage []
nothing_stands Blank is = absurd cc
nothing_stands Line is = absurd cc
nothing_stands LineStart is = absurd cc
nothing_stands Returned is = absurd cc
nothing_stands Body is = tt

stands_there : (stage : Stage) (octets : List ℕ) → stage_from stage octets ≡ Body → Stands stage octets
stands_there stage [] is = nothing_stands stage is
stands_there stage (c ∷ octets) is = stands_before stage c octets (stands_there (stage_after stage c) octets is)

pub has_end : (octets : List ℕ) → stage_from Blank octets ≡ Body → HaveEnd HeadLines octets
has_end octets is = stands_there Blank octets is
