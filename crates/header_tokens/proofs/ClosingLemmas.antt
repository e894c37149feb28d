-- What closes a bracket, read from the end of a text to its front.
use Rattle.std.proofs.Common.{◌≡◌, ◌≢◌, subst, ℕ, zero, suc, ◌+◌, ◌-◌, ◌≤◌, Bool, true, false, List, [], ◌∷◌, ◌++◌, inl, inr, length, take, drop, get_or, cond, refl, sym, ap, ◌∙◌, arith, append_assoc, eqb, eqb-true, None}
use Rattle.std.specs.Prelude.{nat_lt}
use Rattle.std.proofs.Math.Seq.{get_or-append_seam}
use Rattle.std.proofs.lemmas.Bool.{eqb-false, ltb-false}
use Rattle.std.proofs.lemmas.List.{length-append, take-append-le, take-append-drop, get_or-take, length-take, take_at}
use Rattle.text_words.specs.Cuts.{Each, front, back}
use Rattle.text_words.proofs.CutLemmas.{front_back, front_each, run_cut}
use Rattle.header_tokens.specs.Tokens.{none, IsBracketed, IsComment, IsQuoted}
use Rattle.header_tokens.specs.reading.TokenReading.{further, close_in}
use Rattle.header_tokens.proofs.BracketSteps.{close_escaped, close_slash, close_down, close_up, close_other, close_none}
use Rattle.header_tokens.proofs.BracketReading.{none_read, none_begins}
use Rattle.header_tokens.proofs.OneToken.{apart_quoted, apart_literal, apart_comment}
use Rattle.header_tokens.specs.Closings.{IsLiteral, IsAngle, is_no_greater_octet, BeginsUnclosed}
use Rattle.header_tokens.specs.reading.ClosingCounts.{unmatched, has_closer, has_greater, is_closed, closings, TellClosings}

-- ---- what nothing closes

-- with no more closing parentheses than comments are open, none of the outer one's closes it
comment_none : (d : ℕ) (e : Bool) (t : List ℕ) → unmatched e t ≤ d → close_in 40 41 d e t ≡ None
unfolding unmatched
comment_none d true [] h = close_none 40 41 d true
comment_none d false [] h = close_none 40 41 d false
comment_none d true (c ∷ t) h = close_escaped 40 41 d c t ∙ ap (further 1) (comment_none d false t h)
comment_none d false (c ∷ t) h = slash (eqb c 92) refl h (λ e k g. comment_none k e t g)
  where
    other : (q : Bool) → eqb c 40 ≡ q → eqb c 92 ≡ false → eqb c 41 ≡ false → cond q (unmatched false t - 1) (unmatched false t) ≤ d
        → ((e : Bool) (k : ℕ) → unmatched e t ≤ k → close_in 40 41 k e t ≡ None) → close_in 40 41 d false (c ∷ t) ≡ None
    other true e f g h more = close_up 40 41 d c t (eqb-false c 92 f) (eqb-false c 41 g) (eqb-true c 40 e) ∙ ap (further 1) (more false (d + 1) (omega arith))
    other false e f g h more = close_other 40 41 d c t (eqb-false c 92 f) (eqb-false c 41 g) (eqb-false c 40 e) ∙ ap (further 1) (more false d h)

    closer : (k : ℕ) → d ≡ k → c ≢ 92 → c ≡ 41 → unmatched false t + 1 ≤ k → ((e : Bool) (k : ℕ) → unmatched e t ≤ k → close_in 40 41 k e t ≡ None)
        → close_in 40 41 d false (c ∷ t) ≡ None
    closer zero w n e h more = absurd (omega arith)
    closer (suc k) w n e h more = close_down 40 41 d c t n e (omega arith) ∙ ap (further 1) (more false (d - 1) (omega arith))

    close : (q : Bool) → eqb c 41 ≡ q → eqb c 92 ≡ false → cond q (unmatched false t + 1) (cond (eqb c 40) (unmatched false t - 1) (unmatched false t)) ≤ d
        → ((e : Bool) (k : ℕ) → unmatched e t ≤ k → close_in 40 41 k e t ≡ None) → close_in 40 41 d false (c ∷ t) ≡ None
    close true e f h more = closer d refl (eqb-false c 92 f) (eqb-true c 41 e) h more
    close false e f h more = other (eqb c 40) refl f e h more

    slash : (q : Bool) → eqb c 92 ≡ q
        → cond q (unmatched true t) (cond (eqb c 41) (unmatched false t + 1) (cond (eqb c 40) (unmatched false t - 1) (unmatched false t))) ≤ d
        → ((e : Bool) (k : ℕ) → unmatched e t ≤ k → close_in 40 41 k e t ≡ None) → close_in 40 41 d false (c ∷ t) ≡ None
    slash true e h more = close_slash 40 41 d c t (eqb-true c 92 e) ∙ ap (further 1) (more true d h)
    slash false e h more = close (eqb c 41) refl e h more

-- without the octet that closes, nothing is closed
closer_none : (k d : ℕ) (e : Bool) (t : List ℕ) → has_closer k e t ≡ false → close_in none k d e t ≡ None
unfolding has_closer
closer_none k d true [] h = close_none none k d true
closer_none k d false [] h = close_none none k d false
closer_none k d true (c ∷ t) h = close_escaped none k d c t ∙ ap (further 1) (closer_none k d false t h)
closer_none k d false (c ∷ t) h = slash (eqb c 92) refl h (λ e n g. closer_none k n e t g)
  where
    other : (q : Bool) → eqb c none ≡ q → c ≢ 92 → c ≢ k → has_closer k false t ≡ false → ((e : Bool) (n : ℕ) → has_closer k e t ≡ false → close_in none k n e t ≡ None)
        → close_in none k d false (c ∷ t) ≡ None
    other true e f g h more = close_up none k d c t f g (eqb-true c none e) ∙ ap (further 1) (more false (d + 1) h)
    other false e f g h more = close_other none k d c t f g (eqb-false c none e) ∙ ap (further 1) (more false d h)

    close : (q : Bool) → eqb c k ≡ q → c ≢ 92 → cond q true (has_closer k false t) ≡ false
        → ((e : Bool) (n : ℕ) → has_closer k e t ≡ false → close_in none k n e t ≡ None) → close_in none k d false (c ∷ t) ≡ None
    close true e f h more = absurd cc
    close false e f h more = other (eqb c none) refl f (eqb-false c k e) h more

    slash : (q : Bool) → eqb c 92 ≡ q → cond q (has_closer k true t) (cond (eqb c k) true (has_closer k false t)) ≡ false
        → ((e : Bool) (n : ℕ) → has_closer k e t ≡ false → close_in none k n e t ≡ None) → close_in none k d false (c ∷ t) ≡ None
    slash true e h more = close_slash none k d c t (eqb-true c 92 e) ∙ ap (further 1) (more true d h)
    slash false e h more = close (eqb c k) refl (eqb-false c 92 e) h more

-- a text with a ">" has one
greater_in : (x y : List ℕ) → has_greater (x ++ 62 ∷ y) ≡ true
unfolding has_greater
greater_in [] y = refl
greater_in (c ∷ x) y = by (eqb c 62) (greater_in x y)
  where
    by : (q : Bool) → has_greater (x ++ 62 ∷ y) ≡ true → cond q true (has_greater (x ++ 62 ∷ y)) ≡ true
    by true e = refl
    by false e = e

-- an octet other than these opens nothing
no_bracket : (first o c k : ℕ) (t x y : List ℕ) → k ≢ first → IsBracketed first o c x → k ∷ t ≢ x ++ y
no_bracket first o c k t x y n i = none_begins first o c (k ∷ t) (λ u w. n (ap (λ (v : List ℕ). get_or v 0 0) w)) x y i

no_comment : (c : ℕ) (t : List ℕ) → is_closed c t ≡ false → (x y : List ℕ) → IsComment x → c ∷ t ≢ x ++ y
no_comment c t h = by (eqb c 40) refl h
  where
    rest : Bool
    rest = cond (eqb c 34) (has_closer 34 false t) (cond (eqb c 91) (has_closer 93 false t) (cond (eqb c 60) (has_greater t) false))

    by : (q : Bool) → eqb c 40 ≡ q → cond q (nat_lt 0 (unmatched false t)) rest ≡ false → (x y : List ℕ) → IsComment x → c ∷ t ≢ x ++ y
    by true e h = none_read 40 40 41 (c ∷ t) t apart_comment (ap (λ (u : ℕ). u ∷ t) (eqb-true c 40 e)) (comment_none 0 false t (ltb-false 0 (unmatched false t) h))
    by false e h = λ x y i. no_bracket 40 40 41 c t x y (eqb-false c 40 e) i

closed_at : (c : ℕ) (t : List ℕ) (k : ℕ) → c ≡ k → is_closed k t ≡ is_closed c t
closed_at c t k e = ap (λ (u : ℕ). is_closed u t) (sym e)

no_quoted : (c : ℕ) (t : List ℕ) → is_closed c t ≡ false → (x y : List ℕ) → IsQuoted x → c ∷ t ≢ x ++ y
no_quoted c t h = by (eqb c 34) refl
  where
    by : (q : Bool) → eqb c 34 ≡ q → (x y : List ℕ) → IsQuoted x → c ∷ t ≢ x ++ y
    by true e = none_read 34 none 34 (c ∷ t) t apart_quoted (ap (λ (u : ℕ). u ∷ t) (eqb-true c 34 e))
        (closer_none 34 0 false t (closed_at c t 34 (eqb-true c 34 e) ∙ h))
    by false e = λ x y i. no_bracket 34 none 34 c t x y (eqb-false c 34 e) i

no_literal : (c : ℕ) (t : List ℕ) → is_closed c t ≡ false → (x y : List ℕ) → IsLiteral x → c ∷ t ≢ x ++ y
no_literal c t h = by (eqb c 91) refl
  where
    by : (q : Bool) → eqb c 91 ≡ q → (x y : List ℕ) → IsLiteral x → c ∷ t ≢ x ++ y
    by true e = none_read 91 none 93 (c ∷ t) t apart_literal (ap (λ (u : ℕ). u ∷ t) (eqb-true c 91 e))
        (closer_none 93 0 false t (closed_at c t 91 (eqb-true c 91 e) ∙ h))
    by false e = λ x y i. no_bracket 91 none 93 c t x y (eqb-false c 91 e) i

no_angle : (c : ℕ) (t : List ℕ) → is_closed c t ≡ false → (x y : List ℕ) → IsAngle x → c ∷ t ≢ x ++ y
no_angle c t h x y a e =
    let w : c ∷ t ≡ 60 ∷ (a.inner ++ 62 ∷ y) = e ∙ ap (λ (u : List ℕ). u ++ y) a.whole ∙ ap (λ (u : List ℕ). 60 ∷ u) (append_assoc a.inner (62 ∷ []) y) in
    let first : c ≡ 60 = ap (λ (v : List ℕ). get_or v 0 0) w in
    let rest : t ≡ a.inner ++ 62 ∷ y = ap (drop 1) w in
    let f : has_greater t ≡ false = closed_at c t 60 first ∙ h in
    let g : has_greater t ≡ true = ap has_greater rest ∙ greater_in a.inner y in
    absurd cc

-- an octet that isn't told to be closed begins nothing that is closed
pub not_closed : (c : ℕ) (t : List ℕ) → is_closed c t ≡ false → BeginsUnclosed (c ∷ t)
not_closed c t h x y (inl i) = no_quoted c t h x y i
not_closed c t h x y (inr (inl i)) = no_comment c t h x y i
not_closed c t h x y (inr (inr (inl i))) = no_literal c t h x y i
not_closed c t h x y (inr (inr (inr i))) = no_angle c t h x y i

-- ---- counts

-- no text has more closing parentheses than octets
pub unmatched_within : (e : Bool) (t : List ℕ) → unmatched e t ≤ length t
unfolding unmatched
unmatched_within true [] = omega arith
unmatched_within false [] = omega arith
unmatched_within true (c ∷ t) = omega (arith, unmatched_within false t)
unmatched_within false (c ∷ t) = slash (eqb c 92) (unmatched_within true t) (unmatched_within false t)
  where
    other : (q : Bool) → unmatched false t ≤ length t → cond q (unmatched false t - 1) (unmatched false t) ≤ suc (length t)
    other true g = omega arith
    other false g = omega arith

    close : (q : Bool) → unmatched false t ≤ length t → cond q (unmatched false t + 1) (cond (eqb c 40) (unmatched false t - 1) (unmatched false t)) ≤ suc (length t)
    close true g = omega arith
    close false g = other (eqb c 40) g

    slash : (q : Bool) → unmatched true t ≤ length t → unmatched false t ≤ length t
        → cond q (unmatched true t) (cond (eqb c 41) (unmatched false t + 1) (cond (eqb c 40) (unmatched false t - 1) (unmatched false t))) ≤ suc (length t)
    slash true f g = omega arith
    slash false f g = close (eqb c 41) g

-- ---- the closings of a text

-- there is one of each octet
pub closings_len : (t : List ℕ) → length (closings t) ≡ length t
closings_len [] = refl
closings_len (c ∷ t) = length-append (closings t) (is_closed c t ∷ []) ∙ omega (arith, closings_len t)

-- those of the end of a text are the first
pub closings_of_end : (x s : List ℕ) → take (length s) (closings (x ++ s)) ≡ closings s
closings_of_end [] s = ap (λ (n : ℕ). take n (closings s)) (sym (closings_len s)) ∙ take_whole (closings s)
  where
    take_whole : (l : List Bool) → take (length l) l ≡ l
    take_whole [] = refl
    take_whole (b ∷ l) = ap (λ (u : List Bool). b ∷ u) (take_whole l)
closings_of_end (c ∷ x) s =
    take-append-le (length s) (closings (x ++ s)) (is_closed c (x ++ s) ∷ []) (omega (arith, closings_len (x ++ s), length-append x s)) ∙ closings_of_end x s

take_twice : (m n : ℕ) (l : List Bool) → m ≤ n → take m (take n l) ≡ take m l
take_twice zero n l h = refl
take_twice (suc m) zero l h = absurd (omega arith)
take_twice (suc m) (suc n) [] h = refl
take_twice (suc m) (suc n) (b ∷ l) h = ap (λ (u : List Bool). b ∷ u) (take_twice m n l (omega arith))

-- what tells the closings of a text tells those of its end
pub tell_end : (closed : List Bool) (x s t : List ℕ) → t ≡ x ++ s → TellClosings closed t → TellClosings closed s
tell_end closed x s t e h =
    let n : length s ≤ length t = omega (arith, ap length e, length-append x s) in
    sym (take_twice (length s) (length t) closed n) ∙ ap (take (length s)) (h ∙ ap closings e) ∙ closings_of_end x s

-- what tells the closings of a text has one of each octet
pub tell_len : (closed : List Bool) (t : List ℕ) → TellClosings closed t → length t ≤ length closed
tell_len closed t h = omega (arith, ap length h, closings_len t, length-take (length t) closed)

-- the last that is told is the first octet's
pub tell_first : (closed : List Bool) (c : ℕ) (t : List ℕ) (d : Bool) → TellClosings closed (c ∷ t) → get_or closed (length t) d ≡ is_closed c t
tell_first closed c t d h =
    sym (get_or-take (length (c ∷ t)) closed (length t) d (omega arith)) ∙ ap (λ (l : List Bool). get_or l (length t) d) h
    ∙ ap (λ (n : ℕ). get_or (closings t ++ is_closed c t ∷ []) n d) (sym (closings_len t)) ∙ get_or-append_seam (closings t) (is_closed c t) [] d

-- so at the front of any text
pub tell_open : (closed : List Bool) (t : List ℕ) (n : ℕ) (d : Bool) → TellClosings closed t → length t ≡ n + 1 → get_or closed n d ≡ false → BeginsUnclosed t
tell_open closed [] n d h e f = absurd (omega arith)
tell_open closed (c ∷ t) n d h e f =
    let m : length t ≡ n = omega arith in
    not_closed c t (sym (tell_first closed c t d h) ∙ ap (λ (k : ℕ). get_or closed k d) m ∙ f)

-- ---- what the code tells

-- what follows the piece of a text and a semicolon is its end
pub tell_behind : (closed : List Bool) (text front rest more : List ℕ) (n : ℕ) → front ≡ take n text → rest ≡ drop n text → rest ≡ 59 ∷ more → TellClosings closed text
    → TellClosings closed more
tell_behind closed text front rest more n f r e h =
    tell_end closed (front ++ 59 ∷ []) more text
    (sym (take-append-drop n text) ∙ ap (λ (u : List ℕ). u ++ drop n text) (sym f) ∙ ap (λ (u : List ℕ). front ++ u) (sym r ∙ e)
    ∙ sym (append_assoc front (59 ∷ []) more)) h

-- the closings of a text tell them
pub tell_all : (closed : List Bool) (t : List ℕ) → closed ≡ closings t → TellClosings closed t
tell_all closed t e = ap (take (length t)) e ∙ closings_of_end [] t

-- ---- angle brackets

-- nor does one that has no ">" behind it
pub angle_none : (text rest : List ℕ) → text ≡ 60 ∷ rest → ((t : List ℕ) → back is_no_greater_octet rest ≢ 62 ∷ t) → (x y : List ℕ) → IsAngle x → text ≢ x ++ y
angle_none text rest w n x y a e =
    let f : ◌≡◌ {A = List ℕ} (60 ∷ rest) (60 ∷ (a.inner ++ 62 ∷ y)) = sym w ∙ e ∙ ap (λ (u : List ℕ). u ++ y) a.whole
    ∙ ap (λ (u : List ℕ). 60 ∷ u) (append_assoc a.inner (62 ∷ []) y) in
    let r : rest ≡ a.inner ++ 62 ∷ y = ap (drop 1) f in
    n y (ap (back is_no_greater_octet) r ∙ sym (run_cut is_no_greater_octet a.inner y 62 a.first refl).back)

-- what stands from "<" up to the next ">"
pub angle_here : (text rest inner more k x y : List ℕ) → text ≡ 60 ∷ rest → inner ≡ front is_no_greater_octet rest → more ≡ back is_no_greater_octet rest → more ≡ 62 ∷ k
    → x ≡ take (length inner + 2) text → y ≡ drop (length inner + 2) text → IsAngle x × (text ≡ x ++ y)
angle_here text rest inner more k x y w f b g e h = (
  record { inner = inner; whole = e ∙ ap (take (length inner + 2)) whole ∙ take_at first k (length inner + 2) len; first = each },
  sym (take-append-drop (length inner + 2) text) ∙ ap (λ (u : List ℕ). u ++ drop (length inner + 2) text) (sym e) ∙ ap (λ (u : List ℕ). x ++ u) (sym h),
)
  where
    first : List ℕ
    first = 60 ∷ (inner ++ 62 ∷ [])

    len : length (60 ∷ (inner ++ 62 ∷ [])) ≡ length inner + 2
    len = omega (arith, length-append inner (62 ∷ []))

    each : Each is_no_greater_octet inner
    each = subst (λ (u : List ℕ). Each is_no_greater_octet u) (sym f) (front_each is_no_greater_octet rest)

    whole : text ≡ (60 ∷ (inner ++ 62 ∷ [])) ++ k
    whole = w ∙ ap (λ (u : List ℕ). 60 ∷ u) (front_back is_no_greater_octet rest ∙ ap (λ (u : List ℕ). u ++ back is_no_greater_octet rest) (sym f)
        ∙ ap (λ (u : List ℕ). inner ++ u) (sym b ∙ g) ∙ sym (append_assoc inner (62 ∷ []) k))

-- it lies within the text
pub angle_within : (text rest inner more k : List ℕ) → text ≡ 60 ∷ rest → inner ≡ front is_no_greater_octet rest → more ≡ back is_no_greater_octet rest → more ≡ 62 ∷ k
    → length inner + 2 ≤ length text
angle_within text rest inner more k w f b g =
    omega (arith, ap length w, ap length (front_back is_no_greater_octet rest), length-append (front is_no_greater_octet rest) (back is_no_greater_octet rest), ap length f, ap length (sym b ∙ g))
