-- Texts as one line, by runs of white space and of other octets.
use Rattle.std.proofs.Common.{◌≡◌, ℕ, ◌<◌, ◌≤◌, Bool, true, false, not, ◌&&◌, ◌||◌, eqb, cond, List, [], ◌∷◌, ◌++◌, length, refl, sym, ap, ◌∙◌, subst, append_assoc, arith}
use Rattle.std.specs.List.{flat_map, list_any}
use Rattle.std.proofs.lemmas.Bool.{cond-true, cond-false}
use Rattle.std.proofs.lemmas.List.{length-append}
use Rattle.std.proofs.lemmas.List.Concat.{flat_map-append}
use Rattle.text_words.specs.Cuts.{Each, Stops, front, back}
use Rattle.text_words.specs.LineEnds.{begins_with_lf}
use Rattle.text_words.specs.Octets.{is_white}
use Rattle.text_words.proofs.CutLemmas.{front_back, front_each, back_stops, back_is}
use Rattle.header_words.specs.OneLine.{with_octet, with_ends_alone, line_octet, one_line}

abbrev pub is_plain : ℕ → Bool
is_plain c = not (is_white c)

abbrev pub is_lf : ℕ → Bool
is_lf c = eqb c 10

no_lf : (c : ℕ) → is_white c ≡ false → eqb c 10 ≡ false
no_lf c e = grind arith

plain_white : (c : ℕ) → is_plain c ≡ true → is_white c ≡ false
plain_white c e = by (is_white c) refl e
  where
    by : (q : Bool) → is_white c ≡ q → not q ≡ true → is_white c ≡ false
    by true f g = absurd cc
    by false f g = f

-- an octet that isn't white stays as it is
plain_octet : (c : ℕ) (t : List ℕ) → is_white c ≡ false → with_octet c t ≡ c ∷ t
plain_octet c t e = cond-false (eqb c 10) _ _ (no_lf c e) ∙ cond-false (is_white c && begins_with_lf t) _ _ (ap (λ (q : Bool). q && begins_with_lf t) e)

plain_run : (p r : List ℕ) → Each is_plain p → with_ends_alone (p ++ r) ≡ p ++ with_ends_alone r
plain_run [] r e = refl
plain_run (c ∷ p) r e = ap (with_octet c) (plain_run p r e.1) ∙ plain_octet c (p ++ with_ends_alone r) (plain_white c e.0)

stops_alone : (t : List ℕ) → Stops is_white t → Stops is_white (with_ends_alone t)
stops_alone [] s = tt
stops_alone (c ∷ t) s =
    let P : List ℕ → Type 0 = λ u. Stops is_white u in
    subst P (sym (plain_octet c (with_ends_alone t) s)) s

or_left : (a b : Bool) → (a || b) ≡ false → a ≡ false
or_left true b e = e
or_left false b e = refl

-- no line end begins white space that has none, before a text that isn't white
begins_no_lf : (w a : List ℕ) → list_any is_lf w ≡ false → Stops is_white a → begins_with_lf (w ++ a) ≡ false
begins_no_lf [] [] e s = refl
begins_no_lf [] (d ∷ a) e s = no_lf d s
begins_no_lf (d ∷ w) a e s = or_left (eqb d 10) (list_any is_lf w) e

-- an octet of white space, before white space in which line ends are alone
white_octet : (c : ℕ) (w a : List ℕ) → is_white c ≡ true → Each is_white w → Stops is_white a
    → with_octet c (cond (list_any is_lf w) (10 ∷ []) w ++ a) ≡ cond (eqb c 10 || list_any is_lf w) (10 ∷ []) (c ∷ w) ++ a
white_octet c w a e f s = by (eqb c 10) (list_any is_lf w) refl refl
  where
    by : (q r : Bool) → eqb c 10 ≡ q → list_any is_lf w ≡ r
        → cond q (10 ∷ back is_white (cond r (10 ∷ []) w ++ a)) (cond (is_white c && begins_with_lf (cond r (10 ∷ []) w ++ a)) (cond r (10 ∷ []) w ++ a) (c ∷ (cond r (10 ∷ []) w ++ a)))
        ≡ cond (q || r) (10 ∷ []) (c ∷ w) ++ a
    by true true g h = ap (λ (u : List ℕ). 10 ∷ u) (back_is is_white (10 ∷ []) a (refl, tt) s)
    by true false g h = ap (λ (u : List ℕ). 10 ∷ u) (back_is is_white w a f s)
    by false true g h = ap (λ (b : Bool). cond (b && true) (10 ∷ a) (c ∷ 10 ∷ a)) e
    by false false g h = cond-false (is_white c && begins_with_lf (w ++ a)) _ _ (ap (λ (b : Bool). is_white c && b) (begins_no_lf w a h s) ∙ and_no (is_white c))
      where
        and_no : (b : Bool) → (b && false) ≡ false
        and_no true = refl
        and_no false = refl

white_run : (w r : List ℕ) → Each is_white w → Stops is_white r → with_ends_alone (w ++ r) ≡ cond (list_any is_lf w) (10 ∷ []) w ++ with_ends_alone r
white_run [] r e s = refl
white_run (c ∷ w) r e s = ap (with_octet c) (white_run w r e.1 s) ∙ white_octet c w (with_ends_alone r) e.0 e.1 (stops_alone r s)

-- what white space is shown as
abbrev pub white_text : List ℕ → List ℕ
white_text w = cond (list_any is_lf w) (32 ∷ []) (flat_map line_octet w)

white_shown : (w : List ℕ) → flat_map line_octet (cond (list_any is_lf w) (10 ∷ []) w) ≡ white_text w
white_shown w = by (list_any is_lf w)
  where
    by : (q : Bool) → flat_map line_octet (cond q (10 ∷ []) w) ≡ cond q (32 ∷ []) (flat_map line_octet w)
    by true = refl
    by false = refl

-- a text is white space, other octets, and more
pub taken : (t : List ℕ) → one_line t ≡ white_text (front is_white t) ++ (flat_map line_octet (front is_plain (back is_white t)) ++ one_line (back is_plain (back is_white t)))
taken t =
    let w = front is_white t in
    let b = back is_white t in
    let p = front is_plain b in
    let m = back is_plain b in
    ap (λ (u : List ℕ). flat_map line_octet u)
    (ap with_ends_alone (front_back is_white t) ∙ white_run w b (front_each is_white t) (back_stops is_white t)
    ∙ ap (λ (u : List ℕ). cond (list_any is_lf w) (10 ∷ []) w ++ u) (ap with_ends_alone (front_back is_plain b) ∙ plain_run p m (front_each is_plain b)))
    ∙ flat_map-append line_octet (cond (list_any is_lf w) (10 ∷ []) w) (p ++ with_ends_alone m)
    ∙ ap (λ (u : List ℕ). u ++ flat_map line_octet (p ++ with_ends_alone m)) (white_shown w)
    ∙ ap (λ (u : List ℕ). white_text w ++ u) (flat_map-append line_octet p (with_ends_alone m))

-- white space and other octets were taken, and the line goes on
pub line_more : (t old mid new whole : List ℕ) → old ++ one_line t ≡ whole → mid ≡ old ++ white_text (front is_white t)
    → new ≡ mid ++ flat_map line_octet (front is_plain (back is_white t)) → new ++ one_line (back is_plain (back is_white t)) ≡ whole
line_more t old mid new whole h e f =
    let w = white_text (front is_white t) in
    let p = flat_map line_octet (front is_plain (back is_white t)) in
    let m = one_line (back is_plain (back is_white t)) in
    ap (λ (u : List ℕ). u ++ m) (f ∙ ap (λ (u : List ℕ). u ++ p) e) ∙ append_assoc (old ++ w) p m ∙ append_assoc old w (p ++ m)
    ∙ ap (λ (u : List ℕ). old ++ u) (sym (taken t)) ∙ h

back_within : (p : ℕ → Bool) (t : List ℕ) → length (back p t) ≤ length t
back_within p t = omega (arith, ap length (front_back p t), length-append (front p t) (back p t))

-- something is taken
pub shorter : (t : List ℕ) → 0 < length t → length (back is_plain (back is_white t)) < length t
unfolding back
shorter [] e = absurd (omega arith)
shorter (c ∷ t) e = by (is_white c) refl
  where
    by : (q : Bool) → is_white c ≡ q → length (back is_plain (cond q (back is_white t) (c ∷ t))) < length (c ∷ t)
    by true h = omega (arith, back_within is_plain (back is_white t), back_within is_white t)
    by false h = omega (arith, back_within is_plain t, ap length (cond-true (is_plain c) (back is_plain t) (c ∷ t) (ap not h)))
