-- A text without the end of its last line.
use Rattle.std.proofs.Common.{◌≡◌, ℕ, Bool, true, false, ◌&&◌, List, [], ◌∷◌, ◌++◌, length, refl, sym, ap, ◌∙◌, append_assoc, eqb, arith}
use Rattle.std.proofs.lemmas.Bool.{cond-true, cond-false}
use Rattle.std.proofs.lemmas.List.{length-append, nil_from_length, same_from_push}
use Rattle.text_words.specs.LineEnds.{begins_with_lf}
use Rattle.mail_header.specs.Lines.{begins_with_cr, is_line_end, without_end}

no_end : (x : List ℕ) (d : ℕ) → begins_with_lf (d ∷ []) ≡ false → is_line_end (x ++ d ∷ []) ≡ false
no_end [] d e = e
no_end (c ∷ []) d e = by (eqb c 13)
  where
    by : (q : Bool) → (q && eqb d 10) ≡ false
    by true = e
    by false = refl
no_end (c ∷ b ∷ []) d e = refl
no_end (c ∷ b ∷ a ∷ x) d e = refl

-- a text whose last octet is no LF has no end to lose
pub kept_whole : (x : List ℕ) (d : ℕ) → begins_with_lf (d ∷ []) ≡ false → without_end (x ++ d ∷ []) ≡ x ++ d ∷ []
kept_whole [] d e = cond-false (is_line_end (d ∷ [])) _ _ e
kept_whole (c ∷ x) d e = cond-false (is_line_end (c ∷ (x ++ d ∷ []))) _ _ (no_end (c ∷ x) d e) ∙ ap (λ (u : List ℕ). c ∷ u) (kept_whole x d e)

long_no_end : (x : List ℕ) (c d e : ℕ) → is_line_end (c ∷ (x ++ d ∷ e ∷ [])) ≡ false
long_no_end [] c d e = refl
long_no_end (b ∷ x) c d e = by x
  where
    by : (x : List ℕ) → is_line_end (c ∷ b ∷ (x ++ d ∷ e ∷ [])) ≡ false
    by [] = refl
    by (a ∷ x) = refl

-- CR LF at the end is lost
pub crlf_lost : (x : List ℕ) (d e : ℕ) → is_line_end (d ∷ e ∷ []) ≡ true → without_end (x ++ d ∷ e ∷ []) ≡ x
crlf_lost [] d e h = cond-true (is_line_end (d ∷ e ∷ [])) _ _ h
crlf_lost (c ∷ x) d e h = cond-false (is_line_end (c ∷ (x ++ d ∷ e ∷ []))) _ _ (long_no_end x c d e) ∙ ap (λ (u : List ℕ). c ∷ u) (crlf_lost x d e h)

-- LF without a CR at the end is lost
pub lf_lost : (x : List ℕ) (d e : ℕ) → is_line_end (d ∷ e ∷ []) ≡ false → eqb e 10 ≡ true → without_end (x ++ d ∷ e ∷ []) ≡ x ++ d ∷ []
lf_lost [] d e h k = cond-false (is_line_end (d ∷ e ∷ [])) _ _ h ∙ ap (λ (u : List ℕ). d ∷ u) (cond-true (is_line_end (e ∷ [])) _ _ k)
lf_lost (c ∷ x) d e h k = cond-false (is_line_end (c ∷ (x ++ d ∷ e ∷ []))) _ _ (long_no_end x c d e) ∙ ap (λ (u : List ℕ). c ∷ u) (lf_lost x d e h k)

one_octet : (t : List ℕ) → length t ≡ 1 → (d : ℕ) × (t ≡ d ∷ [])
one_octet [] e = absurd (omega arith)
one_octet (d ∷ []) e = (d, refl)
one_octet (d ∷ c ∷ t) e = absurd (omega arith)

two_octets : (t : List ℕ) → length t ≡ 2 → (d : ℕ) × (e : ℕ) × (t ≡ d ∷ e ∷ [])
two_octets [] e = absurd (omega arith)
two_octets (d ∷ []) e = absurd (omega arith)
two_octets (d ∷ c ∷ []) e = (d, c, refl)
two_octets (d ∷ c ∷ b ∷ t) e = absurd (omega arith)

-- two cuts of a text, before its last octet and before the two last
last_is : (t x l y : List ℕ) (d e : ℕ) → t ≡ x ++ l → length l ≡ 1 → t ≡ y ++ d ∷ e ∷ [] → (x ≡ y ++ d ∷ []) × (l ≡ e ∷ [])
last_is t x l y d e w n v =
    let o = one_octet l n in
    let a : x ++ o.0 ∷ [] ≡ (y ++ d ∷ []) ++ e ∷ [] = ap (λ (u : List ℕ). x ++ u) (sym o.1) ∙ sym w ∙ v ∙ sym (append_assoc y (d ∷ []) (e ∷ [])) in
    let s = same_from_push x (y ++ d ∷ []) o.0 e a in
    (s.0, o.1 ∙ ap (λ (c : ℕ). c ∷ []) s.1)

-- a text is cut before its last octet
pub whole_kept : (t x l : List ℕ) → t ≡ x ++ l → length l ≡ 1 → begins_with_lf l ≡ false → t ≡ without_end t
whole_kept t x l w n h =
    let o = one_octet l n in
    let e : t ≡ x ++ o.0 ∷ [] = w ∙ ap (λ (u : List ℕ). x ++ u) o.1 in
    e ∙ sym (kept_whole x o.0 (ap begins_with_lf (sym o.1) ∙ h)) ∙ ap without_end (sym e)

-- of a text that is one LF, what stands before the LF is the text without the end of its line
pub lone_lf : (t x l : List ℕ) → t ≡ x ++ l → length l ≡ 1 → begins_with_lf l ≡ true → length t ≡ 1 → x ≡ without_end t
lone_lf t x l w n h k =
    let o = one_octet l n in
    let z : x ≡ [] = nil_from_length x (omega (arith, ap length w, length-append x l)) in
    let e : t ≡ o.0 ∷ [] = w ∙ ap (λ (u : List ℕ). u ++ l) z ∙ o.1 in
    z ∙ sym (cond-true (is_line_end (o.0 ∷ [])) [] _ (ap begins_with_lf (sym o.1) ∙ h)) ∙ ap without_end (sym e)

-- what stands before a CR LF at the end is the text without the end of its last line
pub crlf_cut : (t x l y m : List ℕ) → t ≡ x ++ l → length l ≡ 1 → begins_with_lf l ≡ true → t ≡ y ++ m → length m ≡ 2 → begins_with_cr m ≡ true → y ≡ without_end t
crlf_cut t x l y m w n h v k c =
    let o = one_octet l n in
    let p = two_octets m k in
    let e : t ≡ y ++ p.0 ∷ p.1 ∷ [] = v ∙ ap (λ (u : List ℕ). y ++ u) p.2 in
    let q = last_is t x l y p.0 p.1 w n e in
    sym (crlf_lost y p.0 p.1 (ap (λ (b : Bool). b && eqb p.1 10) (ap begins_with_cr (sym p.2) ∙ c) ∙ ap begins_with_lf (sym q.1) ∙ h)) ∙ ap without_end (sym e)

-- where the last octet is an LF and the one before it isn't a CR, what stands before the LF is the text without the end of its last line
pub lf_cut : (t x l y m : List ℕ) → t ≡ x ++ l → length l ≡ 1 → begins_with_lf l ≡ true → t ≡ y ++ m → length m ≡ 2 → begins_with_cr m ≡ false → x ≡ without_end t
lf_cut t x l y m w n h v k c =
    let o = one_octet l n in
    let p = two_octets m k in
    let e : t ≡ y ++ p.0 ∷ p.1 ∷ [] = v ∙ ap (λ (u : List ℕ). y ++ u) p.2 in
    let q = last_is t x l y p.0 p.1 w n e in
    q.0 ∙ sym (lf_lost y p.0 p.1 (ap (λ (b : Bool). b && eqb p.1 10) (ap begins_with_cr (sym p.2) ∙ c)) (ap begins_with_lf (sym q.1) ∙ h)) ∙ ap without_end (sym e)
