-- Texts without the white space at their ends.
use Rattle.std.proofs.Common.{◌≡◌, ℕ, ◌+◌, ◌-◌, ◌≤◌, Bool, true, false, ◌&&◌, List, [], ◌∷◌, ◌++◌, length, take, get_or, cond, refl, sym, ap, ◌∙◌, arith}
use Rattle.std.specs.List.{list_all}
use Rattle.std.proofs.lemmas.List.{take_all, take_more}
use Rattle.std.proofs.lemmas.Bool.{cond-true}
use Rattle.text_words.specs.Octets.{is_white}
use Rattle.mail_header.specs.WhiteEnd.{without_white_end}

all_last : (p : ℕ → Bool) (x : List ℕ) (c : ℕ) → list_all p (x ++ c ∷ []) ≡ (list_all p x && p c)
all_last p [] c = by (p c)
  where
    by : (b : Bool) → (b && true) ≡ b
    by true = refl
    by false = refl
all_last p (y ∷ x) c = ap (λ (b : Bool). p y && b) (all_last p x c) ∙ regroup (p y) (list_all p x) (p c)
  where
    regroup : (a b c : Bool) → (a && (b && c)) ≡ ((a && b) && c)
    regroup true b c = refl
    regroup false b c = refl

and_true : (b c : Bool) → c ≡ true → (b && c) ≡ b
and_true true c e = e
and_true false c e = refl

and_false : (b c : Bool) → c ≡ false → (b && c) ≡ false
and_false true c e = e
and_false false c e = refl

white_dropped : (x : List ℕ) (c : ℕ) → is_white c ≡ true → without_white_end (x ++ c ∷ []) ≡ without_white_end x
white_dropped [] c e = cond-true (list_all is_white (c ∷ [])) _ _ (ap (λ (b : Bool). b && true) e)
white_dropped (y ∷ x) c e =
    ap (λ (b : Bool). cond b [] (y ∷ without_white_end (x ++ c ∷ []))) (all_last is_white (y ∷ x) c ∙ and_true (list_all is_white (y ∷ x)) (is_white c) e)
    ∙ ap (λ (u : List ℕ). cond (list_all is_white (y ∷ x)) [] (y ∷ u)) (white_dropped x c e)

other_kept : (x : List ℕ) (c : ℕ) → is_white c ≡ false → without_white_end (x ++ c ∷ []) ≡ x ++ c ∷ []
other_kept [] c e = ap (λ (b : Bool). cond (b && true) [] (c ∷ [])) e
other_kept (y ∷ x) c e =
    ap (λ (b : Bool). cond b [] (y ∷ without_white_end (x ++ c ∷ []))) (all_last is_white (y ∷ x) c ∙ and_false (list_all is_white (y ∷ x)) (is_white c) e)
    ∙ ap (λ (u : List ℕ). y ∷ u) (other_kept x c e)

-- a text is what stands before its last octet, and that octet
with_last : (t : List ℕ) (d : ℕ) → 1 ≤ length t → t ≡ take (length t - 1) t ++ get_or t (length t - 1) d ∷ []
with_last t d e = sym (take_all (length t - 1 + 1) t (omega arith)) ∙ take_more t (length t - 1) d (omega arith)

-- where the last octet is white space, the text without it is the same once the white space at the end is dropped
pub last_dropped : (t : List ℕ) (d : ℕ) → 1 ≤ length t → is_white (get_or t (length t - 1) d) ≡ true → without_white_end (take (length t - 1) t) ≡ without_white_end t
last_dropped t d e w = sym (white_dropped (take (length t - 1) t) (get_or t (length t - 1) d) w) ∙ ap without_white_end (sym (with_last t d e))

-- where the last octet isn't white space, no white space is dropped at the end
pub last_kept : (t : List ℕ) (d : ℕ) → 1 ≤ length t → is_white (get_or t (length t - 1) d) ≡ false → without_white_end t ≡ t
last_kept t d e w = ap without_white_end (with_last t d e) ∙ other_kept (take (length t - 1) t) (get_or t (length t - 1) d) w ∙ sym (with_last t d e)
