-- A mark that nothing closes stays so in whatever is left.
use Rattle.std.proofs.Common.{◌≡◌, ℕ, Bool, true, false, ◌==◌, List, [], ◌∷◌, Option, None, Some, refl, sym, ap, subst, ◌∙◌, arith, eqb-true}
use Rattle.std.proofs.lemmas.Bool.{cond-true, cond-false, and_parts, and_left}
use Rattle.text_words.specs.Cuts.{front, back}
use Rattle.text_words.specs.Octets.{is_white}
use Rattle.search_words.specs.SearchTexts.{is_mark, is_special, at_edge, closes, is_in_word}
use Rattle.search_words.specs.reading.OpenMarks.{is_open, AreOpen}
use Rattle.search_words.specs.reading.Parts.{with_octet, phrase_from}
use Rattle.search_words.specs.declared.words.OpenMarks.{OpenMarks}
use Rattle.search_words.proofs.PhraseLemmas.{mark_no_backslash, plain_no_backslash, plain_no_mark, IsMore, one_more, none_more, quoted_step, kept_step, closing_step, backslash_step, plain_step, ends_open}

white_no_special : (c : ℕ) → is_white c ≡ true → is_special c ≡ false
white_no_special c e = grind arith

in_word : (c : ℕ) → is_white c ≡ false → is_in_word c ≡ true
in_word c e = grind arith

not_in_word : (c : ℕ) → is_white c ≡ true → is_in_word c ≡ false
not_in_word c e = grind arith

back_in : (c : ℕ) (t : List ℕ) → is_white c ≡ false → back is_in_word (c ∷ t) ≡ back is_in_word t
unfolding back
back_in c t e = cond-true (is_in_word c) _ _ (in_word c e)

back_at : (c : ℕ) (t : List ℕ) → is_white c ≡ true → back is_in_word (c ∷ t) ≡ c ∷ t
unfolding back
back_at c t e = cond-false (is_in_word c) _ _ (not_in_word c e)

back_none : back is_in_word [] ≡ []
unfolding back
back_none = refl

second_same : (y z : List ℕ × List ℕ) → Some y ≡ Some z → y.1 ≡ z.1
second_same y z i = ap (λ (o : Option (List ℕ × List ℕ)). elim o [ None ↦ y.1 | Some w ↦ w.1 ]) i

module _ (m : ℕ) where
  -- nothing closes it at an octet where nothing closes it from there on
  closes_not : (c : ℕ) (t : List ℕ) → phrase_from m false (c ∷ t) ≡ None → closes m c t ≡ false
  closes_not c t e = by (closes m c t) refl
    where
      by : (q : Bool) → closes m c t ≡ q → closes m c t ≡ false
      by false f = f
      by true f = absurd (let g : None ≡ Some ([], t) = sym e ∙ closing_step m c t f in cc)

  open_behind : (c : ℕ) (t : List ℕ) → (c == 92) ≡ false → phrase_from m false (c ∷ t) ≡ None → phrase_from m false t ≡ None
  open_behind c t f e = none_more c (phrase_from m false t) (sym (plain_step m c t (closes_not c t e) f) ∙ e)

  -- behind a backslash
  open_quoted : (c : ℕ) (t : List ℕ) → phrase_from m true (c ∷ t) ≡ None → phrase_from m false t ≡ None
  open_quoted c t e = by (is_special c) refl
    where
      by : (q : Bool) → is_special c ≡ q → phrase_from m false t ≡ None
      by true s = none_more c (phrase_from m false t) (sym (quoted_step m c t s) ∙ e)
      by false s = none_more c (phrase_from m false t) (none_more 92 (with_octet c (phrase_from m false t)) (sym (kept_step m c t s) ∙ e))

  open_escaping : (c : ℕ) (t : List ℕ) → (c == 92) ≡ true → phrase_from m false (c ∷ t) ≡ None → phrase_from m true t ≡ None
  open_escaping c t f e = sym (backslash_step m c t (closes_not c t e) f) ∙ e

  -- behind a word
  open_past_word : (quoting : Bool) (t : List ℕ) → is_mark m ≡ true → phrase_from m quoting t ≡ None → phrase_from m false (back is_in_word t) ≡ None
  open_past_word true [] k e = ap (phrase_from m false) back_none ∙ ends_open m false
  open_past_word false [] k e = ap (phrase_from m false) back_none ∙ ends_open m false
  open_past_word true (c ∷ t) k e = by (is_white c) refl (open_past_word false t k)
    where
      by : (q : Bool) → is_white c ≡ q → (phrase_from m false t ≡ None → phrase_from m false (back is_in_word t) ≡ None) → phrase_from m false (back is_in_word (c ∷ t)) ≡ None
      by false w more = ap (phrase_from m false) (back_in c t w) ∙ more (open_quoted c t e)
      by true w more =
          let s : is_special c ≡ false = white_no_special c w in
          ap (phrase_from m false) (back_at c t w)
          ∙ plain_step m c t (and_left (c == m) (at_edge t) (plain_no_mark m c k s)) (plain_no_backslash c s)
          ∙ ap (with_octet c) (open_quoted c t e)
  open_past_word false (c ∷ t) k e = by (is_white c) (c == 92) refl refl (open_past_word false t k) (open_past_word true t k)
    where
      by : (q r : Bool) → is_white c ≡ q → (c == 92) ≡ r → (phrase_from m false t ≡ None → phrase_from m false (back is_in_word t) ≡ None)
          → (phrase_from m true t ≡ None → phrase_from m false (back is_in_word t) ≡ None) → phrase_from m false (back is_in_word (c ∷ t)) ≡ None
      by true r w f more behind = ap (phrase_from m false) (back_at c t w) ∙ e
      by false true w f more behind = ap (phrase_from m false) (back_in c t w) ∙ behind (open_escaping c t f e)
      by false false w f more behind = ap (phrase_from m false) (back_in c t w) ∙ more (open_behind c t f e)

  -- behind a phrase that another mark opened
  open_past_phrase : (d : ℕ) (quoting : Bool) (t : List ℕ) (x : List ℕ × List ℕ) → is_mark d ≡ true → phrase_from m quoting t ≡ None → phrase_from d quoting t ≡ Some x
      → phrase_from m false x.1 ≡ None
  open_past_phrase d true [] x k e h = absurd (let f : None ≡ Some x = sym (ends_open d true) ∙ h in cc)
  open_past_phrase d false [] x k e h = absurd (let f : None ≡ Some x = sym (ends_open d false) ∙ h in cc)
  open_past_phrase d true (c ∷ t) x k e h = by (is_special c) refl (λ y. open_past_phrase d false t y k)
    where
      by : (q : Bool) → is_special c ≡ q → ((y : List ℕ × List ℕ) → phrase_from m false t ≡ None → phrase_from d false t ≡ Some y → phrase_from m false y.1 ≡ None)
          → phrase_from m false x.1 ≡ None
      by true s more =
          let one : IsMore c (phrase_from d false t) x = one_more c (phrase_from d false t) x (sym (quoted_step d c t s) ∙ h) in
          ap (phrase_from m false) one.rest ∙ more one.was (open_quoted c t e) one.there
      by false s more =
          let two : IsMore 92 (with_octet c (phrase_from d false t)) x = one_more 92 (with_octet c (phrase_from d false t)) x (sym (kept_step d c t s) ∙ h) in
          let one : IsMore c (phrase_from d false t) two.was = one_more c (phrase_from d false t) two.was two.there in
          ap (phrase_from m false) (two.rest ∙ one.rest) ∙ more one.was (open_quoted c t e) one.there
  open_past_phrase d false (c ∷ t) x k e h = by (closes d c t) (c == 92) refl refl (λ y. open_past_phrase d false t y k) (open_past_phrase d true t x k)
    where
      by : (q r : Bool) → closes d c t ≡ q → (c == 92) ≡ r
          → ((y : List ℕ × List ℕ) → phrase_from m false t ≡ None → phrase_from d false t ≡ Some y → phrase_from m false y.1 ≡ None)
          → (phrase_from m true t ≡ None → phrase_from d true t ≡ Some x → phrase_from m false x.1 ≡ None) → phrase_from m false x.1 ≡ None
      by true r f g more behind =
          let same : Some ([], t) ≡ Some x = sym (closing_step d c t f) ∙ h in
          let parts : ((c == d) ≡ true) × (at_edge t ≡ true) = and_parts (c == d) (at_edge t) f in
          let plain : (c == 92) ≡ false = ap (λ (n : ℕ). n == 92) (eqb-true c d parts.0) ∙ mark_no_backslash d k in
          ap (phrase_from m false) (sym (second_same ([], t) x same)) ∙ open_behind c t plain e
      by false true f g more behind = behind (open_escaping c t g e) (sym (backslash_step d c t f g) ∙ h)
      by false false f g more behind =
          let one : IsMore c (phrase_from d false t) x = one_more c (phrase_from d false t) x (sym (plain_step d c t f g) ∙ h) in
          ap (phrase_from m false) one.rest ∙ more one.was (open_behind c t g e) one.there

-- ---- all marks of which it is known

module _ (o : OpenMarks) where
  pub are_open_behind : (c : ℕ) (t : List ℕ) → (c == 92) ≡ false → AreOpen o (c ∷ t) → AreOpen o t
  are_open_behind c t f known = λ mark m is. open_behind mark c t f (known mark m is)

  pub are_open_past_word : (c : ℕ) (t : List ℕ) → is_white c ≡ false → AreOpen o (c ∷ t) → AreOpen o (back is_in_word t)
  are_open_past_word c t w known = λ mark m is. sym (ap (phrase_from mark false) (back_in c t w)) ∙ open_past_word mark false (c ∷ t) m (known mark m is)

  pub are_open_past_phrase : (d : ℕ) (t : List ℕ) (x : List ℕ × List ℕ) → is_mark d ≡ true → AreOpen o t → phrase_from d false t ≡ Some x → AreOpen o x.1
  are_open_past_phrase d t x k known e = λ mark m is. open_past_phrase mark d false t x k (known mark m is) e

pub white_no_backslash : (c : ℕ) → is_white c ≡ true → (c == 92) ≡ false
white_no_backslash c w = plain_no_backslash c (white_no_special c w)
