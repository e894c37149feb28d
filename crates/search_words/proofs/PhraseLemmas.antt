-- Phrases are read as the grammar has them.
use Rattle.std.proofs.Common.{◌≡◌, ℕ, Bool, true, false, ◌==◌, ◌&&◌, if◌then◌else◌, List, [], ◌∷◌, ◌++◌, Option, None, Some, option_map, refl, sym, ap, subst, ◌∙◌, arith, eqb-true, eq-eqb, append_assoc, append-nil}
use Rattle.std.proofs.lemmas.Bool.{cond-true, cond-false, and_parts, and_left, ne_eqb}
use Rattle.search_words.specs.SearchTexts.{is_mark, is_special, at_edge, begins_special, closes, quotes, IsPhrase, Closing, Quoted, Plain}
use Rattle.search_words.specs.reading.Parts.{with_octet, phrase_from}

-- ---- octets

pub mark_no_backslash : (mark : ℕ) → is_mark mark ≡ true → (mark == 92) ≡ false
mark_no_backslash mark m = grind arith

pub backslash_no_mark : (mark c : ℕ) → is_mark mark ≡ true → (c == 92) ≡ true → (c == mark) ≡ false
backslash_no_mark mark c m e = grind arith

pub plain_no_backslash : (c : ℕ) → is_special c ≡ false → (c == 92) ≡ false
plain_no_backslash c e = grind arith

pub plain_no_mark : (mark c : ℕ) → is_mark mark ≡ true → is_special c ≡ false → (c == mark) ≡ false
plain_no_mark mark c m e = grind arith

-- ---- an octet more

pub record IsMore (c : ℕ) (o : Option (List ℕ × List ℕ)) (x : List ℕ × List ℕ) : Type 0 where
  pub was : List ℕ × List ℕ
  pub there : o ≡ Some was
  pub phrase : x.0 ≡ c ∷ was.0
  pub rest : x.1 ≡ was.1

first_of : Option (List ℕ × List ℕ) → List ℕ
first_of None = []
first_of (Some x) = x.0

second_of : Option (List ℕ × List ℕ) → List ℕ
second_of None = []
second_of (Some x) = x.1

pub one_more : (c : ℕ) (o : Option (List ℕ × List ℕ)) (x : List ℕ × List ℕ) → with_octet c o ≡ Some x → IsMore c o x
unfolding first_of second_of
one_more c None x e = absurd cc
one_more c (Some y) x e = record { was = y; there = refl; phrase = sym (ap first_of e); rest = sym (ap second_of e) }

pub none_more : (c : ℕ) (o : Option (List ℕ × List ℕ)) → with_octet c o ≡ None → o ≡ None
none_more c None e = refl
none_more c (Some y) e = absurd cc

not_both : (x y : Bool) → x ≡ true → (x && y) ≡ false → y ≡ false
not_both true y i n = n
not_both false y i n = absurd cc

some_same : (y z : List ℕ × List ℕ) → Some y ≡ Some z → y ≡ z
some_same y z i = ap (λ (o : Option (List ℕ × List ℕ)). elim o [ None ↦ y | Some w ↦ w ]) i

-- ---- the steps of a phrase

module _ (mark : ℕ) where
  pub quoted_step : (c : ℕ) (t : List ℕ) → is_special c ≡ true → phrase_from mark true (c ∷ t) ≡ with_octet c (phrase_from mark false t)
  unfolding phrase_from
  quoted_step c t e = cond-true (is_special c) _ _ e

  pub kept_step : (c : ℕ) (t : List ℕ) → is_special c ≡ false → phrase_from mark true (c ∷ t) ≡ with_octet 92 (with_octet c (phrase_from mark false t))
  unfolding phrase_from
  kept_step c t e = cond-false (is_special c) _ _ e

  pub closing_step : (c : ℕ) (t : List ℕ) → closes mark c t ≡ true → phrase_from mark false (c ∷ t) ≡ Some ([], t)
  unfolding phrase_from
  closing_step c t e = cond-true (closes mark c t) _ _ e

  pub backslash_step : (c : ℕ) (t : List ℕ) → closes mark c t ≡ false → (c == 92) ≡ true → phrase_from mark false (c ∷ t) ≡ phrase_from mark true t
  unfolding phrase_from
  backslash_step c t e f = cond-false (closes mark c t) _ _ e ∙ cond-true (c == 92) _ _ f

  pub plain_step : (c : ℕ) (t : List ℕ) → closes mark c t ≡ false → (c == 92) ≡ false → phrase_from mark false (c ∷ t) ≡ with_octet c (phrase_from mark false t)
  unfolding phrase_from
  plain_step c t e f = cond-false (closes mark c t) _ _ e ∙ cond-false (c == 92) _ _ f

  pub ends_open : (quoting : Bool) → phrase_from mark quoting [] ≡ None
  unfolding phrase_from
  ends_open true = refl
  ends_open false = refl

  -- a backslash before an octet that isn't special is an octet like others
  pub lone_backslash : (t : List ℕ) → is_mark mark ≡ true → begins_special t ≡ false → phrase_from mark true t ≡ with_octet 92 (phrase_from mark false t)
  lone_backslash [] m e = ends_open true ∙ sym (ap (with_octet 92) (ends_open false))
  lone_backslash (c ∷ t) m e =
      kept_step c t e ∙ sym (ap (with_octet 92) (plain_step c t (and_left (c == mark) (at_edge t) (plain_no_mark mark c m e)) (plain_no_backslash c e)))

  -- ---- what the grammar has is read

  pub phrase_read : (t phrase rest : List ℕ) → is_mark mark ≡ true → IsPhrase mark t phrase rest → phrase_from mark false t ≡ Some (phrase, rest)
  phrase_read _ _ _ m (Closing c t e) = closing_step c t e
  phrase_read _ _ _ m (Quoted b c t phrase rest e h) =
      let parts : ((b == 92) ≡ true) × (is_special c ≡ true) = and_parts (b == 92) (is_special c) e in
      backslash_step b (c ∷ t) (and_left (b == mark) (at_edge (c ∷ t)) (backslash_no_mark mark b m parts.0)) parts.0
      ∙ quoted_step c t parts.1 ∙ ap (with_octet c) (phrase_read t phrase rest m h)
  phrase_read _ _ _ m (Plain c t phrase rest e f h) = by (c == 92) refl (phrase_read t phrase rest m h)
    where
      by : (q : Bool) → (c == 92) ≡ q → phrase_from mark false t ≡ Some (phrase, rest) → phrase_from mark false (c ∷ t) ≡ Some (c ∷ phrase, rest)
      by false g more = plain_step c t e g ∙ ap (with_octet c) more
      by true g more =
          let alone : begins_special t ≡ false = not_both (c == 92) (begins_special t) g f in
          backslash_step c t e g ∙ lone_backslash t m alone ∙ ap (with_octet 92) more ∙ ap (λ (n : ℕ). Some (n ∷ phrase, rest)) (sym (eqb-true c 92 g))

  -- ---- what is read is what the grammar has

  abbrev Spelled : Bool → List ℕ → List ℕ
  Spelled true t = 92 ∷ t
  Spelled false t = t

  pub phrase_is : (quoting : Bool) (t : List ℕ) (x : List ℕ × List ℕ) → is_mark mark ≡ true → phrase_from mark quoting t ≡ Some x → IsPhrase mark (Spelled quoting t) x.0 x.1
  phrase_is true [] x m e = absurd (let f : None ≡ Some x = sym (ends_open true) ∙ e in cc)
  phrase_is false [] x m e = absurd (let f : None ≡ Some x = sym (ends_open false) ∙ e in cc)
  phrase_is true (c ∷ t) x m e = by (is_special c) refl (λ y. phrase_is false t y m)
    where
      by : (q : Bool) → is_special c ≡ q → ((y : List ℕ × List ℕ) → phrase_from mark false t ≡ Some y → IsPhrase mark t y.0 y.1) → IsPhrase mark (92 ∷ c ∷ t) x.0 x.1
      by true s more =
          let one : IsMore c (phrase_from mark false t) x = one_more c (phrase_from mark false t) x (sym (quoted_step c t s) ∙ e) in
          subst (λ (p : List ℕ). IsPhrase mark (92 ∷ c ∷ t) p x.1) (sym one.phrase)
          (subst (λ (r : List ℕ). IsPhrase mark (92 ∷ c ∷ t) (c ∷ one.was.0) r) (sym one.rest) (Quoted 92 c t one.was.0 one.was.1 s (more one.was one.there)))
      by false s more =
          let two : IsMore 92 (with_octet c (phrase_from mark false t)) x = one_more 92 (with_octet c (phrase_from mark false t)) x (sym (kept_step c t s) ∙ e) in
          let one : IsMore c (phrase_from mark false t) two.was = one_more c (phrase_from mark false t) two.was two.there in
          let inner : IsPhrase mark (c ∷ t) (c ∷ one.was.0) one.was.1 =
          Plain c t one.was.0 one.was.1 (and_left (c == mark) (at_edge t) (plain_no_mark mark c m s)) (and_left (c == 92) (begins_special t) (plain_no_backslash c s)) (more one.was one.there) in
          let outer : IsPhrase mark (92 ∷ c ∷ t) (92 ∷ c ∷ one.was.0) one.was.1 =
          Plain 92 (c ∷ t) (c ∷ one.was.0) one.was.1 (and_left (92 == mark) (at_edge (c ∷ t)) (backslash_no_mark mark 92 m refl)) s inner in
          subst (λ (p : List ℕ). IsPhrase mark (92 ∷ c ∷ t) p x.1) (sym (two.phrase ∙ ap (λ (p : List ℕ). 92 ∷ p) one.phrase))
          (subst (λ (r : List ℕ). IsPhrase mark (92 ∷ c ∷ t) (92 ∷ c ∷ one.was.0) r) (sym (two.rest ∙ one.rest)) outer)
  phrase_is false (c ∷ t) x m e = by (closes mark c t) (c == 92) refl refl (λ y. phrase_is false t y m) (phrase_is true t x m)
    where
      by : (q r : Bool) → closes mark c t ≡ q → (c == 92) ≡ r → ((y : List ℕ × List ℕ) → phrase_from mark false t ≡ Some y → IsPhrase mark t y.0 y.1)
          → (phrase_from mark true t ≡ Some x → IsPhrase mark (92 ∷ t) x.0 x.1) → IsPhrase mark (c ∷ t) x.0 x.1
      by true r f g more behind =
          let same : Some ([], t) ≡ Some x = sym (closing_step c t f) ∙ e in
          subst (λ (y : List ℕ × List ℕ). IsPhrase mark (c ∷ t) y.0 y.1) (some_same ([], t) x same) (Closing c t f)
      by false true f g more behind =
          subst (λ (n : ℕ). IsPhrase mark (n ∷ t) x.0 x.1) (sym (eqb-true c 92 g)) (behind (sym (backslash_step c t f g) ∙ e))
      by false false f g more behind =
          let one : IsMore c (phrase_from mark false t) x = one_more c (phrase_from mark false t) x (sym (plain_step c t f g) ∙ e) in
          subst (λ (p : List ℕ). IsPhrase mark (c ∷ t) p x.1) (sym one.phrase)
          (subst (λ (r : List ℕ). IsPhrase mark (c ∷ t) (c ∷ one.was.0) r) (sym one.rest)
          (Plain c t one.was.0 one.was.1 f (and_left (c == 92) (begins_special t) g) (more one.was one.there)))

-- ---- a phrase as it is read

-- what stands before goes before the phrase
abbrev pub behind_octets : List ℕ → Option (List ℕ × List ℕ) → Option (List ℕ × List ℕ)
behind_octets octets o = option_map (λ (x : List ℕ × List ℕ). (octets ++ x.0, x.1)) o

one_behind : (octets : List ℕ) (c : ℕ) (o : Option (List ℕ × List ℕ)) → behind_octets octets (with_octet c o) ≡ behind_octets (octets ++ c ∷ []) o
one_behind octets c None = refl
one_behind octets c (Some x) = ap (λ (l : List ℕ). Some (l, x.1)) (sym (append_assoc octets (c ∷ []) x.0))

two_behind : (octets : List ℕ) (b c : ℕ) (o : Option (List ℕ × List ℕ)) → behind_octets octets (with_octet b (with_octet c o)) ≡ behind_octets (octets ++ b ∷ c ∷ []) o
two_behind octets b c None = refl
two_behind octets b c (Some x) = ap (λ (l : List ℕ). Some (l, x.1)) (sym (append_assoc octets (b ∷ c ∷ []) x.0))

module _ (mark : ℕ) (text octets : List ℕ) (c : ℕ) (left rest : List ℕ) (is : left ≡ c ∷ rest) where
  pub quoted_read : (new : List ℕ) → new ≡ octets ++ (if is_special c then c ∷ [] else 92 ∷ c ∷ [])
      → behind_octets octets (phrase_from mark true left) ≡ phrase_from mark false text → behind_octets new (phrase_from mark false rest) ≡ phrase_from mark false text
  quoted_read new now so_far = by (is_special c) refl now
    where
      by : (q : Bool) → is_special c ≡ q → new ≡ octets ++ (if q then c ∷ [] else 92 ∷ c ∷ []) → behind_octets new (phrase_from mark false rest) ≡ phrase_from mark false text
      by true s added =
          ap (λ (l : List ℕ). behind_octets l (phrase_from mark false rest)) added ∙ sym (one_behind octets c (phrase_from mark false rest))
          ∙ ap (behind_octets octets) (sym (quoted_step mark c rest s) ∙ ap (phrase_from mark true) (sym is)) ∙ so_far
      by false s added =
          ap (λ (l : List ℕ). behind_octets l (phrase_from mark false rest)) added ∙ sym (two_behind octets 92 c (phrase_from mark false rest))
          ∙ ap (behind_octets octets) (sym (kept_step mark c rest s) ∙ ap (phrase_from mark true) (sym is)) ∙ so_far

  module _ (so_far : behind_octets octets (phrase_from mark false left) ≡ phrase_from mark false text) where
    pub closing_read : closes mark c rest ≡ true → Some (octets, rest) ≡ phrase_from mark false text
    closing_read e =
        ap (λ (l : List ℕ). Some (l, rest)) (sym (append-nil octets))
        ∙ ap (behind_octets octets) (sym (closing_step mark c rest e) ∙ ap (phrase_from mark false) (sym is)) ∙ so_far

    pub backslash_read : closes mark c rest ≡ false → c ≡ 92 → behind_octets octets (phrase_from mark true rest) ≡ phrase_from mark false text
    backslash_read e f = ap (behind_octets octets) (sym (backslash_step mark c rest e (eq-eqb c 92 f)) ∙ ap (phrase_from mark false) (sym is)) ∙ so_far

    pub plain_read : (new : List ℕ) → new ≡ octets ++ c ∷ [] → closes mark c rest ≡ false → (c ≡ 92 → ⊥) → behind_octets new (phrase_from mark false rest) ≡ phrase_from mark false text
    plain_read new added e f =
        ap (λ (l : List ℕ). behind_octets l (phrase_from mark false rest)) added ∙ sym (one_behind octets c (phrase_from mark false rest))
        ∙ ap (behind_octets octets) (sym (plain_step mark c rest e (ne_eqb c 92 f)) ∙ ap (phrase_from mark false) (sym is)) ∙ so_far

pub open_read : (mark : ℕ) (text octets left : List ℕ) (quoting : Bool) → left ≡ [] → behind_octets octets (phrase_from mark quoting left) ≡ phrase_from mark false text → None ≡ phrase_from mark false text
open_read mark text octets left quoting is so_far =
    ap (behind_octets octets) (sym (ends_open mark quoting) ∙ ap (phrase_from mark quoting) (sym is)) ∙ so_far
