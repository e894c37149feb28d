-- Where an LF stands in texts: at the end of a literal's head, and nowhere else.
use Rattle.std.proofs.Common.{◌≡◌, ℕ, ◌+◌, ◌%◌, ◌<◌, ◌≤◌, Bool, true, false, not, ◌&&◌, ◌||◌, List, [], ◌∷◌, ◌++◌, map, cond, refl, sym, ap, subst, ◌∙◌, append_assoc, arith, inl}
use Rattle.std.proofs.Common.{inr}
use Rattle.std.specs.Prelude.{◌==◌, nat_lt, codes, ℤ}
use Rattle.std.specs.List.{list_all}
use Rattle.std.specs.Fmt.{decimal}
use Rattle.std.proofs.lemmas.Fmt.{decimal_by_steps}
use Rattle.std.proofs.lemmas.Nat.{mod_below}
use Rattle.std.proofs.lemmas.List.{append-nil}
use Rattle.imap_types.proofs.EachLemmas.{each_to, each_append, each_parts, each_all}
use Rattle.imap_types.specs.Octets.{is_digit, is_alnum, is_text, is_atom, is_inside, lower}
use Rattle.imap_types.specs.Texts.{Each, Then, IsWord, crlf}
use Rattle.imap_types.specs.Lines.{spaced, joined}
use Rattle.imap_types.specs.Strings.{IsCounted, escaped, quoted}
use Rattle.imap_types.specs.Items.{IsName, AllNames}
use Rattle.imap_types.specs.Dates.{month_name}
use Rattle.imap_types.specs.DateTimes.{IsMonth, IsDateTime}
use Rattle.imap_automaton.proofs.DateForms.{starts_day, is_sign, octets_of}
use Rattle.command_parts.specs.Fields.{fits_octet, AreOctets, EndsWithHead, IsPlainNumber, IsFolderName, IsCredential, IsFlagList}
use Rattle.command_parts.proofs.Readers.{ends_with_line, ends_append, seam}
use Rattle.command_parts.proofs.Literals.{inside_open}

-- each front that ends with an LF ends with a head
abbrev pub Headed : List ℕ → Type 0
Headed x = (t more : List ℕ) → x ≡ t ++ more → ends_with_line t ≡ true → EndsWithHead t

-- a head ends with an LF
pub head_ends : (t : List ℕ) → EndsWithHead t → ends_with_line t ≡ true
head_ends t h = ap ends_with_line h.3 ∙ ends_append h.0 123 (h.1 ++ 125 ∷ crlf) ∙ ends_append (123 ∷ h.1) 125 crlf

-- ---- texts without an LF

-- an octet as it is sent, other than LF
abbrev pub is_other : ℕ → Bool
is_other c = nat_lt c 256 && not (c == 10)

other_last : (c : ℕ) → is_other c ≡ true → (c == 10) ≡ false
other_last c e = grind arith

other_small : (c : ℕ) → is_other c ≡ true → fits_octet c ≡ true
other_small c e = grind arith

-- such octets are octets as they are sent
pub others_small : (t : List ℕ) → Each is_other t → AreOctets t
others_small t h = each_to is_other fits_octet t other_small h

pub other_open : (t : List ℕ) → Each is_other t → ends_with_line t ≡ false
other_open [] h = refl
other_open (c ∷ []) h = other_last c h.0
other_open (c ∷ d ∷ t) h = other_open (d ∷ t) h.1

no_end : {P : Type 0} (t : List ℕ) → Each is_other t → ends_with_line t ≡ true → P
no_end t h e = let f = sym (other_open t h) ∙ e in absurd cc

pub other_headed : (x : List ℕ) → Each is_other x → Headed x
other_headed x h t more e line = no_end t (each_parts is_other t more (subst (Each is_other) e h)).0 line

pub front_head : (x z t : List ℕ) → t ≡ x ++ z → EndsWithHead z → EndsWithHead t
front_head x z t e h = (x ++ h.0, h.1, h.2, e ∙ ap (λ (u : List ℕ). x ++ u) h.3 ∙ sym (append_assoc x h.0 (123 ∷ h.1 ++ 125 ∷ crlf)))

-- one text after another
pub join_headed : (x y : List ℕ) → Headed x → Headed y → Headed (x ++ y)
join_headed x y h k t more e line = elim (seam t more x y (sym e)) [
  | inl s ↦ h t (s.0 ∷ s.1) s.2 line
  | inr s ↦ behind s.0 s.1 s.2
]
  where
    behind : (z : List ℕ) → t ≡ x ++ z → y ≡ z ++ more → EndsWithHead t
    behind [] f g = h t [] (sym (append-nil x) ∙ sym f ∙ sym (append-nil t)) line
    behind (c ∷ z) f g = front_head x (c ∷ z) t f (k (c ∷ z) more g (sym (ends_append x c z) ∙ ap ends_with_line (sym f) ∙ line))

pub then_headed : {A B : List ℕ → Type 0} (t : List ℕ) → Then A B t → ((x : List ℕ) → A x → Headed x) → ((x : List ℕ) → B x → Headed x) → Headed t
then_headed t h f g = subst Headed (sym h.whole) (join_headed h.front h.back (f h.front h.first) (g h.back h.second))

pub then_others : {A B : List ℕ → Type 0} (t : List ℕ) → Then A B t → ((x : List ℕ) → A x → Each is_other x) → ((x : List ℕ) → B x → Each is_other x) → Each is_other t
then_others t h f g = subst (Each is_other) (sym h.whole) (each_append is_other h.front h.back (f h.front h.first) (g h.back h.second))

-- ---- the parts of commands

word_octet : (c x : ℕ) → is_other x ≡ true → lower c ≡ x → is_other c ≡ true
word_octet c x o e = grind arith

word_others : (w t : List ℕ) → Each is_other w → IsWord w t → Each is_other t
word_others [] [] h e = tt
word_others [] (c ∷ t) h e = absurd cc
word_others (x ∷ w) [] h e = tt
word_others (x ∷ w) (c ∷ t) h e = let first : lower c ≡ x = cc in (word_octet c x h.0 first, word_others w t h.1 cc)

pub word_other : (w t : List ℕ) → list_all is_other w ≡ true → IsWord w t → Each is_other t
word_other w t o e = word_others w t (each_all is_other w o) e

pub exact_others : (w t : List ℕ) → list_all is_other w ≡ true → t ≡ w → Each is_other t
exact_others w t o e = subst (Each is_other) (sym e) (each_all is_other w o)

pub alnum_other : (c : ℕ) → is_alnum c ≡ true → is_other c ≡ true
alnum_other c e = grind arith

digit_other : (c : ℕ) → is_digit c ≡ true → is_other c ≡ true
digit_other c e = grind arith

atom_other : (c : ℕ) → is_atom c ≡ true → is_other c ≡ true
atom_other c e = grind arith

text_other : (c : ℕ) → is_text c ≡ true → is_other c ≡ true
text_other c e = grind arith

-- a number's text has digits alone
pub digits_are : (n : ℕ) → n < 18446744073709551616 → Each is_digit (decimal n)
digits_are n lt = decimal_by_steps (λ n ds. Each is_digit ds) one more n lt
  where
    digit : (n : ℕ) → n < 10 → is_digit (48 + n) ≡ true
    digit n lt = grind arith

    below : (n : ℕ) → n % 10 < 10
    below n = mod_below n 10 (omega arith)

    one : (n : ℕ) → n < 10 → Each is_digit ((48 + n) ∷ [])
    one n lt = (digit n lt, tt)

    more : (n : ℕ) (ds : List ℕ) → 10 ≤ n → Each is_digit ds → Each is_digit (ds ++ (48 + n % 10) ∷ [])
    more n ds ten h = each_append is_digit ds ((48 + n % 10) ∷ []) h (digit (n % 10) (below n), tt)

pub number_others : (most n : ℕ) (t : List ℕ) → most < 18446744073709551616 → IsPlainNumber most n t → Each is_other t
number_others most n t small h = subst (Each is_other) (sym h.0) (each_to is_digit is_other (decimal n) digit_other (digits_are n (omega (arith, h.1, small))))

escaped_others : (s : List ℕ) → Each is_text s → Each is_other (escaped s)
escaped_others [] h = tt
escaped_others (c ∷ s) h = by (c == 34 || c == 92) (escaped_others s h.1)
  where
    by : (b : Bool) → Each is_other (escaped s) → Each is_other (cond b (92 ∷ c ∷ escaped s) (c ∷ escaped s))
    by true rest = (refl, (text_other c h.0, rest))
    by false rest = (text_other c h.0, rest)

quoted_others : (s : List ℕ) → Each is_text s → Each is_other (quoted s)
quoted_others s h = (refl, each_append is_other (escaped s) (34 ∷ []) (escaped_others s h) (refl, tt))

pub folder_others : (s t : List ℕ) → IsFolderName s t → Each is_other t
folder_others s t (inl a) = each_to is_atom is_other t atom_other a.0.0
folder_others s t (inr q) = subst (Each is_other) (sym q.1) (quoted_others s q.0)

-- a literal: only its head ends with an LF
literal_headed : (digits octets : List ℕ) → Each is_digit digits → Each is_inside octets → Headed (123 ∷ digits ++ 125 ∷ 13 ∷ 10 ∷ octets)
literal_headed digits octets h k t more e line = elim (seam t more head (10 ∷ octets) (sym e ∙ regroup)) [
  | inl s ↦ no_end t (each_parts is_other t (s.0 ∷ s.1) (subst (Each is_other) s.2 others)).0 line
  | inr s ↦ behind s.0 s.1 s.2
]
  where
    head : List ℕ
    head = 123 ∷ digits ++ 125 ∷ 13 ∷ []

    regroup : 123 ∷ digits ++ 125 ∷ 13 ∷ 10 ∷ octets ≡ head ++ 10 ∷ octets
    regroup = ap (λ (u : List ℕ). 123 ∷ u) (sym (append_assoc digits (125 ∷ 13 ∷ []) (10 ∷ octets)))

    others : Each is_other head
    others = (refl, each_append is_other digits (125 ∷ 13 ∷ []) (each_to is_digit is_other digits digit_other h) (refl, (refl, tt)))

    behind : (z : List ℕ) → t ≡ head ++ z → 10 ∷ octets ≡ z ++ more → EndsWithHead t
    behind [] f g = no_end t (subst (Each is_other) (sym (f ∙ append-nil head)) others) line
    behind (c ∷ []) f g =
        let first : 10 ≡ c = cc in
        ([], digits, h, f ∙ ap (λ (d : ℕ). head ++ d ∷ []) (sym first) ∙ ap (λ (u : List ℕ). 123 ∷ u) (append_assoc digits (125 ∷ 13 ∷ []) (10 ∷ [])))
    behind (c ∷ d ∷ z) f g =
        let rest : octets ≡ (d ∷ z) ++ more = cc in
        let each = (each_parts is_inside (d ∷ z) more (subst (Each is_inside) rest k)).0 in
        let no = sym (inside_open (d ∷ z) each) ∙ sym (ends_append head c (d ∷ z)) ∙ ap ends_with_line (sym f) ∙ line in absurd cc

pub counted_headed : (s t : List ℕ) → IsCounted s t → Headed t
counted_headed s t h = subst Headed (sym h.whole) (literal_headed h.digits h.octets h.are_digits h.inside)

pub credential_headed : (s t : List ℕ) → IsCredential s t → Headed t
credential_headed s t (inl n) = other_headed t (folder_others s t n)
credential_headed s t (inr l) = counted_headed s t l

name_others : (n : List ℕ) → IsName n → Each is_other n
name_others n (inl a) = each_to is_atom is_other n atom_other a.0
name_others n (inr a) = subst (Each is_other) (sym a.1) (refl, each_to is_atom is_other a.0 atom_other a.2.0)

spaced_others : (ns : List (List ℕ)) → AllNames ns → Each is_other (spaced ns)
spaced_others [] h = tt
spaced_others (n ∷ ns) h = (refl, each_append is_other n (spaced ns) (name_others n h.0) (spaced_others ns h.1))

joined_others : (ns : List (List ℕ)) → AllNames ns → Each is_other (joined ns)
joined_others [] h = tt
joined_others (n ∷ ns) h = each_append is_other n (spaced ns) (name_others n h.0) (spaced_others ns h.1)

pub flags_others : (fs : List (List ℕ)) (t : List ℕ) → IsFlagList fs t → Each is_other t
flags_others fs t h = subst (Each is_other) (sym h.1.1) (refl, each_append is_other (joined h.0) (41 ∷ []) (joined_others h.0 h.1.0) (refl, tt))

start_other : (c : ℕ) → starts_day c ≡ true → is_other c ≡ true
start_other c e = grind arith

zone_other : (c : ℕ) → is_sign c ≡ true → is_other c ≡ true
zone_other c e = grind arith

month_plain : (m : ℕ) → list_all is_other (map lower (month_name m)) ≡ true
month_plain m = by (m == 1) (m == 2) (m == 3) (m == 4) (m == 5) (m == 6) (m == 7) (m == 8) (m == 9) (m == 10) (m == 11)
  where
    by : (a b c d e f g h i j k : Bool)
        → list_all is_other (map lower (cond a (codes "Jan") (cond b (codes "Feb") (cond c (codes "Mar")
        (cond d (codes "Apr") (cond e (codes "May") (cond f (codes "Jun") (cond g (codes "Jul")
        (cond h (codes "Aug") (cond i (codes "Sep") (cond j (codes "Oct") (cond k (codes "Nov") (codes "Dec"))))))))))))) ≡ true
    by true b c d e f g h i j k = refl
    by false true c d e f g h i j k = refl
    by false false true d e f g h i j k = refl
    by false false false true e f g h i j k = refl
    by false false false false true f g h i j k = refl
    by false false false false false true g h i j k = refl
    by false false false false false false true h i j k = refl
    by false false false false false false false true i j k = refl
    by false false false false false false false false true j k = refl
    by false false false false false false false false false true k = refl
    by false false false false false false false false false false true = refl
    by false false false false false false false false false false false = refl

month_others : (m : ℕ) (t : List ℕ) → IsMonth m t → Each is_other t
month_others m t h = word_others (map lower (month_name m)) t (each_all is_other (map lower (month_name m)) (month_plain m)) h.2

pub date_others : (s : ℤ) (t : List ℕ) → IsDateTime s t → Each is_other t
date_others s t h =
    let o = octets_of s t h in
    let y = each_to is_digit is_other (o.y1 ∷ o.y2 ∷ o.y3 ∷ o.y4 ∷ []) digit_other o.year_digits in
    let a = each_to is_digit is_other (o.h1 ∷ o.h2 ∷ []) digit_other o.hour_digits in
    let b = each_to is_digit is_other (o.m1 ∷ o.m2 ∷ []) digit_other o.minute_digits in
    let c = each_to is_digit is_other (o.s1 ∷ o.s2 ∷ []) digit_other o.second_digits in
    let z = each_to is_digit is_other (o.z1 ∷ o.z2 ∷ []) digit_other o.zone_digits in
    let w = each_to is_digit is_other (o.z3 ∷ o.z4 ∷ []) digit_other o.zone_more in
    subst (Each is_other) (sym o.whole) (
      refl,
      (
        start_other o.d1 o.starts,
        (
          digit_other o.d2 o.digit,
          (
            refl,
            each_append is_other o.name
                (45 ∷ o.y1 ∷ o.y2 ∷ o.y3 ∷ o.y4 ∷ 32 ∷ o.h1 ∷ o.h2 ∷ 58 ∷ o.m1 ∷ o.m2 ∷ 58 ∷ o.s1 ∷ o.s2 ∷ 32 ∷ o.sign ∷ o.z1 ∷ o.z2 ∷ o.z3 ∷ o.z4 ∷ 34 ∷ [])
                (month_others o.month o.name o.month_is) (
                  refl,
                  (
                    y.0,
                    (
                      y.1.0,
                      (
                        y.1.1.0,
                        (
                          y.1.1.1.0,
                          (
                            refl,
                            (
                              a.0,
                              (
                                a.1.0,
                                (
                                  refl,
                                  (
                                    b.0,
                                    (
                                      b.1.0,
                                      (
                                        refl,
                                        (
                                          c.0,
                                          (
                                            c.1.0,
                                            (
                                              refl,
                                              (
                                                zone_other o.sign o.is_signed,
                                                (z.0, (z.1.0, (w.0, (w.1.0, (refl, tt))))),
                                              ),
                                            ),
                                          ),
                                        ),
                                      ),
                                    ),
                                  ),
                                ),
                              ),
                            ),
                          ),
                        ),
                      ),
                    ),
                  ),
                ),
          ),
        ),
      ),
    )
