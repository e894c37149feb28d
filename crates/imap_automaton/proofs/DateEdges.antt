-- One octet at a date.
use Rattle.std.proofs.Common.{◌≡◌, ℕ, zero, suc, ◌+◌, ◌<◌, ◌≤◌, Bool, true, false, ◌&&◌, ℤ, List, [], ◌∷◌, ◌++◌, length, map, drop, get_or, cond, refl, sym, ap, subst, ◌∙◌, arith}
use Rattle.std.proofs.Common.{inl, inr}
use Rattle.std.specs.Prelude.{◌==◌, nat_lt, nat_le, codes}
use Rattle.std.proofs.lemmas.Bool.{eqb-true, ltb-true, and_parts, and_from, lt-ltb, eq-eqb, cond-false}
use Rattle.std.proofs.lemmas.List.{length-drop, length-map, nil_from_length}
use Rattle.imap_keywords.specs.declared.key.Key.{Key}
use Rattle.imap_keywords.specs.declared.key.Key.TheVariants as key
use Rattle.imap_keywords.specs.declared.key.WordPlace.TheVariants as place
use Rattle.imap_automaton.specs.declared.sym.Date.{Date}
use Rattle.imap_automaton.specs.declared.sym.Date.TheVariants as date
use Rattle.imap_automaton.specs.declared.sym.Sym.TheVariants as sym
use Rattle.pushdown.specs.declared.moves.Move.TheVariants as move
use Rattle.imap_keywords.specs.Keys.{key_text, keys, in_word}
use Rattle.imap_automaton.specs.DateRules.{month_start, day_octet, time_octet, day_rule, time_rule, date_rule}
use Rattle.imap_automaton.specs.Fits.{DateFits}
use Rattle.imap_automaton.specs.Langs.{Places, TimeRest, WordSays, WordRest, DayRest, DateLang, AfterMove}
use Rattle.imap_keywords.specs.Keys.{Among}
use Rattle.pushdown.proofs.Lists.{cons_head, cons_tail, no_append}
use Rattle.imap_automaton.proofs.Tests.{from_test, to_test, at_true}
use Rattle.imap_keywords.proofs.KeyLemmas.{is_key_octet, key_octets, key_octet_month, key_some}
use Rattle.imap_automaton.proofs.DateForms.{starts_day, is_sign, two, four, time_of, zone_of, octets_of, of_octets}
use Rattle.imap_types.specs.Octets.{is_digit, lower}
use Rattle.imap_types.specs.Texts.{Each}
use Rattle.imap_types.specs.Dates.{month_name}
use Rattle.imap_types.specs.DateTimes.{seconds_of, IsMonth, IsDateTime}

-- ---- after the month

-- after a date's month, an octet is read and any text that its rule still reads after it
pub time_back : (at c : ℕ) (t : List ℕ) → AfterMove (time_rule at c) t → TimeRest at (c ∷ t)
time_back at c t h = from_test (nat_lt at 21 && time_octet at c) (cond (at + 1 == 21) move.End (move.One (sym.Date (date.Time (at + 1))))) move.Fail t (TimeRest at (c ∷ t))
    (λ e k.
    let o = (and_parts (nat_lt at 21) (time_octet at c) e).1 in
    from_test (at + 1 == 21) move.End (move.One (sym.Date (date.Time (at + 1)))) t (TimeRest at (c ∷ t))
    (λ f l. record { each = (o, subst (Places time_octet (at + 1)) (sym l) tt); count = omega (arith, eqb-true (at + 1) 21 f, ap length l) })
    (λ f l. record { each = (o, l.each); count = omega (arith, l.count) }) k)
    (λ e k. absurd k) h

-- where an octet and a text are read after a date's month, the rule still reads the text after the octet
pub time_forth : (at c : ℕ) (t : List ℕ) → TimeRest at (c ∷ t) → AfterMove (time_rule at c) t
time_forth at c t h =
    at_true (nat_lt at 21 && time_octet at c) (cond (at + 1 == 21) move.End (move.One (sym.Date (date.Time (at + 1))))) move.Fail t
    (and_from _ _ (lt-ltb at 21 (let n = h.count in omega (arith, n))) h.each.0)
    (to_test (at + 1 == 21) move.End (move.One (sym.Date (date.Time (at + 1)))) t
    (λ e. nil_from_length t (let n = h.count in let f = eqb-true (at + 1) 21 e in omega (arith, n, f)))
    (λ e. record { each = h.each.1; count = (let n = h.count in omega (arith, n)) }))

-- what stands after a date's month isn't empty
pub time_none : TimeRest 0 [] → ⊥
time_none h = let n = h.count in omega (arith, n)

-- ---- before the month

day_back : (at c : ℕ) (t : List ℕ) → AfterMove (day_rule at c) t → DayRest at (c ∷ t)
day_back at c t h = from_test (nat_lt at 3 && day_octet at c) (cond (at + 1 == 3) (move.One month_start) (move.One (sym.Date (date.Day (at + 1))))) move.Fail t (DayRest at (c ∷ t))
    (λ e k.
    let o = (and_parts (nat_lt at 3) (day_octet at c) e).1 in
    from_test (at + 1 == 3) (move.One month_start) (move.One (sym.Date (date.Day (at + 1)))) t (DayRest at (c ∷ t))
    (λ f l. record { front = c ∷ []; back = t; whole = refl; each = (o, tt); count = eqb-true (at + 1) 3 f; month = l })
    (λ f l. record { front = c ∷ l.front; back = l.back; whole = ap (λ (u : List ℕ). c ∷ u) l.whole; each = (o, l.each); count = omega (arith, l.count); month = l.month }) k)
    (λ e k. absurd k) h

day_at_text : (at c : ℕ) (t front back : List ℕ) → at < 3 → c ∷ t ≡ front ++ back → Places day_octet at front → at + length front ≡ 3 → WordRest place.Month [] back
    → AfterMove (day_rule at c) t
day_at_text at c t [] back lt e each count m = absurd (omega (arith, lt, count))
day_at_text at c t (d ∷ x) back lt e each count m =
    let o : day_octet at c ≡ true = ap (day_octet at) (cons_head c d t (x ++ back) e) ∙ each.0 in
    at_true (nat_lt at 3 && day_octet at c) (cond (at + 1 == 3) (move.One month_start) (move.One (sym.Date (date.Day (at + 1))))) move.Fail t (and_from _ _ (lt-ltb at 3 lt) o)
    (to_test (at + 1 == 3) (move.One month_start) (move.One (sym.Date (date.Day (at + 1)))) t
    (λ f. subst (WordRest place.Month []) (sym (cons_tail c d t (x ++ back) e
    ∙ ap (λ (u : List ℕ). u ++ back) (nil_from_length x (let g = eqb-true (at + 1) 3 f in omega (arith, count, g))))) m)
    (λ f. record { front = x; back = back; whole = cons_tail c d t (x ++ back) e; each = each.1; count = omega (arith, count); month = m }))

day_forth : (at c : ℕ) (t : List ℕ) → DateFits (date.Day at) ≡ true → DayRest at (c ∷ t) → AfterMove (day_rule at c) t
day_forth at c t fits h = day_at_text at c t h.front h.back (ltb-true at 3 fits) h.whole h.each h.count h.month

-- ---- the month

month_of : (k : Key) → Among k (keys place.Month) → (m : ℕ) × (1 ≤ m) × (m ≤ 12) × (key_text k ≡ map lower (month_name m))
month_of k (inl e) = (1, omega arith, omega arith, ap key_text e)
month_of k (inr (inl e)) = (2, omega arith, omega arith, ap key_text e)
month_of k (inr (inr (inl e))) = (3, omega arith, omega arith, ap key_text e)
month_of k (inr (inr (inr (inl e)))) = (4, omega arith, omega arith, ap key_text e)
month_of k (inr (inr (inr (inr (inl e))))) = (5, omega arith, omega arith, ap key_text e)
month_of k (inr (inr (inr (inr (inr (inl e)))))) = (6, omega arith, omega arith, ap key_text e)
month_of k (inr (inr (inr (inr (inr (inr (inl e))))))) = (7, omega arith, omega arith, ap key_text e)
month_of k (inr (inr (inr (inr (inr (inr (inr (inl e)))))))) = (8, omega arith, omega arith, ap key_text e)
month_of k (inr (inr (inr (inr (inr (inr (inr (inr (inl e))))))))) = (9, omega arith, omega arith, ap key_text e)
month_of k (inr (inr (inr (inr (inr (inr (inr (inr (inr (inl e)))))))))) = (10, omega arith, omega arith, ap key_text e)
month_of k (inr (inr (inr (inr (inr (inr (inr (inr (inr (inr (inl e))))))))))) = (11, omega arith, omega arith, ap key_text e)
month_of k (inr (inr (inr (inr (inr (inr (inr (inr (inr (inr (inr (inl e)))))))))))) = (12, omega arith, omega arith, ap key_text e)
month_of k (inr (inr (inr (inr (inr (inr (inr (inr (inr (inr (inr (inr x)))))))))))) = elim x [ ]

key_of : (m : ℕ) → 1 ≤ m → m ≤ 12 → (k : Key) × Among k (keys place.Month) × (map lower (month_name m) ≡ key_text k)
key_of zero low high = absurd (omega (arith, low))
key_of (suc zero) low high = (key.Jan, inl refl, refl)
key_of (suc (suc zero)) low high = (key.Feb, inr (inl refl), refl)
key_of (suc (suc (suc zero))) low high = (key.Mar, inr (inr (inl refl)), refl)
key_of (suc (suc (suc (suc zero)))) low high = (key.Apr, inr (inr (inr (inl refl))), refl)
key_of (suc (suc (suc (suc (suc zero))))) low high = (key.May, inr (inr (inr (inr (inl refl)))), refl)
key_of (suc (suc (suc (suc (suc (suc zero)))))) low high = (key.Jun, inr (inr (inr (inr (inr (inl refl))))), refl)
key_of (suc (suc (suc (suc (suc (suc (suc zero))))))) low high = (key.Jul, inr (inr (inr (inr (inr (inr (inl refl)))))), refl)
key_of (suc (suc (suc (suc (suc (suc (suc (suc zero)))))))) low high = (key.Aug, inr (inr (inr (inr (inr (inr (inr (inl refl))))))), refl)
key_of (suc (suc (suc (suc (suc (suc (suc (suc (suc zero))))))))) low high = (key.Sep, inr (inr (inr (inr (inr (inr (inr (inr (inl refl)))))))), refl)
key_of (suc (suc (suc (suc (suc (suc (suc (suc (suc (suc zero)))))))))) low high = (key.Oct, inr (inr (inr (inr (inr (inr (inr (inr (inr (inl refl))))))))), refl)
key_of (suc (suc (suc (suc (suc (suc (suc (suc (suc (suc (suc zero))))))))))) low high = (key.Nov, inr (inr (inr (inr (inr (inr (inr (inr (inr (inr (inl refl)))))))))), refl)
key_of (suc (suc (suc (suc (suc (suc (suc (suc (suc (suc (suc (suc zero)))))))))))) low high =
    (key.Dec, inr (inr (inr (inr (inr (inr (inr (inr (inr (inr (inr (inl refl))))))))))), refl)
key_of (suc (suc (suc (suc (suc (suc (suc (suc (suc (suc (suc (suc (suc m))))))))))))) low high = absurd (omega (arith, high))

month_octet : (c : ℕ) → is_key_octet (lower c) ≡ true → in_word place.Month c ≡ true
month_octet c e = by (nat_le 65 c && nat_le c 90) refl
  where
    capital : (c : ℕ) → (nat_le 65 c && nat_le c 90) ≡ true → in_word place.Month c ≡ true
    capital c f = grind arith

    by : (b : Bool) → (nat_le 65 c && nat_le c 90) ≡ b → in_word place.Month c ≡ true
    by true f = capital c f
    by false f = let q : lower c ≡ c = cond-false (nat_le 65 c && nat_le c 90) (c + 32) c f in key_octet_month c (ap is_key_octet (sym q) ∙ e)

month_octets : (x y : List ℕ) → Each is_key_octet y → map lower x ≡ y → Each (in_word place.Month) x
month_octets [] y h e = tt
month_octets (c ∷ x) [] h e = absurd cc
month_octets (c ∷ x) (d ∷ y) h e =
    (month_octet c (ap is_key_octet (cons_head (lower c) d (map lower x) y e) ∙ h.0), month_octets x y h.1 (cons_tail (lower c) d (map lower x) y e))

-- a month and what stands after it
month_to : (m : ℕ) (name tail : List ℕ) → IsMonth m name → TimeRest 0 tail → in_word place.Month (get_or tail 0 0) ≡ false → WordRest place.Month [] (name ++ tail)
month_to m name tail h t out =
    let k = key_of m h.0 h.1 in
    let e : map lower name ≡ key_text k.0 = h.2 ∙ k.2 in
    record {
      word = name;
      tail = tail;
      whole = refl;
      each = month_octets name (key_text k.0) (key_octets k.0) e;
      some = (let s = key_some k.0 in let l = ap length e in let n = length-map name lower in omega (arith, s, l, n));
      longest = out;
      says = inl (k.0, k.1, e, t);
    }

record MonthAndTime (t : List ℕ) : Type 0 where
  month : ℕ
  name : List ℕ
  tail : List ℕ
  whole : t ≡ name ++ tail
  month_is : IsMonth month name
  time : TimeRest 0 tail

month_from : (t : List ℕ) → WordRest place.Month [] t → MonthAndTime t
month_from t h = by h.says
  where
    by : WordSays place.Month [] ([] ++ map lower h.word) h.tail t → MonthAndTime t
    by (inl k) = let m = month_of k.0 k.1 in record { month = m.0; name = h.word; tail = h.tail; whole = h.whole; month_is = (m.1, m.2, k.2 ∙ m.3); time = k.3 }
    by (inr s) = absurd s.1

-- ---- the quote

-- the octets after the month
record TimeOctets (t : List ℕ) : Type 0 where
  y1 : ℕ
  y2 : ℕ
  y3 : ℕ
  y4 : ℕ
  h1 : ℕ
  h2 : ℕ
  m1 : ℕ
  m2 : ℕ
  s1 : ℕ
  s2 : ℕ
  sign : ℕ
  z1 : ℕ
  z2 : ℕ
  z3 : ℕ
  z4 : ℕ
  whole : t ≡ 45 ∷ y1 ∷ y2 ∷ y3 ∷ y4 ∷ 32 ∷ h1 ∷ h2 ∷ 58 ∷ m1 ∷ m2 ∷ 58 ∷ s1 ∷ s2 ∷ 32 ∷ sign ∷ z1 ∷ z2 ∷ z3 ∷ z4 ∷ 34 ∷ []
  year_digits : Each is_digit (y1 ∷ y2 ∷ y3 ∷ y4 ∷ [])
  hour_digits : Each is_digit (h1 ∷ h2 ∷ [])
  minute_digits : Each is_digit (m1 ∷ m2 ∷ [])
  second_digits : Each is_digit (s1 ∷ s2 ∷ [])
  is_signed : is_sign sign ≡ true
  zone_digits : Each is_digit (z1 ∷ z2 ∷ [])
  zone_more : Each is_digit (z3 ∷ z4 ∷ [])

fixed : (c0 c5 c8 c11 c14 c20 y1 y2 y3 y4 h1 h2 m1 m2 s1 s2 sign z1 z2 z3 z4 : ℕ) → c0 ≡ 45 → c5 ≡ 32 → c8 ≡ 58 → c11 ≡ 58 → c14 ≡ 32 → c20 ≡ 34
    → c0 ∷ y1 ∷ y2 ∷ y3 ∷ y4 ∷ c5 ∷ h1 ∷ h2 ∷ c8 ∷ m1 ∷ m2 ∷ c11 ∷ s1 ∷ s2 ∷ c14 ∷ sign ∷ z1 ∷ z2 ∷ z3 ∷ z4 ∷ c20 ∷ []
    ≡ 45 ∷ y1 ∷ y2 ∷ y3 ∷ y4 ∷ 32 ∷ h1 ∷ h2 ∷ 58 ∷ m1 ∷ m2 ∷ 58 ∷ s1 ∷ s2 ∷ 32 ∷ sign ∷ z1 ∷ z2 ∷ z3 ∷ z4 ∷ 34 ∷ []
fixed c0 c5 c8 c11 c14 c20 y1 y2 y3 y4 h1 h2 m1 m2 s1 s2 sign z1 z2 z3 z4 a b c d e f = rw (a, b, c, d, e, f) refl

time_octets : (t : List ℕ) → Places time_octet 0 t → 0 + length t ≡ 21 → TimeOctets t
time_octets (c0 ∷ y1 ∷ y2 ∷ y3 ∷ y4 ∷ c5 ∷ h1 ∷ h2 ∷ c8 ∷ m1 ∷ m2 ∷ c11 ∷ s1 ∷ s2 ∷ c14 ∷ sign ∷ z1 ∷ z2 ∷ z3 ∷ z4 ∷ c20 ∷ [])
    (e0, (e1, (e2, (e3, (e4, (e5, (e6, (e7, (e8, (e9, (e10, (e11, (e12, (e13, (e14, (e15, (e16, (e17, (e18, (e19, (e20, e21))))))))))))))))))))) n = record {
      y1 = y1;
      y2 = y2;
      y3 = y3;
      y4 = y4;
      h1 = h1;
      h2 = h2;
      m1 = m1;
      m2 = m2;
      s1 = s1;
      s2 = s2;
      sign = sign;
      z1 = z1;
      z2 = z2;
      z3 = z3;
      z4 = z4;
      whole = fixed c0 c5 c8 c11 c14 c20 y1 y2 y3 y4 h1 h2 m1 m2 s1 s2 sign z1 z2 z3 z4 (eqb-true c0 45 e0) (eqb-true c5 32 e5) (eqb-true c8 58 e8) (eqb-true c11 58 e11)
          (eqb-true c14 32 e14) (eqb-true c20 34 e20);
      year_digits = (e1, (e2, (e3, (e4, tt))));
      hour_digits = (e6, (e7, tt));
      minute_digits = (e9, (e10, tt));
      second_digits = (e12, (e13, tt));
      is_signed = e15;
      zone_digits = (e16, (e17, tt));
      zone_more = (e18, (e19, tt));
    }
time_octets _ each n = absurd (omega (arith, n))

-- the octets before the month
record DayOctets (t : List ℕ) : Type 0 where
  d1 : ℕ
  d2 : ℕ
  whole : t ≡ d1 ∷ d2 ∷ 45 ∷ []
  starts : starts_day d1 ≡ true
  digit : is_digit d2 ≡ true

day_octets : (t : List ℕ) → Places day_octet 0 t → 0 + length t ≡ 3 → DayOctets t
day_octets (a ∷ b ∷ c ∷ []) e n = record { d1 = a; d2 = b; whole = ap (λ (d : ℕ). a ∷ b ∷ d ∷ []) (eqb-true c 45 e.1.1.0); starts = e.0; digit = e.1.0 }
day_octets _ e n = absurd (omega (arith, n))

date_from : (t : List ℕ) → DayRest 0 t → (s : ℤ) × IsDateTime s (34 ∷ t)
date_from t h =
    let d = day_octets h.front h.each h.count in
    let m = month_from h.back h.month in
    let o = time_octets m.tail m.time.each m.time.count in
    let s : ℤ = seconds_of (four o.y1 o.y2 o.y3 o.y4) m.month (two d.d1 d.d2) (time_of (two o.h1 o.h2) (two o.m1 o.m2) (two o.s1 o.s2)) (o.sign == 43)
    (zone_of (two o.z1 o.z2) (two o.z3 o.z4)) in (
      s,
      of_octets s (34 ∷ t)
          (record {
            d1 = d.d1;
            d2 = d.d2;
            month = m.month;
            name = m.name;
            y1 = o.y1;
            y2 = o.y2;
            y3 = o.y3;
            y4 = o.y4;
            h1 = o.h1;
            h2 = o.h2;
            m1 = o.m1;
            m2 = o.m2;
            s1 = o.s1;
            s2 = o.s2;
            sign = o.sign;
            z1 = o.z1;
            z2 = o.z2;
            z3 = o.z3;
            z4 = o.z4;
            whole = ap (λ (u : List ℕ). 34 ∷ u) (h.whole ∙ ap (λ (u : List ℕ). u ++ h.back) d.whole
                ∙ ap (λ (u : List ℕ). d.d1 ∷ d.d2 ∷ 45 ∷ u) (m.whole ∙ ap (λ (u : List ℕ). m.name ++ u) o.whole));
            starts = d.starts;
            digit = d.digit;
            month_is = m.month_is;
            year_digits = o.year_digits;
            hour_digits = o.hour_digits;
            minute_digits = o.minute_digits;
            second_digits = o.second_digits;
            is_signed = o.is_signed;
            zone_digits = o.zone_digits;
            zone_more = o.zone_more;
            value = refl;
          }),
    )

-- what stands after the quote
record Quoted (t : List ℕ) : Type 0 where
  inner : List ℕ
  whole : t ≡ 34 ∷ inner
  day : DayRest 0 inner

date_to : (s : ℤ) (t : List ℕ) → IsDateTime s t → Quoted t
date_to s t h =
    let o = octets_of s t h in
    let y = o.year_digits in
    let hh = o.hour_digits in
    let mm = o.minute_digits in
    let ss = o.second_digits in
    let zh = o.zone_digits in
    let zm = o.zone_more in
    let tail : List ℕ = 45 ∷ o.y1 ∷ o.y2 ∷ o.y3 ∷ o.y4 ∷ 32 ∷ o.h1 ∷ o.h2 ∷ 58 ∷ o.m1 ∷ o.m2 ∷ 58 ∷ o.s1 ∷ o.s2 ∷ 32 ∷ o.sign ∷ o.z1 ∷ o.z2 ∷ o.z3 ∷ o.z4 ∷ 34 ∷ [] in
    let time : TimeRest 0 tail = record {
      each = (
        refl,
        (
          y.0,
          (
            y.1.0,
            (
              y.1.1.0,
              (
                y.1.1.1.0,
                (
                  refl,
                  (hh.0, (hh.1.0, (refl, (mm.0, (mm.1.0, (refl, (ss.0, (ss.1.0, (refl, (o.is_signed, (zh.0, (zh.1.0, (zm.0, (zm.1.0, (refl, tt))))))))))))))),
                ),
              ),
            ),
          ),
        ),
      );
      count = refl;
    } in
    record {
      inner = o.d1 ∷ o.d2 ∷ 45 ∷ o.name ++ tail;
      whole = o.whole;
      day = record {
        front = o.d1 ∷ o.d2 ∷ 45 ∷ [];
        back = o.name ++ tail;
        whole = refl;
        each = (o.starts, (o.digit, (refl, tt)));
        count = refl;
        month = month_to o.month o.name tail o.month_is time refl;
      };
    }

quote_back : (c : ℕ) (t : List ℕ) → AfterMove (date_rule date.Open c) t → DateLang date.Open (c ∷ t)
quote_back c t h = from_test (c == 34) (move.One (sym.Date (date.Day 0))) move.Fail t (DateLang date.Open (c ∷ t))
    (λ e k. subst (λ (n : ℕ). DateLang date.Open (n ∷ t)) (sym (eqb-true c 34 e)) (date_from t k))
    (λ e k. absurd k) h

quote_forth : (c : ℕ) (t : List ℕ) → DateLang date.Open (c ∷ t) → AfterMove (date_rule date.Open c) t
quote_forth c t h =
    let q = date_to h.0 (c ∷ t) h.1 in
    at_true (c == 34) (move.One (sym.Date (date.Day 0))) move.Fail t (eq-eqb c 34 (cons_head c 34 t q.inner q.whole))
    (subst (DayRest 0) (sym (cons_tail c 34 t q.inner q.whole)) q.day)

-- ---- the group

-- a symbol of a date reads an octet and any text that its rule still reads after it
pub date_back : (s : Date) (c : ℕ) (t : List ℕ) → AfterMove (date_rule s c) t → DateLang s (c ∷ t)
date_back date.Open c t h = quote_back c t h
date_back (date.Day at) c t h = day_back at c t h
date_back (date.Time at) c t h = time_back at c t h

-- where a fitting symbol of a date reads an octet and a text, its rule still reads the text after the octet
pub date_forth : (s : Date) (c : ℕ) (t : List ℕ) → DateFits s ≡ true → DateLang s (c ∷ t) → AfterMove (date_rule s c) t
date_forth date.Open c t fits h = quote_forth c t h
date_forth (date.Day at) c t fits h = day_forth at c t fits h
date_forth (date.Time at) c t fits h = time_forth at c t h

day_none : (at : ℕ) → at < 3 → DayRest at [] → ⊥
day_none at lt h = let e = ap length (no_append h.front h.back h.whole).0 in let n = h.count in omega (arith, lt, e, n)

-- no fitting symbol of a date reads the empty text
pub date_empty : (s : Date) → DateFits s ≡ true → DateLang s [] → ⊥
date_empty date.Open fits h = let e = h.1.whole in cc
date_empty (date.Day at) fits h = day_none at (ltb-true at 3 fits) h
date_empty (date.Time at) fits h = let n = h.count in let l = ltb-true at 21 fits in omega (arith, n, l)

-- ---- examples

abbrev pub time_text : List ℕ
time_text = codes "-1996 02:44:25 -0700\""

abbrev day_text : List ℕ
day_text = codes "17-"

abbrev pub date_text : List ℕ
date_text = 34 ∷ day_text ++ codes "jul" ++ time_text

-- the example's year, time and zone may stand after a month
pub time_example : TimeRest 0 time_text
time_example = record {
  each = (
    refl,
    (
      refl,
      (
        refl,
        (
          refl,
          (
            refl,
            (refl, (refl, (refl, (refl, (refl, (refl, (refl, (refl, (refl, (refl, (refl, (refl, (refl, (refl, (refl, (refl, tt)))))))))))))))),
          ),
        ),
      ),
    ),
  );
  count = refl;
}

places_drop : (p : ℕ → ℕ → Bool) (n at : ℕ) (t : List ℕ) → Places p at t → Places p (at + n) (drop n t)
places_drop p zero at t h = subst (λ (m : ℕ). Places p m t) (omega arith) h
places_drop p (suc n) at [] h = tt
places_drop p (suc n) at (c ∷ t) h = subst (λ (m : ℕ). Places p m (drop n t)) (omega arith) (places_drop p n (at + 1) t h.1)

day_example : (at : ℕ) → at < 3 → DayRest at (drop at day_text ++ (codes "jul" ++ time_text))
day_example at lt = record {
  front = drop at day_text;
  back = codes "jul" ++ time_text;
  whole = refl;
  each = subst (λ (m : ℕ). Places day_octet m (drop at day_text)) (omega arith) (places_drop day_octet at 0 day_text (refl, (refl, (refl, tt))));
  count = (let l = length-drop at day_text in omega (arith, l, lt));
  month = month_to 7 (codes "jul") time_text (omega arith, omega arith, refl) time_example refl;
}

-- the example spells a date
pub date_example : (s : ℤ) × IsDateTime s date_text
date_example = date_from (day_text ++ (codes "jul" ++ time_text)) (day_example 0 (omega arith))

-- each fitting symbol of a date reads some text
pub date_lang_example : (s : Date) → DateFits s ≡ true → (t : List ℕ) × DateLang s t
date_lang_example date.Open fits = (date_text, date_example)
date_lang_example (date.Day at) fits = (drop at day_text ++ (codes "jul" ++ time_text), day_example at (ltb-true at 3 fits))
date_lang_example (date.Time at) fits = (
  drop at time_text,
  record {
    each = subst (λ (m : ℕ). Places time_octet m (drop at time_text)) (omega arith) (places_drop time_octet at 0 time_text time_example.each);
    count = (let l = length-drop at time_text in let lt = ltb-true at 21 fits in omega (arith, l, lt));
  },
)
