-- A spelled date is read back as its seconds.
use Rattle.std.proofs.Common.{◌≡◌, ℕ, zero, suc, ◌+◌, ◌-◌, ◌*◌, ◌≤◌, Bool, true, false, ℤ, List, [], ◌∷◌, ◌++◌, length, map, drop, cond, refl, sym, ap, subst, ◌∙◌, arith}
use Rattle.std.specs.Prelude.{◌==◌}
use Rattle.std.proofs.lemmas.Bool.{cond-true, cond-false}
use Rattle.imap_types.proofs.EachLemmas.{each_to}
use Rattle.imap_automaton.proofs.DateForms.{two, four, starts_day, is_sign, time_of, zone_of, seconds_same, DateOctets, octets_of, digit_starts}
use Rattle.imap_values.specs.Dates.{month_named, date_in}
use Rattle.imap_values.proofs.Cuts.{small, plain_small, digit_small, small_lower}
use Rattle.imap_types.specs.Octets.{is_digit, lower}
use Rattle.imap_types.specs.Texts.{Each, plain_octets}
use Rattle.imap_types.specs.Dates.{month_name}
use Rattle.imap_types.specs.DateTimes.{seconds_of, IsMonth, IsDateTime}

-- ---- months

-- a month's name has three letters, and is read back
record Named (m : ℕ) (w : List ℕ) : Type 0 where
  three : length w ≡ 3
  low : Each small w
  read : month_named w ≡ m

name_of : (m : ℕ) → 1 ≤ m → m ≤ 12 → Named m (map lower (month_name m))
unfolding month_named
name_of zero low high = absurd (omega (arith, low))
name_of (suc zero) low high = record { three = refl; low = (refl, (refl, (refl, tt))); read = refl }
name_of (suc (suc zero)) low high = record { three = refl; low = (refl, (refl, (refl, tt))); read = refl }
name_of (suc (suc (suc zero))) low high = record { three = refl; low = (refl, (refl, (refl, tt))); read = refl }
name_of (suc (suc (suc (suc zero)))) low high = record { three = refl; low = (refl, (refl, (refl, tt))); read = refl }
name_of (suc (suc (suc (suc (suc zero))))) low high = record { three = refl; low = (refl, (refl, (refl, tt))); read = refl }
name_of (suc (suc (suc (suc (suc (suc zero)))))) low high = record { three = refl; low = (refl, (refl, (refl, tt))); read = refl }
name_of (suc (suc (suc (suc (suc (suc (suc zero))))))) low high = record { three = refl; low = (refl, (refl, (refl, tt))); read = refl }
name_of (suc (suc (suc (suc (suc (suc (suc (suc zero)))))))) low high = record { three = refl; low = (refl, (refl, (refl, tt))); read = refl }
name_of (suc (suc (suc (suc (suc (suc (suc (suc (suc zero))))))))) low high = record { three = refl; low = (refl, (refl, (refl, tt))); read = refl }
name_of (suc (suc (suc (suc (suc (suc (suc (suc (suc (suc zero)))))))))) low high = record { three = refl; low = (refl, (refl, (refl, tt))); read = refl }
name_of (suc (suc (suc (suc (suc (suc (suc (suc (suc (suc (suc zero))))))))))) low high = record { three = refl; low = (refl, (refl, (refl, tt))); read = refl }
name_of (suc (suc (suc (suc (suc (suc (suc (suc (suc (suc (suc (suc zero)))))))))))) low high = record { three = refl; low = (refl, (refl, (refl, tt))); read = refl }
name_of (suc (suc (suc (suc (suc (suc (suc (suc (suc (suc (suc (suc (suc m))))))))))))) low high = absurd (omega (arith, high))

smalls_lower : (t : List ℕ) → Each small (map lower t) → Each small t
smalls_lower [] h = tt
smalls_lower (c ∷ t) h = (small_lower c h.0, smalls_lower t h.1)

-- three letters that are the month's name
record Letters (m : ℕ) (t : List ℕ) : Type 0 where
  a : ℕ
  b : ℕ
  c : ℕ
  whole : t ≡ a ∷ b ∷ c ∷ []
  low : Each small (a ∷ b ∷ c ∷ [])
  read : month_named (map lower (a ∷ b ∷ c ∷ [])) ≡ m

letters_by : (m : ℕ) (t w : List ℕ) → Named m w → map lower t ≡ w → Letters m t
letters_by m (a ∷ b ∷ c ∷ []) w n e = record {
  a = a;
  b = b;
  c = c;
  whole = refl;
  low = smalls_lower (a ∷ b ∷ c ∷ []) (subst (Each small) (sym e) n.low);
  read = ap month_named e
      ∙ n.read;
}
letters_by m _ w n e = absurd (let l = ap length e in let k = n.three in omega (arith, l, k))

letters : (m : ℕ) (t : List ℕ) → IsMonth m t → Letters m t
letters m t h = letters_by m t (map lower (month_name m)) (name_of m h.0 h.1) h.2

-- ---- digits

day_small : (c : ℕ) → starts_day c ≡ true → small c ≡ true
day_small c e = grind arith

sign_small : (c : ℕ) → is_sign c ≡ true → small c ≡ true
sign_small c e = grind arith

abbrev digit : ℕ → ℕ
digit c = cond (is_digit c) (c - 48) 0

digit_is : (c : ℕ) → starts_day c ≡ true → digit c ≡ c - 48
digit_is c e = by (is_digit c) refl
  where
    space : (c : ℕ) → starts_day c ≡ true → is_digit c ≡ false → 0 ≡ c - 48
    space c e f = let s : c ≡ 32 = grind arith in omega (arith, s)

    by : (b : Bool) → is_digit c ≡ b → digit c ≡ c - 48
    by true f = cond-true (is_digit c) (c - 48) 0 f
    by false f = cond-false (is_digit c) (c - 48) 0 f ∙ space c e f

two_is : (a b : ℕ) → starts_day a ≡ true → is_digit b ≡ true → 10 * digit a + digit b ≡ two a b
two_is a b e f =
    let x = digit_is a e in
    let y = cond-true (is_digit b) (b - 48) 0 f in
    omega (arith, x, y)

digits_are : (a b : ℕ) → Each is_digit (a ∷ b ∷ []) → 10 * digit a + digit b ≡ two a b
digits_are a b h = two_is a b (digit_starts a h.0) h.1.0

-- ---- the whole date

abbrev text_of : {s : ℤ} {t : List ℕ} → DateOctets s t → ℕ → ℕ → ℕ → List ℕ → List ℕ
text_of o a b c back =
    34 ∷ o.d1 ∷ o.d2 ∷ 45 ∷ a ∷ b ∷ c ∷ 45 ∷ o.y1 ∷ o.y2 ∷ o.y3 ∷ o.y4 ∷ 32 ∷ o.h1 ∷ o.h2 ∷ 58 ∷ o.m1 ∷ o.m2 ∷ 58 ∷ o.s1 ∷ o.s2 ∷ 32 ∷ o.sign ∷ o.z1 ∷ o.z2 ∷ o.z3 ∷ o.z4 ∷ 34 ∷
    back

octets_read : (s : ℤ) (t back : List ℕ) (o : DateOctets s t) (a b c : ℕ) → month_named (map lower (a ∷ b ∷ c ∷ [])) ≡ o.month → date_in (text_of o a b c back) ≡ s
unfolding date_in
octets_read s t back o a b c e =
    let y = o.year_digits in
    let year : 100 * (10 * digit o.y1 + digit o.y2) + (10 * digit o.y3 + digit o.y4) ≡ four o.y1 o.y2 o.y3 o.y4 =
    (let p = digits_are o.y1 o.y2 (y.0, (y.1.0, tt)) in let q = digits_are o.y3 o.y4 y.1.1 in omega (arith, p, q)) in
    let hh = digits_are o.h1 o.h2 o.hour_digits in
    let mm = digits_are o.m1 o.m2 o.minute_digits in
    let ss = digits_are o.s1 o.s2 o.second_digits in
    let zh = digits_are o.z1 o.z2 o.zone_digits in
    let zm = digits_are o.z3 o.z4 o.zone_more in
    let h2 : ℕ = 10 * digit o.h1 + digit o.h2 in
    let m2 : ℕ = 10 * digit o.m1 + digit o.m2 in
    let s2 : ℕ = 10 * digit o.s1 + digit o.s2 in
    let z2 : ℕ = 10 * digit o.z1 + digit o.z2 in
    let z4 : ℕ = 10 * digit o.z3 + digit o.z4 in
    let d2 : ℕ = 10 * digit o.d1 + digit o.d2 in
    let y4 : ℕ = 100 * (10 * digit o.y1 + digit o.y2) + (10 * digit o.y3 + digit o.y4) in
    ap (λ (m : ℕ). seconds_of y4 m d2 (3600 * h2 + 60 * m2 + s2) (o.sign == 43) (3600 * z2 + 60 * z4)) e
    ∙ seconds_same y4 o.month d2 (3600 * h2 + 60 * m2 + s2) (3600 * z2 + 60 * z4) (four o.y1 o.y2 o.y3 o.y4) (two o.d1 o.d2)
    (time_of (two o.h1 o.h2) (two o.m1 o.m2) (two o.s1 o.s2)) (zone_of (two o.z1 o.z2) (two o.z3 o.z4)) (o.sign == 43) (o.sign == 43) year (two_is o.d1 o.d2 o.starts o.digit)
    (omega (arith, hh, mm, ss)) refl (omega (arith, zh, zm))
    ∙ sym o.value

octets_small : (s : ℤ) (t : List ℕ) (o : DateOctets s t) (a b c : ℕ) → Each small (a ∷ b ∷ c ∷ []) → Each small (text_of o a b c [])
octets_small s t o a b c h =
    let y = each_to is_digit small (o.y1 ∷ o.y2 ∷ o.y3 ∷ o.y4 ∷ []) digit_small o.year_digits in
    let hh = each_to is_digit small (o.h1 ∷ o.h2 ∷ []) digit_small o.hour_digits in
    let mm = each_to is_digit small (o.m1 ∷ o.m2 ∷ []) digit_small o.minute_digits in
    let ss = each_to is_digit small (o.s1 ∷ o.s2 ∷ []) digit_small o.second_digits in
    let zh = each_to is_digit small (o.z1 ∷ o.z2 ∷ []) digit_small o.zone_digits in
    let zm = each_to is_digit small (o.z3 ∷ o.z4 ∷ []) digit_small o.zone_more in (
      refl,
      (
        day_small o.d1 o.starts,
        (
          digit_small o.d2 o.digit,
          (
            refl,
            (
              h.0,
              (
                h.1.0,
                (
                  h.1.1.0,
                  (
                    refl,
                    (
                      y.0,
                      (
                        y.1.0,
                        (
                          y.1.1.0,
                          (
                            y.1.1.1.0,
                            (
                              refl,
                              (
                                hh.0,
                                (
                                  hh.1.0,
                                  (
                                    refl,
                                    (
                                      mm.0,
                                      (
                                        mm.1.0,
                                        (refl, (ss.0, (ss.1.0, (refl, (sign_small o.sign o.is_signed, (zh.0, (zh.1.0, (zm.0, (zm.1.0, (refl, tt)))))))))),
                                      ),
                                    ),
                                  ),
                                ),
                              ),
                            ),
                          ),
                        ),
                      ),
                    ),
                  ),
                ),
              ),
            ),
          ),
        ),
      ),
    )

-- the octets of a text that spells a date are read as that date, and take 28 octets
pub date_read : (s : ℤ) (t back b : List ℕ) → IsDateTime s t → b ≡ plain_octets t ++ back → (date_in b ≡ s) × (drop 28 b ≡ back)
date_read s t back b h e =
    let o = octets_of s t h in
    let l = letters o.month o.name o.month_is in
    let tail : List ℕ = 45 ∷ o.y1 ∷ o.y2 ∷ o.y3 ∷ o.y4 ∷ 32 ∷ o.h1 ∷ o.h2 ∷ 58 ∷ o.m1 ∷ o.m2 ∷ 58 ∷ o.s1 ∷ o.s2 ∷ 32 ∷ o.sign ∷ o.z1 ∷ o.z2 ∷ o.z3 ∷ o.z4 ∷ 34 ∷ [] in
    let is : t ≡ text_of o l.a l.b l.c [] = o.whole ∙ ap (λ (u : List ℕ). 34 ∷ o.d1 ∷ o.d2 ∷ 45 ∷ (u ++ tail)) l.whole in
    let f : b ≡ text_of o l.a l.b l.c back = e ∙ ap (λ (u : List ℕ). u ++ back)
    (ap plain_octets is ∙ plain_small (text_of o l.a l.b l.c []) (octets_small s t o l.a l.b l.c l.low)) in
    (ap date_in f ∙ octets_read s t back o l.a l.b l.c l.read, ap (drop 28) f)
