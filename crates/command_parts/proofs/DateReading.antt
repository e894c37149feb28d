-- Dates are read as what they are.
use Rattle.std.proofs.Common.{◌≡◌, ℕ, zero, suc, ◌+◌, ◌-◌, ◌≤◌, Bool, true, false, ◌||◌, List, [], ◌∷◌, ◌++◌, length, map, cond, refl, sym, ap, subst, ◌∙◌, append_assoc}
use Rattle.std.proofs.Common.{arith, inl, inr}
use Rattle.std.specs.Prelude.{◌==◌, nat_lt, ℤ}
use Rattle.std.proofs.lemmas.Bool.{ltb-true, ltb-false, lt-ltb, le-ltb, eqb-true}
use Rattle.std.proofs.lemmas.List.{append-nil, map-append}
use Rattle.imap_types.specs.Octets.{is_digit, lower}
use Rattle.imap_types.specs.Texts.{Each, IsWord, plain_octets}
use Rattle.imap_types.specs.Dates.{month_name}
use Rattle.imap_types.specs.DateTimes.{IsMonth, IsDateTime}
use Rattle.imap_automaton.proofs.DateForms.{starts_day, is_sign, octets_of, of_octets, four, two, time_of, zone_of}
use Rattle.imap_types.specs.DateTimes.{seconds_of}
use Rattle.imap_grammar.proofs.DateReadings.{date_read}
use Rattle.imap_values.specs.Dates.{date_in}
use Rattle.command_parts.specs.Fields.{fits_octet}
use Rattle.command_parts.specs.declared.no_command.NoCommand.TheVariants.{NeedMore}
use Rattle.command_parts.specs.declared.lexeme.LexemeStep.{LexemeStep}
use Rattle.command_parts.specs.declared.lexeme.LexemeStep.TheVariants.{Fail, On, End}
use Rattle.command_parts.specs.declared.date.DatePart.{DatePart}
use Rattle.command_parts.specs.declared.date.DatePart.TheVariants as part
use Rattle.command_parts.specs.declared.fixed_text.FixedText.{FixedText}
use Rattle.command_parts.specs.declared.fixed_text.FixedText.TheVariants as word
use Rattle.command_parts.specs.declared.fixed_text.Choice.TheVariants as choice
use Rattle.command_parts.specs.reading.FixedTexts.{fixed_text, fixed_texts, choice_at}
use Rattle.command_parts.specs.reading.Strings.{date_octets_at, date_at}
use Rattle.command_parts.proofs.Choosing.{OneOf, Choices, choose_reader}
use Rattle.command_parts.proofs.Chains.{Chain, chained, chain_reader, Viewed, viewed, view_reader, same_reader}
use Rattle.command_parts.proofs.Parts.{stop_open}
use Rattle.command_parts.specs.reading.Lexemes.{in_day, in_time, date_advance}
use Rattle.command_parts.specs.reading.Steps.{read_from}
use Rattle.command_parts.proofs.Readers.{stop_of, IsReader}
use Rattle.command_parts.proofs.Lexing.{Accepts, IsPlain, IsAlive, is_fail, lexeme_reader}
use Rattle.command_parts.proofs.Stepping.{from_if, at_true, at_false, on_if, go_if}

abbrev day_step : ℕ → LexemeStep DatePart
day_step at = cond (nat_lt at 3) (On (part.Day (at + 1))) (End (part.Day at))

abbrev time_step : ℕ → LexemeStep DatePart
time_step at = cond (nat_lt at 19) (On (part.Time (at + 1))) (End (part.Time at))

-- ---- which octets a date has

day_fits : (at c : ℕ) → in_day at c ≡ true → (fits_octet c ≡ true) × ((c == 10) ≡ false)
day_fits at c e = by (at == 0) (at == 1) (at == 3) e
  where
    by : (a b d : Bool) → cond a (c == 34) (cond b (c == 32 || is_digit c) (cond d (c == 45) (is_digit c))) ≡ true → (fits_octet c ≡ true) × ((c == 10) ≡ false)
    by true b d e = (grind arith, grind arith)
    by false true d e = (grind arith, grind arith)
    by false false true e = (grind arith, grind arith)
    by false false false e = (grind arith, grind arith)

time_fits : (at c : ℕ) → in_time at c ≡ true → (fits_octet c ≡ true) × ((c == 10) ≡ false)
time_fits at c e = by (at == 4 || at == 13) (at == 7 || at == 10) (at == 14) (at == 19) e
  where
    by : (a b d f : Bool) → cond a (c == 32) (cond b (c == 58) (cond d (c == 43 || c == 45) (cond f (c == 34) (is_digit c)))) ≡ true → (fits_octet c ≡ true) × ((c == 10) ≡ false)
    by true b d f e = (grind arith, grind arith)
    by false true d f e = (grind arith, grind arith)
    by false false true f e = (grind arith, grind arith)
    by false false false true e = (grind arith, grind arith)
    by false false false false e = (grind arith, grind arith)

date_small : (s : DatePart) (c : ℕ) → (is_fail (date_advance s c) ≡ true → ⊥) → fits_octet c ≡ true
date_small (part.Day at) c h = go_if (in_day at c) (day_step at) Fail (λ e k. (day_fits at c e).0) (λ e k. absurd (k refl)) h
date_small (part.Time at) c h = go_if (in_time at c) (time_step at) Fail (λ e k. (time_fits at c e).0) (λ e k. absurd (k refl)) h

date_line : (s p : DatePart) (c : ℕ) → date_advance s c ≡ On p → (c == 10) ≡ false
date_line (part.Day at) p c h = on_if (in_day at c) (day_step at) Fail p (λ e k. (day_fits at c e).1) (λ e k. absurd cc) h
date_line (part.Time at) p c h = on_if (in_time at c) (time_step at) Fail p (λ e k. (time_fits at c e).1) (λ e k. absurd cc) h

date_plain : IsPlain date_advance
date_plain = record { small = date_small; on_line = date_line }

-- ---- octets each at its place

abbrev DayFrom : ℕ → List ℕ → Type 0
DayFrom at [] = Unit {0}
DayFrom at (c ∷ t) = (in_day at c ≡ true) × DayFrom (at + 1) t

abbrev TimeFrom : ℕ → List ℕ → Type 0
TimeFrom at [] = Unit {0}
TimeFrom at (c ∷ t) = (in_time at c ≡ true) × TimeFrom (at + 1) t

day_forth : (t : List ℕ) (at : ℕ) (v : DatePart) → at ≤ 3 → Accepts date_advance (part.Day at) v t → DayFrom at t × (at + length t ≡ 4)
day_forth [] at v le h = absurd h
day_forth (c ∷ t) at v le h = from_if (in_day at c) (day_step at) Fail (λ p. Accepts date_advance p v t) v t
    (λ e k. from_if (nat_lt at 3) (On (part.Day (at + 1))) (End (part.Day at)) (λ p. Accepts date_advance p v t) v t
    (λ f g. let lt = ltb-true at 3 f in let r = day_forth t (at + 1) v (omega (arith, lt)) g in ((e, r.0), omega (arith, r.1)))
    (λ f g. last e (ltb-false at 3 f) g.1) k) (λ e k. absurd k) h
  where
    last : in_day at c ≡ true → 3 ≤ at → t ≡ [] → DayFrom at (c ∷ t) × (at + length (c ∷ t) ≡ 4)
    last e ge none = ((e, subst (DayFrom (at + 1)) (sym none) tt), (let long = ap length none in omega (arith, ge, le, long)))

day_back : (t : List ℕ) (at : ℕ) → DayFrom at t → at + length t ≡ 4 → at ≤ 3 → (v : DatePart) × Accepts date_advance (part.Day at) v t
day_back [] at h e le = absurd (omega (arith, e, le))
day_back (c ∷ []) at h e le = (
  part.Day at,
  at_true (in_day at c) (day_step at) Fail (λ p. Accepts date_advance p (part.Day at) []) (part.Day at) [] h.0
      (at_false (nat_lt at 3) (On (part.Day (at + 1))) (End (part.Day at)) (λ p. Accepts date_advance p (part.Day at) []) (part.Day at) [] (le-ltb at 3 (omega (arith, e)))
      (refl, refl)),
)
day_back (c ∷ d ∷ t) at h e le =
    let r = day_back (d ∷ t) (at + 1) h.1 (omega (arith, e)) (omega (arith, e)) in (
      r.0,
      at_true (in_day at c) (day_step at) Fail (λ p. Accepts date_advance p r.0 (d ∷ t)) r.0 (d ∷ t) h.0
          (at_true (nat_lt at 3) (On (part.Day (at + 1))) (End (part.Day at)) (λ p. Accepts date_advance p r.0 (d ∷ t)) r.0 (d ∷ t) (lt-ltb at 3 (omega (arith, e))) r.1),
    )

time_forth : (t : List ℕ) (at : ℕ) (v : DatePart) → at ≤ 19 → Accepts date_advance (part.Time at) v t → TimeFrom at t × (at + length t ≡ 20)
time_forth [] at v le h = absurd h
time_forth (c ∷ t) at v le h = from_if (in_time at c) (time_step at) Fail (λ p. Accepts date_advance p v t) v t
    (λ e k. from_if (nat_lt at 19) (On (part.Time (at + 1))) (End (part.Time at)) (λ p. Accepts date_advance p v t) v t
    (λ f g. let lt = ltb-true at 19 f in let r = time_forth t (at + 1) v (omega (arith, lt)) g in ((e, r.0), omega (arith, r.1)))
    (λ f g. last e (ltb-false at 19 f) g.1) k) (λ e k. absurd k) h
  where
    last : in_time at c ≡ true → 19 ≤ at → t ≡ [] → TimeFrom at (c ∷ t) × (at + length (c ∷ t) ≡ 20)
    last e ge none = ((e, subst (TimeFrom (at + 1)) (sym none) tt), (let long = ap length none in omega (arith, ge, le, long)))

time_back : (t : List ℕ) (at : ℕ) → TimeFrom at t → at + length t ≡ 20 → at ≤ 19 → (v : DatePart) × Accepts date_advance (part.Time at) v t
time_back [] at h e le = absurd (omega (arith, e, le))
time_back (c ∷ []) at h e le = (
  part.Time at,
  at_true (in_time at c) (time_step at) Fail (λ p. Accepts date_advance p (part.Time at) []) (part.Time at) [] h.0
      (at_false (nat_lt at 19) (On (part.Time (at + 1))) (End (part.Time at)) (λ p. Accepts date_advance p (part.Time at) []) (part.Time at) [] (le-ltb at 19 (omega (arith, e)))
      (refl, refl)),
)
time_back (c ∷ d ∷ t) at h e le =
    let r = time_back (d ∷ t) (at + 1) h.1 (omega (arith, e)) (omega (arith, e)) in (
      r.0,
      at_true (in_time at c) (time_step at) Fail (λ p. Accepts date_advance p r.0 (d ∷ t)) r.0 (d ∷ t) h.0
          (at_true (nat_lt at 19) (On (part.Time (at + 1))) (End (part.Time at)) (λ p. Accepts date_advance p r.0 (d ∷ t)) r.0 (d ∷ t) (lt-ltb at 19 (omega (arith, e))) r.1),
    )

-- ---- a lexeme is one from its start on

abbrev Fine : DatePart → Type 0
Fine (part.Day at) = at ≤ 3
Fine (part.Time at) = at ≤ 19

fine_keeps : (s p : DatePart) (c : ℕ) → Fine s → date_advance s c ≡ On p → Fine p
fine_keeps (part.Day at) p c fine h = on_if (in_day at c) (day_step at) Fail p
    (λ e k. on_if (nat_lt at 3) (On (part.Day (at + 1))) (End (part.Day at)) p
    (λ f g. let lt = ltb-true at 3 f in let same : part.Day (at + 1) ≡ p = cc in subst Fine same (omega (arith, lt))) (λ f g. absurd cc) k) (λ e k. absurd cc) h
fine_keeps (part.Time at) p c fine h = on_if (in_time at c) (time_step at) Fail p
    (λ e k. on_if (nat_lt at 19) (On (part.Time (at + 1))) (End (part.Time at)) p
    (λ f g. let lt = ltb-true at 19 f in let same : part.Time (at + 1) ≡ p = cc in subst Fine same (omega (arith, lt))) (λ f g. absurd cc) k) (λ e k. absurd cc) h

-- an octet that may stand at a place
abbrev day_octet : ℕ → ℕ
day_octet at = cond (at == 0) 34 (cond (at == 1) 48 (cond (at == 3) 45 48))

abbrev time_octet : ℕ → ℕ
time_octet at = cond (at == 4 || at == 13) 32 (cond (at == 7 || at == 10) 58 (cond (at == 14) 43 (cond (at == 19) 34 48)))

day_octet_fits : (at : ℕ) → in_day at (day_octet at) ≡ true
day_octet_fits at = by (at == 0) (at == 1) (at == 3)
  where
    by : (a b d : Bool) → (let c = cond a 34 (cond b 48 (cond d 45 48)) in cond a (c == 34) (cond b (c == 32 || is_digit c) (cond d (c == 45) (is_digit c)))) ≡ true
    by true b d = refl
    by false true d = refl
    by false false true = refl
    by false false false = refl

time_octet_fits : (at : ℕ) → in_time at (time_octet at) ≡ true
time_octet_fits at = by (at == 4 || at == 13) (at == 7 || at == 10) (at == 14) (at == 19)
  where
    by : (a b d f : Bool) → (let c = cond a 32 (cond b 58 (cond d 43 (cond f 34 48))) in cond a (c == 32)
        (cond b (c == 58) (cond d (c == 43 || c == 45) (cond f (c == 34) (is_digit c))))) ≡ true
    by true b d f = refl
    by false true d f = refl
    by false false true f = refl
    by false false false true = refl
    by false false false false = refl

day_some : (k at : ℕ) → (t : List ℕ) × DayFrom at t × (length t ≡ k)
day_some zero at = ([], tt, refl)
day_some (suc k) at = let r = day_some k (at + 1) in (day_octet at ∷ r.0, (day_octet_fits at, r.1), omega (arith, r.2))

time_some : (k at : ℕ) → (t : List ℕ) × TimeFrom at t × (length t ≡ k)
time_some zero at = ([], tt, refl)
time_some (suc k) at = let r = time_some k (at + 1) in (time_octet at ∷ r.0, (time_octet_fits at, r.1), omega (arith, r.2))

date_some : (s : DatePart) → Fine s → (v : DatePart) × (t : List ℕ) × Accepts date_advance s v t
date_some (part.Day at) fine = let x = day_some (4 - at) at in let r = day_back x.0 at x.1 (omega (arith, x.2, fine)) fine in (r.0, x.0, r.1)
date_some (part.Time at) fine = let x = time_some (20 - at) at in let r = time_back x.0 at x.1 (omega (arith, x.2, fine)) fine in (r.0, x.0, r.1)

date_alive : IsAlive date_advance Fine
date_alive = record { keeps = fine_keeps; some = date_some }

day_reader : IsReader NeedMore (Accepts date_advance (part.Day 0)) (read_from date_advance (part.Day 0))
day_reader = lexeme_reader date_advance Fine date_plain date_alive (part.Day 0) (omega arith)

time_reader : IsReader NeedMore (Accepts date_advance (part.Time 0)) (read_from date_advance (part.Time 0))
time_reader = lexeme_reader date_advance Fine date_plain date_alive (part.Time 0) (omega arith)

-- ---- months

-- the number of a month by its text
abbrev Month : FixedText → ℕ → Type 0
Month k n = (1 ≤ n) × (n ≤ 12) × (fixed_text k ≡ map lower (month_name n) ++ 45 ∷ [])

abbrev months : List FixedText
months = fixed_texts choice.Months

month_of : (k : FixedText) → OneOf k months → (n : ℕ) × Month k n
month_of k (inl e) = (1, subst (λ (x : FixedText). Month x 1) (sym e) (omega arith, omega arith, refl))
month_of k (inr (inl e)) = (2, subst (λ (x : FixedText). Month x 2) (sym e) (omega arith, omega arith, refl))
month_of k (inr (inr (inl e))) = (3, subst (λ (x : FixedText). Month x 3) (sym e) (omega arith, omega arith, refl))
month_of k (inr (inr (inr (inl e)))) = (4, subst (λ (x : FixedText). Month x 4) (sym e) (omega arith, omega arith, refl))
month_of k (inr (inr (inr (inr (inl e))))) = (5, subst (λ (x : FixedText). Month x 5) (sym e) (omega arith, omega arith, refl))
month_of k (inr (inr (inr (inr (inr (inl e)))))) = (6, subst (λ (x : FixedText). Month x 6) (sym e) (omega arith, omega arith, refl))
month_of k (inr (inr (inr (inr (inr (inr (inl e))))))) = (7, subst (λ (x : FixedText). Month x 7) (sym e) (omega arith, omega arith, refl))
month_of k (inr (inr (inr (inr (inr (inr (inr (inl e)))))))) = (8, subst (λ (x : FixedText). Month x 8) (sym e) (omega arith, omega arith, refl))
month_of k (inr (inr (inr (inr (inr (inr (inr (inr (inl e))))))))) = (9, subst (λ (x : FixedText). Month x 9) (sym e) (omega arith, omega arith, refl))
month_of k (inr (inr (inr (inr (inr (inr (inr (inr (inr (inl e)))))))))) = (10, subst (λ (x : FixedText). Month x 10) (sym e) (omega arith, omega arith, refl))
month_of k (inr (inr (inr (inr (inr (inr (inr (inr (inr (inr (inl e))))))))))) = (11, subst (λ (x : FixedText). Month x 11) (sym e) (omega arith, omega arith, refl))
month_of k (inr (inr (inr (inr (inr (inr (inr (inr (inr (inr (inr (inl e)))))))))))) = (12, subst (λ (x : FixedText). Month x 12) (sym e) (omega arith, omega arith, refl))
month_of k (inr (inr (inr (inr (inr (inr (inr (inr (inr (inr (inr (inr i)))))))))))) = absurd i

-- a month's text is its name and a `-`
month_cut : (k : FixedText) (t : List ℕ) → OneOf k months → IsWord (fixed_text k) t → (n : ℕ) × (name : List ℕ) × IsMonth n name × (t ≡ name ++ 45 ∷ [])
month_cut k t one h =
    let m = month_of k one in
    let c = cut t (map lower (month_name m.0)) (h ∙ m.1.2) in
    (m.0, c.0, (m.1.0, m.1.1, c.1), c.2)
  where
    cut : (t w : List ℕ) → map lower t ≡ w ++ 45 ∷ [] → (name : List ℕ) × (map lower name ≡ w) × (t ≡ name ++ 45 ∷ [])
    cut [] [] e = absurd cc
    cut [] (x ∷ w) e = absurd cc
    cut (c ∷ []) [] e = let first : lower c ≡ 45 = cc in ([], refl, ap (λ (d : ℕ). d ∷ []) (dash c first))
      where
        dash : (c : ℕ) → lower c ≡ 45 → c ≡ 45
        dash c e = grind arith
    cut (c ∷ d ∷ t) [] e = absurd cc
    cut (c ∷ t) (x ∷ w) e =
        let first : lower c ≡ x = cc in
        let r = cut t w cc in
        (c ∷ r.0, ap (λ (d : ℕ). d ∷ map lower r.0) first ∙ ap (λ (u : List ℕ). x ∷ u) r.1, ap (λ (u : List ℕ). c ∷ u) r.2)

month_word : (n : ℕ) → 1 ≤ n → n ≤ 12 → (k : FixedText) × OneOf k months × (fixed_text k ≡ map lower (month_name n) ++ 45 ∷ [])
month_word zero lo hi = absurd (omega (arith, lo))
month_word (suc zero) lo hi = (word.Jan, inl refl, refl)
month_word (suc (suc zero)) lo hi = (word.Feb, inr (inl refl), refl)
month_word (suc (suc (suc zero))) lo hi = (word.Mar, inr (inr (inl refl)), refl)
month_word (suc (suc (suc (suc zero)))) lo hi = (word.Apr, inr (inr (inr (inl refl))), refl)
month_word (suc (suc (suc (suc (suc zero))))) lo hi = (word.May, inr (inr (inr (inr (inl refl)))), refl)
month_word (suc (suc (suc (suc (suc (suc zero)))))) lo hi = (word.Jun, inr (inr (inr (inr (inr (inl refl))))), refl)
month_word (suc (suc (suc (suc (suc (suc (suc zero))))))) lo hi = (word.Jul, inr (inr (inr (inr (inr (inr (inl refl)))))), refl)
month_word (suc (suc (suc (suc (suc (suc (suc (suc zero)))))))) lo hi = (word.Aug, inr (inr (inr (inr (inr (inr (inr (inl refl))))))), refl)
month_word (suc (suc (suc (suc (suc (suc (suc (suc (suc zero))))))))) lo hi = (word.Sep, inr (inr (inr (inr (inr (inr (inr (inr (inl refl)))))))), refl)
month_word (suc (suc (suc (suc (suc (suc (suc (suc (suc (suc zero)))))))))) lo hi = (word.Oct, inr (inr (inr (inr (inr (inr (inr (inr (inr (inl refl))))))))), refl)
month_word (suc (suc (suc (suc (suc (suc (suc (suc (suc (suc (suc zero))))))))))) lo hi = (word.Nov, inr (inr (inr (inr (inr (inr (inr (inr (inr (inr (inl refl)))))))))), refl)
month_word (suc (suc (suc (suc (suc (suc (suc (suc (suc (suc (suc (suc zero)))))))))))) lo hi =
    (word.Dec, inr (inr (inr (inr (inr (inr (inr (inr (inr (inr (inr (inl refl))))))))))), refl)
month_word (suc (suc (suc (suc (suc (suc (suc (suc (suc (suc (suc (suc (suc n))))))))))))) lo hi = absurd (omega (arith, hi))

-- ---- the octets of both parts

record DayOctets (t : List ℕ) : Type 0 where
  d1 : ℕ
  d2 : ℕ
  whole : t ≡ 34 ∷ d1 ∷ d2 ∷ 45 ∷ []
  starts : starts_day d1 ≡ true
  digit : is_digit d2 ≡ true

day_octets : (t : List ℕ) → DayFrom 0 t → length t ≡ 4 → DayOctets t
day_octets (a ∷ b ∷ c ∷ d ∷ []) h e = record {
  d1 = b;
  d2 = c;
  whole = ap (λ (n : ℕ). n ∷ b ∷ c ∷ d ∷ []) (eqb-true a 34 h.0) ∙ ap (λ (n : ℕ). 34 ∷ b ∷ c ∷ n ∷ []) (eqb-true d 45 h.1.1.1.0);
  starts = h.1.0;
  digit = h.1.1.0;
}
day_octets _ h e = absurd (omega (arith, e))

record TimeOctets (t : List ℕ) : Type 0 where
  y1 : ℕ
  y2 : ℕ
  y3 : ℕ
  y4 : ℕ
  h1 : ℕ
  h2 : ℕ
  m1 : ℕ
  m2 : ℕ
  s1 : ℕ
  s2 : ℕ
  sign : ℕ
  z1 : ℕ
  z2 : ℕ
  z3 : ℕ
  z4 : ℕ
  whole : t ≡ y1 ∷ y2 ∷ y3 ∷ y4 ∷ 32 ∷ h1 ∷ h2 ∷ 58 ∷ m1 ∷ m2 ∷ 58 ∷ s1 ∷ s2 ∷ 32 ∷ sign ∷ z1 ∷ z2 ∷ z3 ∷ z4 ∷ 34 ∷ []
  year : Each is_digit (y1 ∷ y2 ∷ y3 ∷ y4 ∷ [])
  hour : Each is_digit (h1 ∷ h2 ∷ [])
  minute : Each is_digit (m1 ∷ m2 ∷ [])
  second : Each is_digit (s1 ∷ s2 ∷ [])
  signed : is_sign sign ≡ true
  zone : Each is_digit (z1 ∷ z2 ∷ [])
  more : Each is_digit (z3 ∷ z4 ∷ [])

time_octets : (t : List ℕ) → TimeFrom 0 t → length t ≡ 20 → TimeOctets t
time_octets (y1 ∷ y2 ∷ y3 ∷ y4 ∷ a ∷ h1 ∷ h2 ∷ b ∷ m1 ∷ m2 ∷ c ∷ s1 ∷ s2 ∷ d ∷ sign ∷ z1 ∷ z2 ∷ z3 ∷ z4 ∷ e ∷ []) h long =
    let r4 = h.1.1.1.1 in
    let r7 = r4.1.1.1 in
    let r10 = r7.1.1.1 in
    let r13 = r10.1.1.1 in
    let r14 = r13.1 in
    let ea = eqb-true a 32 r4.0 in
    let eb = eqb-true b 58 r7.0 in
    let ec = eqb-true c 58 r10.0 in
    let ed = eqb-true d 32 r13.0 in
    let ee = eqb-true e 34 r14.1.1.1.1.1.0 in
    record {
      y1 = y1;
      y2 = y2;
      y3 = y3;
      y4 = y4;
      h1 = h1;
      h2 = h2;
      m1 = m1;
      m2 = m2;
      s1 = s1;
      s2 = s2;
      sign = sign;
      z1 = z1;
      z2 = z2;
      z3 = z3;
      z4 = z4;
      whole = cc;
      year = (h.0, (h.1.0, (h.1.1.0, (h.1.1.1.0, tt))));
      hour = (r4.1.0, (r4.1.1.0, tt));
      minute = (r7.1.0, (r7.1.1.0, tt));
      second = (r10.1.0, (r10.1.1.0, tt));
      signed = r14.0;
      zone = (r14.1.0, (r14.1.1.0, tt));
      more = (r14.1.1.1.0, (r14.1.1.1.1.0, tt));
    }
time_octets _ h long = absurd (omega (arith, long))

-- ---- the reader

abbrev Days : DatePart → List ℕ → Type 0
Days v t = Accepts date_advance (part.Day 0) v t

abbrev Times : DatePart → List ℕ → Type 0
Times v t = Accepts date_advance (part.Time 0) v t

abbrev DateParts : DatePart → List ℕ → Type 0
DateParts = Chain Days (λ d. Chain (Choices months) (λ m. Times))

day_stop : (v : DatePart) (t : List ℕ) → Days v t → stop_of NeedMore t ≡ NeedMore
day_stop v t h =
    let r = day_forth t 0 v (omega arith) h in
    let o = day_octets t r.0 (omega (arith, r.1)) in
    stop_open t (34 ∷ o.d1 ∷ o.d2 ∷ []) 45 o.whole refl

month_stop : (k : FixedText) (t : List ℕ) → Choices months k t → stop_of NeedMore t ≡ NeedMore
month_stop k t h = let c = month_cut k t h.0 h.1 in stop_open t c.1 45 c.3 refl

parts_reader : IsReader NeedMore DateParts date_octets_at
unfolding date_octets_at
parts_reader = chain_reader NeedMore (λ d. NeedMore) Days (λ d. Chain (Choices months) (λ m. Times)) (read_from date_advance (part.Day 0))
    (λ d. chained (choice_at choice.Months) (λ m. read_from date_advance (part.Time 0))) day_reader
    (λ d. chain_reader NeedMore (λ m. NeedMore) (Choices months) (λ m. Times) (choice_at choice.Months) (λ m. read_from date_advance (part.Time 0))
    (choose_reader word.Jan (word.Feb ∷ word.Mar ∷ word.Apr ∷ word.May ∷ word.Jun ∷ word.Jul ∷ word.Aug ∷ word.Sep ∷ word.Oct ∷ word.Nov ∷ word.Dec ∷ []) refl)
    (λ m. time_reader) month_stop) day_stop

-- the parts spell a date
parts_date : (v : DatePart) (t : List ℕ) → DateParts v t → (s : ℤ) × IsDateTime s t
parts_date v t h =
    let th = h.1 in
    let ms = th.second in
    let mh = ms.1 in
    let d = day_forth th.front 0 h.0 (omega arith) th.first in
    let o = day_octets th.front d.0 (omega (arith, d.1)) in
    let m = month_cut ms.0 mh.front mh.first.0 mh.first.1 in
    let c = time_forth mh.back 0 v (omega arith) mh.second in
    let p = time_octets mh.back c.0 (omega (arith, c.1)) in
    let s : ℤ = seconds_of (four p.y1 p.y2 p.y3 p.y4) m.0 (two o.d1 o.d2) (time_of (two p.h1 p.h2) (two p.m1 p.m2) (two p.s1 p.s2)) (p.sign == 43)
    (zone_of (two p.z1 p.z2) (two p.z3 p.z4)) in (
      s,
      of_octets s t (record {
        d1 = o.d1;
        d2 = o.d2;
        month = m.0;
        name = m.1;
        y1 = p.y1;
        y2 = p.y2;
        y3 = p.y3;
        y4 = p.y4;
        h1 = p.h1;
        h2 = p.h2;
        m1 = p.m1;
        m2 = p.m2;
        s1 = p.s1;
        s2 = p.s2;
        sign = p.sign;
        z1 = p.z1;
        z2 = p.z2;
        z3 = p.z3;
        z4 = p.z4;
        whole =
            th.whole ∙ ap (λ (u : List ℕ). u ++ th.back) o.whole ∙ ap (λ (u : List ℕ). 34 ∷ o.d1 ∷ o.d2 ∷ 45 ∷ u) (mh.whole ∙ ap (λ (u : List ℕ). u ++ mh.back) m.3)
            ∙ ap (λ (u : List ℕ). 34 ∷ o.d1 ∷ o.d2 ∷ 45 ∷ u) (append_assoc m.1 (45 ∷ []) mh.back) ∙ ap (λ (u : List ℕ). 34 ∷ o.d1 ∷ o.d2 ∷ 45 ∷ (m.1 ++ 45 ∷ u)) p.whole;
        starts = o.starts;
        digit = o.digit;
        month_is = m.2;
        year_digits = p.year;
        hour_digits = p.hour;
        minute_digits = p.minute;
        second_digits = p.second;
        is_signed = p.signed;
        zone_digits = p.zone;
        zone_more = p.more;
        value = refl;
      }),
    )

-- a date is of the parts
date_parts : (s : ℤ) (t : List ℕ) → IsDateTime s t → (v : DatePart) × DateParts v t
date_parts s t h =
    let o = octets_of s t h in
    let k = month_word o.month o.month_is.0 o.month_is.1 in
    let day : List ℕ = 34 ∷ o.d1 ∷ o.d2 ∷ 45 ∷ [] in
    let month : List ℕ = o.name ++ 45 ∷ [] in
    let time : List ℕ = o.y1 ∷ o.y2 ∷ o.y3 ∷ o.y4 ∷ 32 ∷ o.h1 ∷ o.h2 ∷ 58 ∷ o.m1 ∷ o.m2 ∷ 58 ∷ o.s1 ∷ o.s2 ∷ 32 ∷ o.sign ∷ o.z1 ∷ o.z2 ∷ o.z3 ∷ o.z4 ∷ 34 ∷ [] in
    let d = day_back day 0 (refl, (o.starts, (o.digit, (refl, tt)))) refl (omega arith) in
    let y = o.year_digits in
    let c = time_back time 0 (
      y.0,
      (
        y.1.0,
        (
          y.1.1.0,
          (
            y.1.1.1.0,
            (
              refl,
              (
                o.hour_digits.0,
                (
                  o.hour_digits.1.0,
                  (
                    refl,
                    (
                      o.minute_digits.0,
                      (
                        o.minute_digits.1.0,
                        (
                          refl,
                          (
                            o.second_digits.0,
                            (
                              o.second_digits.1.0,
                              (
                                refl,
                                (o.is_signed, (o.zone_digits.0, (o.zone_digits.1.0, (o.zone_more.0, (o.zone_more.1.0, (refl, tt)))))),
                              ),
                            ),
                          ),
                        ),
                      ),
                    ),
                  ),
                ),
              ),
            ),
          ),
        ),
      ),
    ) refl (omega arith) in (
      c.0,
      (
        d.0,
        record {
          front = day;
          back = month ++ time;
          whole = o.whole ∙ ap (λ (u : List ℕ). 34 ∷ o.d1 ∷ o.d2 ∷ 45 ∷ u) (sym (append_assoc o.name (45 ∷ []) time));
          first = d.1;
          second = (
            k.0,
            record {
              front = month;
              back = time;
              whole = refl;
              first = (k.1, map-append lower o.name (45 ∷ []) ∙ ap (λ (u : List ℕ). u ++ 45 ∷ []) o.month_is.2 ∙ sym k.2);
              second = c.1;
            },
          );
        },
      ),
    )

date_alone : (s : ℤ) (t rest : List ℕ) → IsDateTime s t → date_in (plain_octets t ++ rest) ≡ s
date_alone s t rest h = (date_read s t rest (plain_octets t ++ rest) h refl).0

date_whole : (s : ℤ) (t : List ℕ) → IsDateTime s t → date_in (plain_octets t) ≡ s
date_whole s t h = ap date_in (sym (append-nil (plain_octets t))) ∙ date_alone s t [] h

-- a date is read as its seconds
pub date_reader : IsReader NeedMore IsDateTime date_at
unfolding date_at
date_reader = same_reader NeedMore (Viewed (λ a b. date_in b) DateParts) IsDateTime (viewed (λ a b. date_in b) date_octets_at) forth back
    (view_reader NeedMore (λ a b. date_in b) DateParts date_octets_at parts_reader
    (λ a t rest h. let d = parts_date a t h in date_alone d.0 t rest d.1 ∙ sym (date_whole d.0 t d.1)))
  where
    forth : (s : ℤ) (t : List ℕ) → Viewed (λ a b. date_in b) DateParts s t → IsDateTime s t
    forth s t h = let d = parts_date h.0 t h.1 in subst (λ (r : ℤ). IsDateTime r t) (sym (h.2 ∙ date_whole d.0 t d.1)) d.1

    back : (s : ℤ) (t : List ℕ) → IsDateTime s t → Viewed (λ a b. date_in b) DateParts s t
    back s t h = let p = date_parts s t h in (p.0, p.1, sym (date_whole s t h))

pub date_stop : (s : ℤ) (t : List ℕ) → IsDateTime s t → stop_of NeedMore t ≡ NeedMore
date_stop s t h =
    let o = octets_of s t h in
    let front : List ℕ = o.y1 ∷ o.y2 ∷ o.y3 ∷ o.y4 ∷ 32 ∷ o.h1 ∷ o.h2 ∷ 58 ∷ o.m1 ∷ o.m2 ∷ 58 ∷ o.s1 ∷ o.s2 ∷ 32 ∷ o.sign ∷ o.z1 ∷ o.z2 ∷ o.z3 ∷ o.z4 ∷ [] in
    stop_open t (34 ∷ o.d1 ∷ o.d2 ∷ 45 ∷ (o.name ++ 45 ∷ front)) 34
    (o.whole ∙ ap (λ (u : List ℕ). 34 ∷ o.d1 ∷ o.d2 ∷ 45 ∷ u) (sym (append_assoc o.name (45 ∷ front) (34 ∷ [])))) refl
