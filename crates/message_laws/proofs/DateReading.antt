-- Dates that are written are read as their moments.
use Rattle.std.proofs.Common.{◌≡◌, ℕ, zero, suc, ◌+◌, ◌*◌, ◌/◌, ◌%◌, ◌<◌, ◌≤◌, ℤ, pos, negsuc, ◌-ℤ◌, ◌≤ℤ◌, Bool, true, false, not, ◌&&◌, ◌||◌, List, [], ◌∷◌, ◌++◌, refl, sym, ap, ◌∙◌, subst, arith, append_assoc, cond, eqb, Some, None}
use Rattle.std.specs.Prelude.{nat_le}
use Rattle.std.specs.List.{filter}
use Rattle.std.specs.Str.{IsAscii}
use Rattle.std.proofs.lemmas.Bool.{and_from, le-leb, cond-true, cond-false}
use Rattle.std.proofs.lemmas.List.{append-nil}
use Rattle.std.proofs.lemmas.Str.{IsUtf8-from_ascii}
use Rattle.std.proofs.lemmas.Str.Ascii.{IsAscii-nil, IsAscii-cons}
use Rattle.base64.proofs.Tables.{all_below_at}
use Rattle.jiff_core.specs.Calendar.{weekday_number}
use Rattle.jiff_core.proofs.SignedLemmas.{signed_arith}
use Rattle.text_words.specs.Cuts.{Each, IsRun, Stops}
use Rattle.text_words.specs.Octets.{is_between, is_digit, is_white}
use Rattle.header_tokens.specs.declared.token.Alphabet.TheVariants as alphabet
use Rattle.header_tokens.specs.Tokens.{is_letter, Spelled, AreTokens}
use Rattle.header_tokens.specs.Lexemes.{is_lexeme}
use Rattle.mail_header.specs.RawForms.{is_no_zero, raw_form}
use Rattle.header_dates.specs.declared.date.Clock.{Clock}
use Rattle.header_dates.specs.declared.date.Day.{Day}
use Rattle.header_dates.specs.declared.date.Moment.{Moment}
use Rattle.header_dates.specs.Dates.{DatePiece, Digits, Letters, Signed, Octet, joined_piece, runs, pieces_of, value_from, number_in_digits, month_of, year_of, minutes_of, hours_and_minutes, east_of, west_of, is_plus_or_minus}
use Rattle.header_dates.specs.Dates.{offset_of, DayMonthYear, HourMinuteSecond, Offset, IsDateTime, OfWeek, IsMoment, IsDateForm, day_number}
use Rattle.zoned_moments.specs.Zoned.{IsLocalTime}
use Rattle.message_lines.specs.declared.folding.Line.{Line}
use Rattle.message_lines.specs.Folding.{FieldPiece, plain_piece, is_short, line_with, gap, laid}
use Rattle.message_texts.specs.DateTexts.{day_name, month_name, two_digits, four_digits, day_text, clock_text, zone_text, date_text, IsDateOf, IsDateText}
use Rattle.message_laws.proofs.DateLines.{date_printed}
use Rattle.message_laws.proofs.OneDate.{local_day, local_clock}
use Rattle.message_laws.proofs.RawLines.{IsClean, clean_append, clean_gap, raw_is}
use Rattle.message_laws.proofs.Tokens.{gap_token, gap_before, mark_token, mark_before, atom_token, atom_before}

-- hhmm, of minutes
abbrev hhmm : ℕ → List ℕ
hhmm minutes = two_digits (minutes / 60) ++ two_digits (minutes % 60)

abbrev mail_zone : ℤ → List ℕ
mail_zone (pos n) = 43 ∷ hhmm n
mail_zone (negsuc n) = 45 ∷ hhmm (suc n)

-- ---- digits

digit_is : (n : ℕ) → n < 10 → is_digit (48 + n) ≡ true
digit_is n lt = grind arith

digit_below : (c : ℕ) → is_digit c ≡ true → c < 58
digit_below c e = grind arith

digit_letter : (c : ℕ) → is_digit c ≡ true → is_letter alphabet.Mail c ≡ true
digit_letter c e = of (is_digit c) e (all_below_at (λ (k : ℕ). not (is_digit k) || is_letter alphabet.Mail k) 58 c refl (digit_below c e))
  where
    of : (b : Bool) → b ≡ true → (not b || is_letter alphabet.Mail c) ≡ true → is_letter alphabet.Mail c ≡ true
    of true f g = g
    of false f g = absurd cc

high : (n : ℕ) → n < 100 → is_digit (48 + n / 10) ≡ true
high n lt = digit_is (n / 10) (omega arith)

low : (n : ℕ) → is_digit (48 + n % 10) ≡ true
low n = digit_is (n % 10) (omega arith)

two_letters : (n : ℕ) → n < 100 → IsRun (is_letter alphabet.Mail) (two_digits n)
two_letters n lt = ((digit_letter (48 + n / 10) (high n lt), (digit_letter (48 + n % 10) (low n), tt)), λ e. absurd cc)

four_letters : (a b : ℕ) → a < 100 → b < 100 → IsRun (is_letter alphabet.Mail) (two_digits a ++ two_digits b)
four_letters a b la lb = (
  (digit_letter (48 + a / 10) (high a la), (digit_letter (48 + a % 10) (low a), (digit_letter (48 + b / 10) (high b lb), (digit_letter (48 + b % 10) (low b), tt)))),
  λ e. absurd cc,
)

last_digit : (c : ℕ) → is_digit c ≡ true → runs (c ∷ []) ≡ Digits (c ∷ []) ∷ []
unfolding runs joined_piece
last_digit c e = ap (λ (p : DatePiece). p ∷ []) (cond-true (is_digit c) _ _ e)

more_digit : (c : ℕ) (t : List ℕ) (ds : List ℕ) → is_digit c ≡ true → runs t ≡ Digits ds ∷ [] → runs (c ∷ t) ≡ Digits (c ∷ ds) ∷ []
unfolding runs joined_piece
more_digit c t ds e h = ap (joined_piece c) h ∙ cond-true (is_digit c) _ _ e

two_run : (n : ℕ) → n < 100 → runs (two_digits n) ≡ Digits (two_digits n) ∷ []
two_run n lt = more_digit _ _ _ (high n lt) (last_digit _ (low n))

four_run : (a b : ℕ) → a < 100 → b < 100 → runs (two_digits a ++ two_digits b) ≡ Digits (two_digits a ++ two_digits b) ∷ []
four_run a b la lb = more_digit _ _ _ (high a la) (more_digit _ _ _ (low a) (two_run b lb))

two_value : (n : ℕ) → n < 100 → value_from 0 (two_digits n) ≡ n
two_value n lt = omega arith

four_value : (a b : ℕ) → a < 100 → b < 100 → value_from 0 (two_digits a ++ two_digits b) ≡ a * 100 + b
four_value a b la lb = omega arith

-- ---- names

record MonthFacts (m : ℕ) : Type 0 where
  letters : IsRun (is_letter alphabet.Mail) (month_name m)
  run : runs (month_name m) ≡ Letters (month_name m) ∷ []
  is : month_of (month_name m) ≡ Some m

abbrev three : (x y z : ℕ) → List ℕ
three x y z = x ∷ y ∷ z ∷ []

month_facts : (m : ℕ) → 1 ≤ m → m ≤ 12 → MonthFacts m
unfolding runs joined_piece
month_facts zero a b = absurd (omega arith)
month_facts (suc zero) a b = record { letters = ((refl, (refl, (refl, tt))), λ e. absurd cc); run = refl; is = refl }
month_facts (suc (suc zero)) a b = record { letters = ((refl, (refl, (refl, tt))), λ e. absurd cc); run = refl; is = refl }
month_facts (suc (suc (suc zero))) a b = record { letters = ((refl, (refl, (refl, tt))), λ e. absurd cc); run = refl; is = refl }
month_facts (suc (suc (suc (suc zero)))) a b = record { letters = ((refl, (refl, (refl, tt))), λ e. absurd cc); run = refl; is = refl }
month_facts (suc (suc (suc (suc (suc zero))))) a b = record { letters = ((refl, (refl, (refl, tt))), λ e. absurd cc); run = refl; is = refl }
month_facts (suc (suc (suc (suc (suc (suc zero)))))) a b = record { letters = ((refl, (refl, (refl, tt))), λ e. absurd cc); run = refl; is = refl }
month_facts (suc (suc (suc (suc (suc (suc (suc zero))))))) a b = record { letters = ((refl, (refl, (refl, tt))), λ e. absurd cc); run = refl; is = refl }
month_facts (suc (suc (suc (suc (suc (suc (suc (suc zero)))))))) a b = record { letters = ((refl, (refl, (refl, tt))), λ e. absurd cc); run = refl; is = refl }
month_facts (suc (suc (suc (suc (suc (suc (suc (suc (suc zero))))))))) a b = record { letters = ((refl, (refl, (refl, tt))), λ e. absurd cc); run = refl; is = refl }
month_facts (suc (suc (suc (suc (suc (suc (suc (suc (suc (suc zero)))))))))) a b = record { letters = ((refl, (refl, (refl, tt))), λ e. absurd cc); run = refl; is = refl }
month_facts (suc (suc (suc (suc (suc (suc (suc (suc (suc (suc (suc zero))))))))))) a b = record { letters = ((refl, (refl, (refl, tt))), λ e. absurd cc); run = refl; is = refl }
month_facts (suc (suc (suc (suc (suc (suc (suc (suc (suc (suc (suc (suc zero)))))))))))) a b = record { letters = ((refl, (refl, (refl, tt))), λ e. absurd cc); run = refl; is = refl }
month_facts (suc (suc (suc (suc (suc (suc (suc (suc (suc (suc (suc (suc (suc n))))))))))))) a b = absurd (omega arith)

day_letters : (n : ℕ) → IsRun (is_letter alphabet.Mail) (day_name n)
day_letters n = by (eqb n 0) (eqb n 1) (eqb n 2) (eqb n 3) (eqb n 4) (eqb n 5)
  where
    by : (p q r s t u : Bool) → IsRun (is_letter alphabet.Mail)
        (cond p (three 77 111 110) (cond q (three 84 117 101) (cond r (three 87 101 100) (cond s (three 84 104 117) (cond t (three 70 114 105) (cond u (three 83 97 116) (three 83 117 110)))))))
    by true q r s t u = ((refl, (refl, (refl, tt))), λ e. absurd cc)
    by false true r s t u = ((refl, (refl, (refl, tt))), λ e. absurd cc)
    by false false true s t u = ((refl, (refl, (refl, tt))), λ e. absurd cc)
    by false false false true t u = ((refl, (refl, (refl, tt))), λ e. absurd cc)
    by false false false false true u = ((refl, (refl, (refl, tt))), λ e. absurd cc)
    by false false false false false true = ((refl, (refl, (refl, tt))), λ e. absurd cc)
    by false false false false false false = ((refl, (refl, (refl, tt))), λ e. absurd cc)

-- ---- zones

record ZoneFacts (z : ℤ) : Type 0 where
  sign : ℕ
  digits : List ℕ
  whole : mail_zone z ≡ sign ∷ digits
  letters : IsRun (is_letter alphabet.Mail) (sign ∷ digits)
  run : runs (sign ∷ digits) ≡ Signed sign digits ∷ []
  offset : offset_of sign digits ≡ Some z

minutes_back : (m : ℕ) → m < 1440 → hours_and_minutes (number_in_digits 4 4 (hhmm m)) ≡ Some m
minutes_back m lt =
    let v : value_from 0 (hhmm m) ≡ m / 60 * 100 + m % 60 = four_value (m / 60) (m % 60) (omega arith) (omega arith) in
    let n = m / 60 * 100 + m % 60 in
    let l : n % 100 ≡ m % 60 = omega arith in
    let h : n / 100 ≡ m / 60 = omega arith in
    let back : n / 100 * 60 + n % 100 ≡ m = omega arith in
    let small : (nat_le (n % 100) 59 && nat_le (n / 100) 23) ≡ true =
    and_from (nat_le (n % 100) 59) (nat_le (n / 100) 23) (le-leb (n % 100) 59 (omega arith)) (le-leb (n / 100) 23 (omega arith)) in
    ap minutes_of v ∙ cond-true (nat_le (n % 100) 59 && nat_le (n / 100) 23) (Some (n / 100 * 60 + n % 100)) None small ∙ ap (λ (k : ℕ). Some k) back

signed_run : (s : ℕ) (t ds : List ℕ) → is_digit s ≡ false → is_plus_or_minus s ≡ true → runs t ≡ Digits ds ∷ [] → runs (s ∷ t) ≡ Signed s ds ∷ []
unfolding runs joined_piece
signed_run s t ds e f h = ap (joined_piece s) h ∙ cond-false (is_digit s) _ _ e ∙ cond-true (is_plus_or_minus s) _ _ f

zone_letters : (s m : ℕ) → m < 1440 → is_letter alphabet.Mail s ≡ true → IsRun (is_letter alphabet.Mail) (s ∷ hhmm m)
zone_letters s m lt e = ((e, (four_letters (m / 60) (m % 60) (omega arith) (omega arith)).0), λ n. absurd cc)

-- less than a day off
abbrev WithinDay : ℤ → Type 0
WithinDay (pos n) = n < 1440
WithinDay (negsuc n) = suc n < 1440

minus : (n : ℕ) → pos 0 -ℤ pos (suc n) ≡ negsuc n
minus n = first_of (cc, grind arith, omega arith)

zone_facts : (z : ℤ) → WithinDay z → ZoneFacts z
zone_facts (pos n) lt =
    record {
      sign = 43;
      digits = hhmm n;
      whole = refl;
      letters = zone_letters 43 n lt refl;
      run = signed_run 43 (hhmm n) (hhmm n) refl refl (four_run (n / 60) (n % 60) (omega arith) (omega arith));
      offset = ap east_of (minutes_back n lt);
    }
zone_facts (negsuc n) lt =
    record {
      sign = 45;
      digits = hhmm (suc n);
      whole = refl;
      letters = zone_letters 45 (suc n) lt refl;
      run = signed_run 45 (hhmm (suc n)) (hhmm (suc n)) refl refl (four_run ((suc n) / 60) ((suc n) % 60) (omega arith) (omega arith));
      offset = ap west_of (minutes_back (suc n) lt) ∙ ap (λ (k : ℤ). Some k) (minus n);
    }

-- ---- the date

abbrev space_token : Spelled
space_token = gap_token true

space_before : (us : List Spelled) (u : List ℕ) → Stops is_white u → AreTokens alphabet.Mail us u → AreTokens alphabet.Mail (space_token ∷ us) (32 ∷ u)
space_before us u e f = gap_before alphabet.Mail true us u e f

letter_no_white : (c : ℕ) → is_letter alphabet.Mail c ≡ true → is_white c ≡ false
letter_no_white c e = grind arith

run_stops : (w t : List ℕ) → IsRun (is_letter alphabet.Mail) w → Stops is_white (w ++ t)
run_stops [] t r = absurd (r.1 refl)
run_stops (c ∷ w) t r = letter_no_white c r.0.0

-- a run, and a space before what follows it
word_space : (w : List ℕ) (us : List Spelled) (u : List ℕ) → IsRun (is_letter alphabet.Mail) w → Stops is_white u → AreTokens alphabet.Mail us u
    → AreTokens alphabet.Mail (atom_token w ∷ space_token ∷ us) (w ++ 32 ∷ u)
word_space w us u r s h = atom_before alphabet.Mail w (space_token ∷ us) (32 ∷ u) r refl (space_before us u s h)

-- a run, and a colon behind it
word_colon : (w : List ℕ) (us : List Spelled) (u : List ℕ) → IsRun (is_letter alphabet.Mail) w → AreTokens alphabet.Mail us u
    → AreTokens alphabet.Mail (atom_token w ∷ mark_token 58 ∷ us) (w ++ 58 ∷ u)
word_colon w us u r h = atom_before alphabet.Mail w (mark_token 58 ∷ us) (58 ∷ u) r refl (mark_before alphabet.Mail 58 us u refl h)

-- the texts of a date
record Texts : Type 0 where
  name : List ℕ
  day : List ℕ
  month : List ℕ
  year : List ℕ
  hour : List ℕ
  minute : List ℕ
  second : List ℕ
  zone : List ℕ

record AreRuns (t : Texts) : Type 0 where
  name : IsRun (is_letter alphabet.Mail) t.name
  day : IsRun (is_letter alphabet.Mail) t.day
  month : IsRun (is_letter alphabet.Mail) t.month
  year : IsRun (is_letter alphabet.Mail) t.year
  hour : IsRun (is_letter alphabet.Mail) t.hour
  minute : IsRun (is_letter alphabet.Mail) t.minute
  second : IsRun (is_letter alphabet.Mail) t.second
  zone : IsRun (is_letter alphabet.Mail) t.zone

abbrev text_in : Texts → List ℕ
text_in t = t.name ++ 44 ∷ 32 ∷ (t.day ++ 32 ∷ (t.month ++ 32 ∷ (t.year ++ 32 ∷ (t.hour ++ 58 ∷ (t.minute ++ 58 ∷ (t.second ++ 32 ∷ (t.zone ++ [])))))))

abbrev tokens_in_date : Texts → List Spelled
tokens_in_date t =
    atom_token t.name ∷ mark_token 44 ∷ space_token ∷ atom_token t.day ∷ space_token ∷ atom_token t.month ∷ space_token ∷ atom_token t.year ∷ space_token ∷
    atom_token t.hour ∷ mark_token 58 ∷ atom_token t.minute ∷ mark_token 58 ∷ atom_token t.second ∷ space_token ∷ atom_token t.zone ∷ []

date_tokens : (t : Texts) → AreRuns t → AreTokens alphabet.Mail (tokens_in_date t) (text_in t)
date_tokens t r =
    let tz = atom_token t.zone ∷ [] in
    let ts = atom_token t.second ∷ space_token ∷ tz in
    let tm = atom_token t.minute ∷ mark_token 58 ∷ ts in
    let th = atom_token t.hour ∷ mark_token 58 ∷ tm in
    let ty = atom_token t.year ∷ space_token ∷ th in
    let tn = atom_token t.month ∷ space_token ∷ ty in
    let td = atom_token t.day ∷ space_token ∷ tn in
    let xz = t.zone ++ [] in
    let xs = t.second ++ 32 ∷ xz in
    let xm = t.minute ++ 58 ∷ xs in
    let xh = t.hour ++ 58 ∷ xm in
    let xy = t.year ++ 32 ∷ xh in
    let xn = t.month ++ 32 ∷ xy in
    let xd = t.day ++ 32 ∷ xn in
    let z = atom_before alphabet.Mail t.zone [] [] r.zone tt refl in
    let s = word_space t.second tz xz r.second (run_stops t.zone [] r.zone) z in
    let m = word_colon t.minute ts xs r.minute s in
    let h = word_colon t.hour tm xm r.hour m in
    let y = word_space t.year th xh r.year (run_stops t.hour (58 ∷ xm) r.hour) h in
    let n = word_space t.month ty xy r.month (run_stops t.year (32 ∷ xh) r.year) y in
    let d = word_space t.day tn xn r.day (run_stops t.month (32 ∷ xy) r.month) n in
    atom_before alphabet.Mail t.name (mark_token 44 ∷ space_token ∷ td) (44 ∷ 32 ∷ xd) r.name refl
    (mark_before alphabet.Mail 44 (space_token ∷ td) (32 ∷ xd) refl (space_before td xd (run_stops t.day (32 ∷ xn) r.day) d))

pieces_in_date : (day month year hour minute second zone : List ℕ) (pd pm py ph pn ps pz : List DatePiece)
    → runs day ≡ pd → runs month ≡ pm → runs year ≡ py → runs hour ≡ ph → runs minute ≡ pn → runs second ≡ ps → runs zone ≡ pz
    → pieces_of (atom_token day ∷ atom_token month ∷ atom_token year ∷ atom_token hour ∷ mark_token 58 ∷ atom_token minute ∷ mark_token 58 ∷ atom_token second ∷ atom_token zone ∷ [])
    ≡ pd ++ (pm ++ (py ++ (ph ++ Octet 58 ∷ (pn ++ Octet 58 ∷ (ps ++ (pz ++ []))))))
unfolding pieces_of
pieces_in_date day month year hour minute second zone pd pm py ph pn ps pz a b c d e f g =
    ap (λ (u : List DatePiece). u ++ (runs month ++ (runs year ++ (runs hour ++ Octet 58 ∷ (runs minute ++ Octet 58 ∷ (runs second ++ (runs zone ++ []))))))) a
    ∙ ap (λ (u : List DatePiece). pd ++ (u ++ (runs year ++ (runs hour ++ Octet 58 ∷ (runs minute ++ Octet 58 ∷ (runs second ++ (runs zone ++ []))))))) b
    ∙ ap (λ (u : List DatePiece). pd ++ (pm ++ (u ++ (runs hour ++ Octet 58 ∷ (runs minute ++ Octet 58 ∷ (runs second ++ (runs zone ++ []))))))) c
    ∙ ap (λ (u : List DatePiece). pd ++ (pm ++ (py ++ (u ++ Octet 58 ∷ (runs minute ++ Octet 58 ∷ (runs second ++ (runs zone ++ []))))))) d
    ∙ ap (λ (u : List DatePiece). pd ++ (pm ++ (py ++ (ph ++ Octet 58 ∷ (u ++ Octet 58 ∷ (runs second ++ (runs zone ++ []))))))) e
    ∙ ap (λ (u : List DatePiece). pd ++ (pm ++ (py ++ (ph ++ Octet 58 ∷ (pn ++ Octet 58 ∷ (u ++ (runs zone ++ []))))))) f
    ∙ ap (λ (u : List DatePiece). pd ++ (pm ++ (py ++ (ph ++ Octet 58 ∷ (pn ++ Octet 58 ∷ (ps ++ (u ++ []))))))) g

-- the numbers of a date are small
record AreSmall (d : Day) (c : Clock) : Type 0 where
  day : d.day < 100
  month_from : 1 ≤ d.month
  month_to : d.month ≤ 12
  year : d.year < 10000
  hour : c.hour < 100
  minute : c.minute < 100
  second : c.second < 100

abbrev texts_for : Day → Clock → ℤ → Texts
texts_for d c z = record {
  name = day_name (weekday_number (day_number d));
  day = two_digits d.day;
  month = month_name d.month;
  year = four_digits d.year;
  hour = two_digits c.hour;
  minute = two_digits c.minute;
  second = two_digits c.second;
  zone = mail_zone z;
}

two_read : (n : ℕ) → n < 100 → number_in_digits 2 2 (two_digits n) ≡ Some n
two_read n lt = ap (λ (k : ℕ). Some k) (two_value n lt)

day_read : (n : ℕ) → n < 100 → number_in_digits 1 2 (two_digits n) ≡ Some n
day_read n lt = ap (λ (k : ℕ). Some k) (two_value n lt)

year_read : (y : ℕ) → y < 10000 → year_of (four_digits y) ≡ Some y
year_read y lt =
    let v : value_from 0 (four_digits y) ≡ y / 100 * 100 + y % 100 = four_value (y / 100) (y % 100) (omega arith) (omega arith) in
    ap (λ (k : ℕ). Some k) (v ∙ omega arith)

date_read : (d : Day) (c : Clock) (z : ℤ) → AreSmall d c → WithinDay z
    → IsDateTime d c z (atom_token (two_digits d.day) ∷ atom_token (month_name d.month) ∷ atom_token (four_digits d.year) ∷ atom_token (two_digits c.hour) ∷ mark_token 58
    ∷ atom_token (two_digits c.minute) ∷ mark_token 58 ∷ atom_token (two_digits c.second) ∷ atom_token (mail_zone z) ∷ [])
date_read d c z s day =
    let m = month_facts d.month s.month_from s.month_to in
    let f = zone_facts z day in
    record {
      day = Digits (two_digits d.day) ∷ Letters (month_name d.month) ∷ Digits (four_digits d.year) ∷ [];
      clock = Digits (two_digits c.hour) ∷ Octet 58 ∷ Digits (two_digits c.minute) ∷ Octet 58 ∷ Digits (two_digits c.second) ∷ [];
      zone = Signed f.sign f.digits ∷ [];
      whole = pieces_in_date (two_digits d.day) (month_name d.month) (four_digits d.year) (two_digits c.hour) (two_digits c.minute) (two_digits c.second) (mail_zone z) _ _ _ _ _ _ _
          (two_run d.day s.day) m.run (four_run (d.year / 100) (d.year % 100) (omega (arith, s.year)) (omega arith)) (two_run c.hour s.hour) (two_run c.minute s.minute) (two_run c.second s.second)
          (ap runs f.whole ∙ f.run);
      is_day = DayMonthYear d (record {
        day_text = two_digits d.day;
        month_text = month_name d.month;
        year_text = four_digits d.year;
        day_is = day_read d.day s.day;
        month_is = m.is;
        year_is = year_read d.year s.year;
      });
      is_clock = HourMinuteSecond c (record {
        hour_text = two_digits c.hour;
        minute_text = two_digits c.minute;
        second_text = two_digits c.second;
        hour_is = two_read c.hour s.hour;
        minute_is = two_read c.minute s.minute;
        second_is = two_read c.second s.second;
      });
      is_zone = Offset f.sign f.digits z f.offset;
    }

-- ---- the same text

-- three digits of parts, one after another
assoc5 : (a b c d e : List ℕ) → (((a ++ b) ++ c) ++ d) ++ e ≡ a ++ (b ++ (c ++ (d ++ e)))
assoc5 a b c d e = simp append_assoc

assoc7 : (a b c d e f g : List ℕ) → (((((a ++ b) ++ c) ++ d) ++ e) ++ f) ++ g ≡ a ++ (b ++ (c ++ (d ++ (e ++ (f ++ g)))))
assoc7 a b c d e f g = simp append_assoc

day_same : (d : Day) → day_text d ≡ two_digits d.day ++ (32 ∷ [] ++ (month_name d.month ++ (32 ∷ [] ++ four_digits d.year)))
unfolding day_text
day_same d = assoc5 (two_digits d.day) (32 ∷ []) (month_name d.month) (32 ∷ []) (four_digits d.year)

clock_same : (c : Clock) → clock_text c ≡ two_digits c.hour ++ (58 ∷ [] ++ (two_digits c.minute ++ (58 ∷ [] ++ two_digits c.second)))
unfolding clock_text
clock_same c = assoc5 (two_digits c.hour) (58 ∷ []) (two_digits c.minute) (58 ∷ []) (two_digits c.second)

zone_same : (z : ℤ) → zone_text z ≡ mail_zone z
unfolding zone_text
zone_same (pos n) = refl
zone_same (negsuc n) = refl

date_same : (d : Day) (c : Clock) (z : ℤ) → date_text d c z ≡ text_in (texts_for d c z)
unfolding date_text
date_same d c z =
    let name = day_name (weekday_number (day_number d)) in
    let day = two_digits d.day in
    let month = month_name d.month in
    let year = four_digits d.year in
    let time = two_digits c.hour ++ (58 ∷ [] ++ (two_digits c.minute ++ (58 ∷ [] ++ two_digits c.second))) in
    assoc7 name (44 ∷ 32 ∷ []) (day_text d) (32 ∷ []) (clock_text c) (32 ∷ []) (zone_text z)
    ∙ ap (λ (u : List ℕ). name ++ 44 ∷ 32 ∷ (u ++ 32 ∷ (clock_text c ++ 32 ∷ zone_text z))) (day_same d)
    ∙ ap (λ (u : List ℕ). name ++ 44 ∷ 32 ∷ ((day ++ (32 ∷ [] ++ (month ++ (32 ∷ [] ++ year)))) ++ 32 ∷ (u ++ 32 ∷ zone_text z))) (clock_same c)
    ∙ ap (λ (u : List ℕ). name ++ 44 ∷ 32 ∷ ((day ++ (32 ∷ [] ++ (month ++ (32 ∷ [] ++ year)))) ++ 32 ∷ (time ++ 32 ∷ u))) (zone_same z ∙ sym (append-nil (mail_zone z)))
    ∙ ap (λ (u : List ℕ). name ++ 44 ∷ 32 ∷ (day ++ 32 ∷ u)) (append_assoc month (32 ∷ year) (32 ∷ (time ++ 32 ∷ (mail_zone z ++ []))))

-- ---- raw values

ascii : (t : List ℕ) → Each (is_between 32 126) t → IsAscii t
ascii [] e = IsAscii-nil
ascii (c ∷ t) e = IsAscii-cons c t (below c e.0) (ascii t e.1)
  where
    below : (k : ℕ) → is_between 32 126 k ≡ true → k < 128
    below k f = grind arith

no_zeros : (t : List ℕ) → Each (is_between 32 126) t → Each is_no_zero t
no_zeros [] e = tt
no_zeros (c ∷ t) e = (some c e.0, no_zeros t e.1)
  where
    some : (k : ℕ) → is_between 32 126 k ≡ true → is_no_zero k ≡ true
    some k f = grind arith

pub clean_text : (t : List ℕ) → Each (is_between 32 126) t → IsClean t
clean_text t e = record { utf8 = IsUtf8-from_ascii t (ascii t e); no_zero = no_zeros t e }

-- ---- the whole

within : (z : ℤ) → negsuc 1438 ≤ℤ z → z ≤ℤ pos 1439 → WithinDay z
within (pos n) low high = omega (arith, signed_arith)
within (negsuc n) low high = omega (arith, signed_arith)

small : (m : Moment) (d : Day) (c : Clock) → IsLocalTime m d c → AreSmall d c
small m d c k =
    let r = local_day m d c k in
    let t = local_clock m d c k in
    record {
      day = omega (arith, r.day);
      month_from = r.month_from;
      month_to = r.month_to;
      year = omega (arith, r.year);
      hour = omega (arith, t.hour);
      minute = omega (arith, t.minute);
      second = omega (arith, t.second);
    }

runs_of : (d : Day) (c : Clock) (z : ℤ) → AreSmall d c → WithinDay z → AreRuns (texts_for d c z)
runs_of d c z s day =
    let f = zone_facts z day in
    record {
      name = day_letters (weekday_number (day_number d));
      day = two_letters d.day s.day;
      month = (month_facts d.month s.month_from s.month_to).letters;
      year = four_letters (d.year / 100) (d.year % 100) (omega (arith, s.year)) (omega arith);
      hour = two_letters c.hour s.hour;
      minute = two_letters c.minute s.minute;
      second = two_letters c.second s.second;
      zone = subst (λ (u : List ℕ). IsRun (is_letter alphabet.Mail) u) (sym f.whole) f.letters;
    }

-- the tokens of a date behind a gap
gap_tokens : (short : Bool) (t : Texts) → AreRuns t → AreTokens alphabet.Mail (gap_token short ∷ tokens_in_date t) (gap short ++ text_in t)
gap_tokens short t r =
    gap_before alphabet.Mail short (tokens_in_date t) (text_in t)
    (run_stops t.name (44 ∷ 32 ∷ (t.day ++ 32 ∷ (t.month ++ 32 ∷ (t.year ++ 32 ∷ (t.hour ++ 58 ∷ (t.minute ++ 58 ∷ (t.second ++ 32 ∷ (t.zone ++ [])))))))) r.name) (date_tokens t r)

-- one piece, laid
laid_one : (line : Line) (text : List ℕ) → laid line (plain_piece text ∷ []) ≡ gap (is_short (line_with line (plain_piece text))) ++ text
unfolding laid
laid_one line text = ap (λ (u : List ℕ). gap (is_short (line_with line (plain_piece text))) ++ u) (append-nil text)

date_back : (line : Line) (m : Moment) (t : List ℕ) → WithinDay m.offset_minutes → Each (is_between 32 126) t → IsDateOf m t → IsMoment (laid line (plain_piece t ∷ [])) m
date_back line m t day e is =
    let d = is.day in
    let c = is.clock in
    let z = m.offset_minutes in
    let s = small m d c is.is_local in
    let short = is_short (line_with line (plain_piece t)) in
    let tokens = gap_token short ∷ tokens_in_date (texts_for d c z) in
    let raw : raw_form (laid line (plain_piece t ∷ [])) ≡ gap short ++ text_in (texts_for d c z) =
    ap raw_form (laid_one line t) ∙ raw_is (gap short ++ t) (clean_append (gap short) t (clean_gap short) (clean_text t e))
    ∙ ap (λ (u : List ℕ). gap short ++ u) (is.text_is ∙ date_same d c z) in
    record {
      lexemes = filter is_lexeme tokens;
      are = record {
        tokens = tokens;
        are = subst (λ (u : List ℕ). AreTokens alphabet.Mail tokens u) (sym raw) (gap_tokens short (texts_for d c z) (runs_of d c z s day));
        lexemes_are = refl;
      };
      day = d;
      clock = c;
      zone = z;
      is = OfWeek (atom_token (texts_for d c z).name) (mark_token 44) _ refl refl (date_read d c z s day);
      moment_is = is.is_local.is_moment;
    }

-- a date reads back as its moment
pub date_is_read : (line : Line) (m : Moment) (ps : List FieldPiece) → negsuc 1438 ≤ℤ m.offset_minutes → m.offset_minutes ≤ℤ pos 1439 → IsDateText m ps → IsDateForm (laid line ps) (Some m)
date_is_read line m ps low high (t, is, e) =
    subst (λ (us : List FieldPiece). IsMoment (laid line us) m) (sym e) (date_back line m t (within m.offset_minutes low high) (date_printed m t low high is) is)
