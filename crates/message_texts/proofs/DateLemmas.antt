-- The parts of a date, put together.
use Rattle.std.proofs.Common.{◌≡◌, ℕ, ℤ, List, [], ◌∷◌, ◌++◌, ap, ◌∙◌}
use Rattle.jiff_core.specs.Calendar.{weekday_number}
use Rattle.header_dates.specs.declared.date.Clock.{Clock}
use Rattle.header_dates.specs.declared.date.Day.{Day}
use Rattle.header_dates.specs.Dates.{day_number}
use Rattle.message_texts.specs.DateTexts.{day_name, day_text, clock_text, zone_text, date_text}
use Rattle.message_texts.proofs.PartLemmas.{then2}

pub date_written : (old t1 t2 t3 t4 t5 t6 t7 name : List ℕ) (d : Day) (c : Clock) (zone : ℤ) → name ≡ day_name (weekday_number (day_number d)) → t1 ≡ old ++ name
    → t2 ≡ t1 ++ 44 ∷ 32 ∷ [] → t3 ≡ t2 ++ day_text d → t4 ≡ t3 ++ 32 ∷ [] → t5 ≡ t4 ++ clock_text c → t6 ≡ t5 ++ 32 ∷ [] → t7 ≡ t6 ++ zone_text zone
    → t7 ≡ old ++ date_text d c zone
unfolding date_text
date_written old t1 t2 t3 t4 t5 t6 t7 name d c zone n e1 e2 e3 e4 e5 e6 e7 =
    let x1 = day_name (weekday_number (day_number d)) in
    let x2 = x1 ++ 44 ∷ 32 ∷ [] in
    let x3 = x2 ++ day_text d in
    let x4 = x3 ++ 32 ∷ [] in
    let x5 = x4 ++ clock_text c in
    let x6 = x5 ++ 32 ∷ [] in
    then2 old t6 t7 x6 (zone_text zone)
    (then2 old t5 t6 x5 (32 ∷ [])
    (then2 old t4 t5 x4 (clock_text c)
    (then2 old t3 t4 x3 (32 ∷ []) (then2 old t2 t3 x2 (day_text d) (then2 old t1 t2 x1 (44 ∷ 32 ∷ []) (e1 ∙ ap (λ (u : List ℕ). old ++ u) n) e2) e3) e4) e5) e6) e7
