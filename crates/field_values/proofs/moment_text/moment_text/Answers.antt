use Rattle.std.proofs.Common.{◌≡◌, ◌∙◌, ap, arith, pos, ◌+ℤ◌, ◌-ℤ◌, ◌*ℤ◌, ◌++◌, FitsSigned, w32, to_z, of_z}
use Rattle.std.proofs.lemmas.Int.{to_z-of_z}
use Rattle.jiff_core.proofs.SignedLemmas.{signed_arith}
use Rattle.header_dates.specs.Dates as dates
use Rattle.field_values.specs.MomentText.{local_text}
use Rattle.field_values.proofs.MomentLemmas.{is_moment}
use Rattle.field_values.proofs.moment_text.moment_text.Goals as goal

pub returns : goal.returns
returns c =
    let m = c.args.moment in
    let day = c.day_at-day.result in
    let clock = c.clock_at-clock.result in
    let at : dates.day_number day *ℤ pos 86400 +ℤ pos (dates.seconds_of_day clock) -ℤ (m.offset_minutes *ℤ pos 60) ≡ m.seconds =
    omega (arith, signed_arith, c.day_at-day.ensures.number, c.clock_at-clock.ensures.number, c.local_seconds-seconds.ensures.value) in
    let fits : FitsSigned w32 m.offset_minutes = omega (arith, signed_arith, c.requires.west, c.requires.east) in
    record {
      day = day;
      clock = clock;
      is_second = c.clock_at-clock.ensures.no_leap;
      is_moment = is_moment day clock m c.day_at-day.ensures.exists c.clock_at-clock.ensures.exists at;
      text_is = c.in_ok-push_local.ensures ∙ ap (λ t. t ++ local_text day clock (to_z w32 (of_z w32 m.offset_minutes))) c.new-text.ensures.bytes
          ∙ ap (local_text day clock) (to_z-of_z w32 m.offset_minutes fits);
    }
