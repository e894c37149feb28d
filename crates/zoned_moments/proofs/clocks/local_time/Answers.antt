use Rattle.std.proofs.Common.{◌≡◌, arith, pos, ◌+ℤ◌, ◌-ℤ◌, ◌*ℤ◌}
use Rattle.jiff_core.proofs.SignedLemmas.{signed_arith}
use Rattle.header_dates.specs.Dates as dates
use Rattle.zoned_moments.proofs.MomentLemmas.{is_moment}
use Rattle.zoned_moments.proofs.clocks.local_time.Goals as goal

pub returns-clause-local : goal.returns-clause-local
returns-clause-local c =
    let m = c.args.zoned.moment in
    let day = c.day_of.result in
    let clock = c.clock_at-clock.result in
    let at : dates.day_number day *ℤ pos 86400 +ℤ pos (dates.seconds_of_day clock) -ℤ (m.offset_minutes *ℤ pos 60) ≡ m.seconds =
    omega (arith, signed_arith, c.day_of.ensures.number, c.date_at-date.ensures.number, c.clock_at-clock.ensures.number, c.local_seconds-seconds.ensures.value) in
    record {
      is_second = c.clock_at-clock.ensures.no_leap;
      is_moment = is_moment day clock m c.day_of.ensures.exists c.clock_at-clock.ensures.exists at;
    }
