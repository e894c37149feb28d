-- The UTCDate of a time (RFC 8620 section 1.4).
use Rattle.std.specs.Prelude.{ℤ, pos, negsuc, Some}
use Rattle.std.specs.Int.{int_min, int_max}
use Rattle.serde_json.specs.Data.{Data}
use Rattle.header_dates.specs.declared.date.Moment.{Moment}
use Rattle.field_values.specs.Forms.{IsMomentData}

-- seconds since 1970-01-01T00:00:00Z, kept within the years 0 to 9999: outside them the nearest second of them
abbrev pub kept_second : ℤ → ℤ
kept_second seconds = int_max (negsuc 62167219199) (int_min seconds (pos 253402300799))

-- that second in UTC
abbrev pub utc_moment : ℤ → Moment
utc_moment seconds = record { seconds = kept_second seconds; offset_minutes = pos 0 }

abbrev pub IsUtcData : ℤ → Data → Type 0
IsUtcData seconds d = IsMomentData (Some (utc_moment seconds)) d
