-- How long octets may take, in milliseconds of the monotonic clock; a sum ends at 2^64 - 1.
use Rattle.std.specs.Prelude.{◌+◌, ◌-◌, ◌/◌, ◌^◌, ℕ, min}
use Rattle.client_streams.specs.declared.pace.Pace.{Pace}
use Rattle.client_streams.specs.declared.pace.TheConstants.{MIN_OCTETS_PER_MILLISECOND, PATIENCE_MILLISECONDS, STALL_MILLISECONDS}
use Rattle.client_streams.specs.declared.taking.Taking.{Taking}

abbrev pub capped : ℕ → ℕ
capped n = min n (2 ^ 64 - 1)

-- how long octets may take, by how many there were: `PATIENCE_MILLISECONDS`, and a millisecond for each `MIN_OCTETS_PER_MILLISECOND`
abbrev pub patience : ℕ → ℕ
patience octets = capped (PATIENCE_MILLISECONDS + octets / MIN_OCTETS_PER_MILLISECOND)

abbrev pub pace_due : Pace → ℕ
pace_due pace = capped (pace.since + patience pace.octets)

abbrev pub with_octets : ℕ → Pace → Pace
with_octets count pace = record pace { octets = capped (pace.octets + count) }

-- how long a client is waited for at most as it is given octets: as long as it may be in all, and no longer than `STALL_MILLISECONDS` at once
abbrev pub send_limit : Taking → ℕ
send_limit taking = min (patience taking.octets - taking.waited) STALL_MILLISECONDS

-- a client that was sent nothing yet
abbrev pub untaken : Taking
untaken = record { waited = 0; octets = 0 }

-- It took octets, for which it was waited for between these moments. It counts the time that its caller says: of the client that is served
-- not that between two sends, which is the gateway's own; of one that takes what is left, that between two looks.
abbrev pub taken_more : ℕ → ℕ → ℕ → Taking → Taking
taken_more count since now taking = record { waited = capped (taking.waited + (now - since)); octets = capped (taking.octets + count) }
