-- Where a head ends: at the first empty line after a line that isn't empty. A line ends in LF, before which a CR may stand (RFC 9112 section 2.2).
use Rattle.std.specs.Prelude.{ℕ, Bool, true, false, List, [], ◌∷◌, length, ◌==◌, ◌||◌, if◌then◌else◌}
use Rattle.client_streams.specs.Patience.{with_octets}
use Rattle.client_front.specs.declared.line_ends.TheConstants.{CR, LF}
use Rattle.client_front.specs.declared.progress.Stage.{Stage}
use Rattle.client_front.specs.declared.progress.Stage.TheVariants.{Blank, Line, LineStart, Returned, Body}
use Rattle.client_front.specs.declared.progress.Progress.{Progress}

abbrev pub stage_after : Stage → ℕ → Stage
stage_after Blank octet = if octet == CR || octet == LF then Blank else Line
stage_after Line octet = if octet == LF then LineStart else Line
stage_after LineStart octet = if octet == LF then Body else (if octet == CR then Returned else Line)
stage_after Returned octet = if octet == LF then Body else Line
stage_after Body octet = Body

abbrev pub is_body : Stage → Bool
is_body Body = true
is_body _ = false

-- A request after an octet that has come by now: in the body there is one octet more, and where the octet ends the head the body's time begins.
abbrev pub led_to : ℕ → Progress → Stage → Progress
led_to now progress Body = if is_body progress.stage then record { stage = Body; pace = with_octets 1 progress.pace } else
    record { stage = Body; pace = record { since = now; octets = 0 } }
led_to now progress stage = record { stage = stage; pace = progress.pace }

abbrev pub after_octet : ℕ → Progress → ℕ → Progress
after_octet now progress octet = led_to now progress (stage_after progress.stage octet)

abbrev pub after_octets : ℕ → List ℕ → Progress → Progress
after_octets now [] progress = progress
after_octets now (octet ∷ octets) progress = after_octets now octets (after_octet now progress octet)

-- a request after octets that have come by now
abbrev pub noted : List ℕ → ℕ → Progress → Progress
noted octets now progress = if is_body progress.stage then record progress { pace = with_octets (length octets) progress.pace } else
    after_octets now octets progress
