-- When what a client owes is due, in milliseconds of the monotonic clock.
use Rattle.std.specs.Prelude.{◌+◌, ℕ}
use Rattle.client_front.specs.declared.progress.Stage.{Stage}
use Rattle.client_front.specs.declared.progress.Stage.TheVariants.{Blank, Body}
use Rattle.client_front.specs.declared.progress.Progress.{Progress}
use Rattle.client_front.specs.declared.progress.TheConstants.{HEAD_MILLISECONDS}
use Rattle.client_streams.specs.Patience.{capped, pace_due}
use Rattle.client_streams.specs.declared.pace.Pace.{Pace}

-- a head is due `HEAD_MILLISECONDS` after its client is handed on, and a body by its octets' pace from the head's end
abbrev pub due_at : Stage → Pace → ℕ
due_at Body pace = pace_due pace
due_at _ pace = capped (pace.since + HEAD_MILLISECONDS)

abbrev pub due : Progress → ℕ
due progress = due_at progress.stage progress.pace

-- a request whose client is handed on now
abbrev pub begun : ℕ → Progress
begun now = record { stage = Blank; pace = record { since = now; octets = 0 } }
