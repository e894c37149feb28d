-- A store that is checked, and the report on it.
use Rattle.std.specs.Prelude.{◌≡◌, ℕ, true, List, Option, Some, None, Result, Ok, Err}
use Rattle.std.specs.declared.alloc.AllocError.{AllocError}
use Rattle.gate_world.specs.Causes.{Faults, Rose}
use Rattle.gate_world.specs.declared.event.Event.{Event}
use Rattle.store_causes.specs.declared.cause.StoreCause.{StoreCause}
use Rattle.store_causes.specs.declared.check.Checked.{Checked}
use Rattle.store_causes.specs.Causes.{loses_link}
use Rattle.store_causes.specs.Checks.{Checks}
use Rattle.check_report.specs.declared.finding.Finding.{Finding}
use Rattle.check_report.specs.Findings.{IsFindingOf}
use Rattle.check_report.specs.Lines.{report_of}
use Rattle.gateway.specs.declared.check.Report.{Report}

-- the status where the report was told: 8 where there is a cause by which the store can't be used
abbrev pub found_status : Option StoreCause → ℕ
found_status None = 0
found_status (Some cause) = 8

-- the report on a store that is named so, and on its user: a function of what may be told
abbrev pub report_text : List ℕ → List ℕ → Finding → List ℕ
report_text store user f = report_of store user f.preauth f.let_in f.special_use f.folders.items f.cause f.again f.beginning

-- The store was checked, and this text is the report on it.
pub record IsReport (store user password text : List ℕ) (status : ℕ) (events : List Event) : Type 0 where
  pub checked : Checked
  pub finding : Finding
  pub checks : Checks user password (Ok checked) events
  pub finds : IsFindingOf checked finding
  pub text_is : text ≡ report_text store user finding
  pub status_is : status ≡ found_status checked.cause

-- memory ran out while the store was checked, or before the report was made
abbrev pub LacksReport : List ℕ → List ℕ → List Event → Type 0
LacksReport user password events = (result : Result Checked AllocError) × Checks user password result events

-- ---- what calls add

-- What making the report adds; the link's count rose where the cause is that the link was lost.
abbrev pub ReportsOn : List ℕ → List ℕ → List ℕ → Faults → Faults → Result Report AllocError → List Event → Type 0
ReportsOn store user password was now (Ok report) events =
    (made : IsReport store user password report.text.items report.status events) × (loses_link made.checked.cause ≡ true → Rose was.link now.link)
ReportsOn store user password was now (Err f) events = LacksReport user password events
