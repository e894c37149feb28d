-- What reading a head adds to the tape, and where it leaves the octets that came.
use Rattle.std.specs.Prelude.{◌≡◌, ◌≤◌, ℕ, List, [], length, Result, Ok, Err, ⊤}
use Rattle.gate_world.specs.declared.event.Event.{Event}
use Rattle.http_service.specs.declared.head.Head.{Head}
use Rattle.http_service.specs.declared.lines.TheConstants.{MAX_HEAD_OCTETS}
use Rattle.http_service.specs.declared.error.HttpError.{HttpError}
use Rattle.http_service.specs.declared.error.HttpError.TheVariants.{BadHead, HeadTooLarge, TooLarge, Short, FrontFault, Memory}
use Rattle.http_service.specs.Heads.{IsHeadText, IsMalformed, IsIncomplete}
use Rattle.http_service.specs.Taking.{Due, Nothing, LinesOf, HeadLines, Takes, Breaks, window}

-- why no head is read of these octets
abbrev pub HeadStops : List ℕ → HttpError → Type 0
HeadStops octets BadHead = IsMalformed (window octets)
HeadStops octets HeadTooLarge = IsIncomplete (window octets) × (MAX_HEAD_OCTETS ≤ length octets)
HeadStops octets (TooLarge limit) = ⊥
HeadStops octets Short = IsIncomplete octets
HeadStops octets FrontFault = ⊤
HeadStops octets Memory = ⊤

-- nothing was taken, where a head is due
abbrev pub NoHead : Due → List ℕ → List ℕ → HttpError → Type 0
NoHead due text rest e = (due ≡ LinesOf HeadLines) × (text ≡ []) × HeadStops rest e

-- A head was taken; or nothing was.
abbrev pub ReadsHead : List ℕ → List ℕ → Result Head HttpError → List Event → Type 0
ReadsHead before after (Ok head) events = (text : List ℕ) × Takes Nothing text before after events × IsHeadText text head × (length text ≤ MAX_HEAD_OCTETS)
ReadsHead before after (Err e) events = Breaks NoHead before after e events
