-- Where lines stand, as far as it takes to see that the line end that ends them hasn't come.
use Rattle.std.specs.Prelude.{◌≡◌, ◌⊎◌, ℕ, ◌==◌, if◌then◌else◌, List, [], ◌∷◌, length, take}
use Rattle.http_service.specs.declared.lines.Lines.{Lines}
use Rattle.http_service.specs.declared.lines.Lines.TheVariants.{Head, ChunkLine, Trailer}
use Rattle.http_service.specs.Taking.{HeadLines, ChunkLine as LineOfChunk, TrailerLines}
use Rattle.http_service.specs.Taking as taking
use Rattle.http_service.specs.declared.lines.Place.{Place}
use Rattle.http_service.specs.declared.lines.Place.TheVariants.{Blank, Inside, Begun, Returned, Only, Ended}

-- which lines these are
abbrev pub lines_of : Lines → taking.Lines
lines_of Head = HeadLines
lines_of ChunkLine = LineOfChunk
lines_of Trailer = TrailerLines

-- the place of the first octet
abbrev pub start : Lines → Place
start Head = Blank
start ChunkLine = Only
start Trailer = Begun

-- one octet more
abbrev pub step : Place → ℕ → Place
step Blank c = if c == 10 then Blank else if c == 13 then Blank else Inside
step Inside c = if c == 10 then Begun else Inside
step Begun c = if c == 10 then Ended else if c == 13 then Returned else Inside
step Returned c = if c == 10 then Ended else Inside
step Only c = if c == 10 then Ended else Only
step Ended c = Ended

-- all these octets more
abbrev pub run : Place → List ℕ → Place
run place [] = place
run place (c ∷ octets) = run (step place c) octets

-- such lines are the first n octets, or all of them where the line end that ends them isn't there
abbrev pub EndAt : Lines → List ℕ → ℕ → Type 0
EndAt lines octets n = (run (start lines) (take n octets) ≡ Ended) ⊎ (n ≡ length octets)
