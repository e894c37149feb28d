-- Clients of a listener, one after another.
use Rattle.std.specs.Prelude.{⊤, ◌≡◌, Option, None, Some}

-- This stream was given by the listener; there is none where there is no listener.
abbrev pub GivenBy : {L S : Type 0} → (L → Option S → Type 0) → Option L → Option S → Type 0
GivenBy accepts None stream = stream ≡ None
GivenBy accepts (Some listener) stream = accepts listener stream

-- The listener closed this stream, where there are both.
abbrev pub ClosedBy : {L S : Type 0} → (L → S → Type 0) → Option L → Option S → Type 0
ClosedBy closes listener None = ⊤
ClosedBy closes None (Some stream) = ⊤
ClosedBy closes (Some listener) (Some stream) = closes listener stream
