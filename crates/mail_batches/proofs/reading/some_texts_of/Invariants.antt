use Rattle.std.proofs.Common.{◌≡◌, ◌-◌}
use Rattle.mail_batches.specs.reading.Reading.{some_texts_at, with_texts}
use Rattle.mail_batches.proofs.reading.some_texts_of.Given as goal

abbrev pub invariant-loop-at : goal.invariant-loop-at
invariant-loop-at l = some_texts_at l.fn.count l.fn.octets ≡ with_texts l.texts (some_texts_at (l.fn.count - l.at) l.rest)
