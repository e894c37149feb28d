use Rattle.std.proofs.Common.{ℕ, ◌<◌, ◌≡◌, Some, slice_get}
use Rattle.mail_header.specs.Fields.{NameAndRaw, names_and_raws}
use Rattle.query_core.specs.Headers.{FieldHasWords}
use Rattle.query_core.proofs.header_condition.some_field_has_words.Given as goal

-- no field so far is of the name and has the words
abbrev pub invariant-loop-at : goal.invariant-loop-at
invariant-loop-at l = (k : ℕ) (f : NameAndRaw) → k < l.at → slice_get (names_and_raws l.list) k ≡ Some f → ¬ FieldHasWords l.name l.words f
