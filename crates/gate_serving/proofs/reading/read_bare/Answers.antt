use Rattle.std.proofs.Common.{List, ℕ, inl, inr, subst}
use Rattle.gate_world.proofs.Joins.{widen}
use Rattle.gate_serving.specs.reading.Askings.{AsksInBody}
use Rattle.gate_serving.proofs.Asked.{never_ended, read_in_body}
use Rattle.gate_serving.proofs.reading.read_bare.Goals as goal

pub returns-in-Ok-Whole-clause-tape : goal.returns-in-Ok-Whole-clause-tape
returns-in-Ok-Whole-clause-tape g c =
    widen _ (rw c.in-Ok-Whole.field-0-is at c.in-Ok-Whole.ensures.tape) (λ es gives token. read_in_body token c.in-Ok-Whole.body c.asking_in_body.result es gives
    (subst (λ (l : List ℕ). AsksInBody l c.asking_in_body.result) c.as_slice.ensures c.asking_in_body.ensures))

pub returns-in-Ok-Cut-clause-tape : goal.returns-in-Ok-Cut-clause-tape
returns-in-Ok-Cut-clause-tape g c =
    widen _ (rw c.in-Ok-Cut.field-0-is at c.in-Ok-Cut.ensures.tape) (λ es gives token. inr (c.in-Ok-Cut.field-0-0, gives, c.too_large.ensures))

pub returns-in-Err-Failed-clause-tape : goal.returns-in-Err-Failed-clause-tape
returns-in-Err-Failed-clause-tape g c = widen _ (rw c.in-Err-Failed.field-0-is at c.in-Err-Failed.ensures.tape) (λ es gives token. gives)

pub returns-clause-tape : goal.returns-clause-tape
returns-clause-tape g c = widen _ (rw c.in-Err-Memory.field-0-is at c.in-Err-Memory.ensures.tape) (λ es gives token. inl gives)

pub returns-in-Ok-Whole-clause-whole : goal.returns-in-Ok-Whole-clause-whole
returns-in-Ok-Whole-clause-whole g c = never_ended _ c.asking_in_body.result c.asking_in_body.ensures
