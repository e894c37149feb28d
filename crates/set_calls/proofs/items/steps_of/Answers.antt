use Rattle.std.proofs.Common.{◌≡◌, ◌++◌, ℤ, w64, rules, List, [], ◌∷◌, Ok, IfOk, subst, sym}
use Rattle.std.proofs.lemmas.Int.{to_z-of_z}
use mir.Val.{SFits}
use Rattle.gate_world.proofs.Joins.{join, none}
use Rattle.gate_world.specs.declared.event.Event.{Event}
use Rattle.gate_world.specs.declared.event.Event.TheVariants.{Clock, Word}
use Rattle.set_methods.specs.Checks.{Checks, Makes}
use Rattle.set_methods.specs.declared.checks.Passed.{Passed}
use Rattle.set_calls.specs.Calls.{given_at}
use Rattle.set_calls.specs.reading.Calling.{IsPreparedSo}
use Rattle.set_calls.proofs.Steps.{prepared_at_once, prepared_of_drawn}
use Rattle.set_calls.proofs.items.steps_of.Goals as goal

pub returns-in-Steps-clause-tape : goal.returns-in-Steps-clause-tape
returns-in-Steps-clause-tape g c =
    none _ _ (λ k s item checks. prepared_at_once k s item c.in-Steps.job (subst (λ (p : Passed). Checks k.rules (given_at k s) item (Ok p)) c.in-Steps.is checks))

pub returns-in-Drawing-clause-tape : goal.returns-in-Drawing-clause-tape
returns-in-Drawing-clause-tape g c =
    let fits : SFits w64 c.now-now.result = search rules in
    let made : IfOk c.make.result (λ came. Makes c.in-Drawing.ready (record { now = c.now-now.result; word = c.word-word.result }) came) =
    subst (λ (z : ℤ). IfOk c.make.result (λ came. Makes c.in-Drawing.ready (record { now = z; word = c.word-word.result }) came))
    (to_z-of_z w64 c.now-now.result fits) c.make.ensures in
    join _ c.now-now.ensures.tape c.word-word.ensures.tape (λ es fs one two k s item checks.
    let both : es ++ fs ≡ Clock c.now-now.result ∷ Word c.word-word.result ∷ [] = (λ i. one i ++ two i) in
    subst (λ (l : List Event). IsPreparedSo k s item c.make.result l) (sym both)
    (prepared_of_drawn k s item (record { now = c.now-now.result; word = c.word-word.result }) c.make.result
    (c.in-Drawing.ready, subst (λ (p : Passed). Checks k.rules (given_at k s) item (Ok p)) c.in-Drawing.is checks) made))
