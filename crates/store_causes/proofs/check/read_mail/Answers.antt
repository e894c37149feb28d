use Rattle.std.proofs.Common.{arith, refl, sym, ap, ◌∙◌}
use Rattle.std.proofs.lemmas.Result.{err_from_is_err_and}
use Rattle.gate_world.proofs.Joins.{join, widen}
use Rattle.told_mail.specs.Told.{Told}
use Rattle.store_causes.proofs.TwoRounds.{reads_once, reads_twice, wants_after, wants_once, wants_twice}
use Rattle.store_causes.proofs.check.read_mail.Goals as goal

pub returns-in_err-first-clause-tape : goal.returns-in_err-first-clause-tape
returns-in_err-first-clause-tape g c =
    let ends = err_from_is_err_and c.from_residual.result c.from_residual.ensures.1 in
    rw (ends.1, ends.2) (widen _ c.in_err-first.ensures.tape (λ x so life stands. let f = so life stands in (
      f.0,
      wants_once c.args.preauth c.special_use-special_use.result _ c.args.notes c.in_err-first.field-0.0
          (c.special_use-special_use.ensures ∙ stands.special_use_is (sym stands.alive ∙ c.requires.alive)) (ap (λ (t : Told). t.mail) c.new.ensures) f.1,
    )))

pub returns-then-not-alive-clause-tape : goal.returns-then-not-alive-clause-tape
returns-then-not-alive-clause-tape g c =
    widen _ c.in_ok-first.ensures.tape (λ x so life stands. let f = so life stands in (
      f.0,
      reads_once c.args.preauth c.special_use-special_use.result _ c.args.notes _
          (c.special_use-special_use.ensures ∙ stands.special_use_is (sym stands.alive ∙ c.requires.alive)) (ap (λ (t : Told). t.mail) c.new.ensures)
          (sym c.alive.ensures ∙ c.if-not-alive.true) refl refl refl refl refl refl refl f.1,
    ))

pub returns-in_err-copy-clause-tape : goal.returns-in_err-copy-clause-tape
returns-in_err-copy-clause-tape g c =
    let ends = err_from_is_err_and c.from_residual-in_err-copy.result c.from_residual-in_err-copy.ensures.1 in
    rw (ends.1, ends.2) (widen _ c.in_ok-first.ensures.tape (λ x so life stands. let f = so life stands in (
      f.0,
      wants_after c.args.preauth c.special_use-special_use.result _ c.args.notes c.in_err-copy.field-0.0
          (c.special_use-special_use.ensures ∙ stands.special_use_is (sym stands.alive ∙ c.requires.alive)) (ap (λ (t : Told). t.mail) c.new.ensures) f.1,
    )))

pub returns-in_err-again-clause-tape : goal.returns-in_err-again-clause-tape
returns-in_err-again-clause-tape g c =
    let ends = err_from_is_err_and c.from_residual-in_err-again.result c.from_residual-in_err-again.ensures.1 in
    rw (ends.1, ends.2) (join _ c.in_ok-first.ensures.tape c.in_err-again.ensures.tape (λ x y one two life stands. let f = one life stands in
    let r = two f.0 f.1.follows.stands in (
      r.0,
      wants_twice y c.args.preauth c.special_use-special_use.result _ _ c.args.notes c.in_err-again.field-0.0
          (c.special_use-special_use.ensures ∙ stands.special_use_is (sym stands.alive ∙ c.requires.alive)) (ap (λ (t : Told). t.mail) c.new.ensures)
          (ap (λ (t : Told). t.mail) c.in_ok-copy.ensures) (sym c.alive.ensures ∙ c.if-not-alive.false) f.1 r.1,
    )))

pub returns-clause-tape : goal.returns-clause-tape
returns-clause-tape g c =
    join _ c.in_ok-first.ensures.tape c.in_ok-again.ensures.tape (λ x y one two life stands. let f = one life stands in
    let r = two f.0 f.1.follows.stands in (
      r.0,
      reads_twice y c.args.preauth c.special_use-special_use.result _ _ c.args.notes _
          (c.special_use-special_use.ensures ∙ stands.special_use_is (sym stands.alive ∙ c.requires.alive)) (ap (λ (t : Told). t.mail) c.new.ensures)
          (ap (λ (t : Told). t.mail) c.in_ok-copy.ensures) (sym c.alive.ensures ∙ c.if-not-alive.false) refl refl refl refl refl refl refl f.1 r.1,
    ))

pub returns-clause-cause : goal.returns-clause-cause
returns-clause-cause g c =
    λ loses. let rose = c.in_ok-again.ensures.cause loses in omega (arith, rose, c.in_ok-first.ensures.alone.link)
