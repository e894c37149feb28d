use Rattle.std.proofs.Common.{ℕ, List, refl, sym, ap, subst, ◌∙◌}
use Rattle.std.proofs.lemmas.Result.{err_from_is_err_and}
use Rattle.gate_world.proofs.Joins.{join, widen}
use Rattle.told_mail.specs.Told.{Told}
use Rattle.store_causes.proofs.Finds.{begun_asks, unconnected, wants_connected, wants_stopped, connected}
use Rattle.store_causes.specs.Causes.{loses_link}
use Rattle.store_causes.specs.declared.notes.Notes.{Notes}
use Rattle.store_causes.specs.reading.Following.{beginning_by}
use Rattle.store_causes.specs.reading.Rounding.{ReadsTo}
use Rattle.store_causes.proofs.Losing.{lost_after}
use Rattle.store_causes.proofs.check.ask_store.Goals as goal

pub returns-in_err-cause-clause-tape : goal.returns-in_err-cause-clause-tape
returns-in_err-cause-clause-tape g c =
    let ends = err_from_is_err_and c.from_residual.result c.from_residual.ensures.1 in
    rw (ends.1, ends.2) (widen _ c.in_err-cause.ensures.tape (λ x so life stands. let f = so life stands in
    (f.0, wants_connected c.in_err-cause.field-0.0 c.requires.stage (begun_asks c.new.ensures f.1))))

pub returns-then-not-alive-clause-tape : goal.returns-then-not-alive-clause-tape
returns-then-not-alive-clause-tape g c =
    widen _ c.in_ok-cause.ensures.tape (λ x so life stands. let f = so life stands in (
      f.0,
      unconnected c.args.password.now c.in_ok-cause.cause _ c.requires.password c.requires.stage (c.refusals_stop.ensures.connecting _ _ _) (sym c.alive.ensures ∙ c.if-not-alive.true) refl refl refl
          (ap (λ (t : Told). t.mail) c.new-then-not-alive.ensures) refl refl
          (c.in_ok-beginning.ensures.told ∙ ap (beginning_by c.args.password.now c.in_ok-cause.cause) c.as_slice.ensures) (begun_asks c.new.ensures f.1),
    ))

pub returns-in_err-beginning-clause-tape : goal.returns-in_err-beginning-clause-tape
returns-in_err-beginning-clause-tape g c =
    let ends = err_from_is_err_and c.from_residual-in_err-beginning.result c.from_residual-in_err-beginning.ensures.1 in
    rw (ends.1, ends.2) (widen _ c.in_ok-cause.ensures.tape (λ x so life stands. let f = so life stands in (
      f.0,
      wants_stopped c.in_ok-cause.cause c.in_err-beginning.field-0.0 c.requires.stage (c.refusals_stop.ensures.connecting _ _ _)
          (sym c.alive.ensures ∙ c.if-not-alive.true) (begun_asks c.new.ensures f.1),
    )))

pub returns-clause-tape : goal.returns-clause-tape
returns-clause-tape g c =
    join _ c.in_ok-cause.ensures.tape c.read_mail.ensures.tape (λ x y so reads life stands. let f = so life stands in
    let r = reads f.0 f.1.follows.stands in (
      r.0,
      connected y c.read_mail.result c.requires.stage (sym c.alive.ensures ∙ c.if-not-alive.false) (begun_asks c.new.ensures f.1)
          (subst (λ (p : List ℕ). ReadsTo p c.args.connection.preauth c.ask_all.new.plan.notes f.0 r.0 c.read_mail.new.client y c.read_mail.result)
          (sym c.requires.password) r.1),
    ))

pub ask_all-requires-clause-lost : goal.ask_all-requires-clause-lost
ask_all-requires-clause-lost g c = ap (λ (n : Notes). loses_link n.cause) c.new.ensures

pub returns-then-not-alive-clause-cause : goal.returns-then-not-alive-clause-cause
returns-then-not-alive-clause-cause g c = c.in_ok-cause.ensures.cause

pub returns-clause-cause : goal.returns-clause-cause
returns-clause-cause g c = lost_after c.read_mail.result (g.L.Taped.faults c.args.link.now) (g.L.Taped.faults c.ask_all.new.link) (g.L.Taped.faults c.read_mail.new.link) c.in_ok-cause.ensures.alone c.read_mail.ensures.cause
