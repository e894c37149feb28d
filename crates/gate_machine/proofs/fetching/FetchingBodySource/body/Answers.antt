use Rattle.std.proofs.Common.{◌≡◌, ◌∙◌, ℕ, List, Option, sym, subst}
use Rattle.std.specs.Prelude.{MatchOption}
use Rattle.email_bodies.specs.Keeping.{after_use}
use Rattle.gate_machine.specs.Lending.{Moment, RunsOut, SourceState}
use Rattle.gate_machine.proofs.Fetched.{answers_kept, runs_out_first}
use Rattle.gate_machine.proofs.fetching.FetchingBodySource.body.Goals as goal

pub returns-in-Err-clause-memory : goal.returns-in-Err-clause-memory
returns-in-Err-clause-memory g c = λ is.
    let at : SourceState → Moment =
    λ x. record { source = x; tape = g.L.Taped.tape c.args.link.now; faults = g.L.Taped.faults c.args.link.now; hidden = g.L.Taped.hidden c.args.link.now } in
    subst (λ (x : SourceState). RunsOut c.args.message (at c.args.self.now) (at x)) (sym c.in-Err.ensures.err) (runs_out_first c.args.message (at c.args.self.now))

pub returns-in-Ok-Some-clause-body : goal.returns-in-Ok-Some-clause-body
returns-in-Ok-Some-clause-body g c =
    let at : SourceState → Moment =
    λ x. record { source = x; tape = g.L.Taped.tape c.args.link.now; faults = g.L.Taped.faults c.args.link.now; hidden = g.L.Taped.hidden c.args.link.now } in
    answers_kept c.args.message c.in-Ok-Some.body (at c.args.self.now) c.kept.new.self (sym c.in-Ok-Some.ensures.found ∙ c.in-Ok-Some.field-0-is)
    (subst (λ (o : Option (List ℕ)). MatchOption o (c.kept.new.self ≡ c.args.self.now)
    (λ octets. c.kept.new.self ≡ record c.args.self.now { bodies = after_use c.args.message.email c.args.self.now.bodies })) c.in-Ok-Some.field-0-is c.in-Ok-Some.ensures.used)
