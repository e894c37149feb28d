use Rattle.std.proofs.Common.{◌≡◌, subst}
use Rattle.std.specs.Prelude.{MatchOption}
use Rattle.email_bodies.specs.Keeping.{after_use}
use Rattle.gate_machine.specs.Lending.{SourceState}
use Rattle.gate_machine.proofs.Fetched.{looked_for}
use Rattle.gate_machine.proofs.fetching.Fetching.kept.Goals as goal

pub returns-clause-used : goal.returns-clause-used
returns-clause-used c =
    let s : SourceState = record { told = c.self.inside.told; bodies = c.self.inside.bodies; client = c.self.inside.client } in
    let now : SourceState = record s { bodies = c.get.new.self } in
    subst (λ (x : SourceState). MatchOption c.in_ok-found.found (now ≡ x) (λ octets. now ≡ record x { bodies = after_use c.args.email x.bodies })) c.self.view_is
    (looked_for c.args.email s c.get.new.self c.in_ok-found.found c.in_ok-found.ensures.found c.in_ok-found.ensures.used)
