use Rattle.std.proofs.Common.{◌≡◌, true, Some, None, Err, Ok, refl, sym, subst}
use Rattle.std.specs.Prelude.{IfOk, IsErrOf}
use Rattle.email_bodies.specs.declared.error.BodyError.TheVariants as failure
use Rattle.email_bodies.specs.Keeping.{body_at}
use Rattle.imap_exchange.specs.declared.link_end.LinkEnd.{LinkEnd}
use Rattle.gate_machine.specs.Lending.{AnswersBody, Moment, RunsOut, SourceState}
use Rattle.gate_machine.proofs.Fetched.{Came, answers_none, answers_told, runs_out, runs_out_of_room, told_kept, told_lost}
use Rattle.gate_machine.proofs.fetching.Fetching.ask.Goals as goal

pub returns-in-Ok-clause-body : goal.returns-in-Ok-clause-body
returns-in-Ok-clause-body g c =
    let s : SourceState = record { told = c.self.inside.told; bodies = c.self.inside.bodies; client = c.self.inside.client } in
    let at : SourceState → Moment =
    λ x. record { source = x; tape = g.L.Taped.tape c.args.link.now; faults = g.L.Taped.faults c.args.link.now; hidden = g.L.Taped.hidden c.args.link.now } in
    let link = c.fetch_body-came.new.link in
    let after : Moment = record { source = c.keep_told.new.self; tape = g.L.Taped.tape link; faults = g.L.Taped.faults link; hidden = g.L.Taped.hidden link } in
    let came : Came c.args.message (at s) after c.fetch_body-came.new.mirror c.fetch_body-came.new.self (Ok c.in-Ok.body) = record {
      alive = subst (λ (x : SourceState). x.client.alive ≡ true) (sym c.self.view_is) c.requires.alive;
      lacks = subst (λ (x : SourceState). body_at x.bodies c.args.message.email ≡ None) (sym c.self.view_is) c.requires.lacks;
      run = c.in-Ok.ensures.tape;
      counts = c.in-Ok.ensures.counts;
      next = c.in-Ok.ensures.next;
      alone = c.in-Ok.ensures.alone;
      cause = c.in-Ok.ensures.cause;
      hidden = c.in-Ok.ensures.hidden;
    } in
    subst (λ (x : SourceState). IfOk c.keep_told.result (λ o. AnswersBody c.args.message (Some o) (at x) after)) c.self.view_is
    (told_kept c.keep_told.result c.in-Ok.body (λ o. AnswersBody c.args.message (Some o) (at s) after) c.keep_told.ensures.body c.keep_told.ensures.kept
    (λ kept. answers_told c.next_mail_joins.ensures came kept))

pub returns-in-Ok-clause-memory : goal.returns-in-Ok-clause-memory
returns-in-Ok-clause-memory g c =
    let s : SourceState = record { told = c.self.inside.told; bodies = c.self.inside.bodies; client = c.self.inside.client } in
    let at : SourceState → Moment =
    λ x. record { source = x; tape = g.L.Taped.tape c.args.link.now; faults = g.L.Taped.faults c.args.link.now; hidden = g.L.Taped.hidden c.args.link.now } in
    let link = c.fetch_body-came.new.link in
    let after : Moment = record { source = c.keep_told.new.self; tape = g.L.Taped.tape link; faults = g.L.Taped.faults link; hidden = g.L.Taped.hidden link } in
    let came : Came c.args.message (at s) after c.fetch_body-came.new.mirror c.fetch_body-came.new.self (Ok c.in-Ok.body) = record {
      alive = subst (λ (x : SourceState). x.client.alive ≡ true) (sym c.self.view_is) c.requires.alive;
      lacks = subst (λ (x : SourceState). body_at x.bodies c.args.message.email ≡ None) (sym c.self.view_is) c.requires.lacks;
      run = c.in-Ok.ensures.tape;
      counts = c.in-Ok.ensures.counts;
      next = c.in-Ok.ensures.next;
      alone = c.in-Ok.ensures.alone;
      cause = c.in-Ok.ensures.cause;
      hidden = c.in-Ok.ensures.hidden;
    } in
    subst (λ (x : SourceState). IsErrOf c.keep_told.result failure.Memory → RunsOut c.args.message (at x) after) c.self.view_is
    (told_lost c.keep_told.result c.keep_told.ensures.err (λ kept. runs_out_of_room c.next_mail_joins.ensures came kept))

pub returns-in-Err-clause-ended : goal.returns-in-Err-clause-ended
returns-in-Err-clause-ended g c =
    let s : SourceState = record { told = c.self.inside.told; bodies = c.self.inside.bodies; client = c.self.inside.client } in
    let at : SourceState → Moment =
    λ x. record { source = x; tape = g.L.Taped.tape c.args.link.now; faults = g.L.Taped.faults c.args.link.now; hidden = g.L.Taped.hidden c.args.link.now } in
    let link = c.fetch_body-came.new.link in
    let left : SourceState = record { told = c.fetch_body-came.new.mirror; bodies = c.self.inside.bodies; client = c.fetch_body-came.new.self } in
    let after : Moment = record { source = left; tape = g.L.Taped.tape link; faults = g.L.Taped.faults link; hidden = g.L.Taped.hidden link } in
    let came : Came c.args.message (at s) after c.fetch_body-came.new.mirror c.fetch_body-came.new.self (Err c.in-Err.end) = record {
      alive = subst (λ (x : SourceState). x.client.alive ≡ true) (sym c.self.view_is) c.requires.alive;
      lacks = subst (λ (x : SourceState). body_at x.bodies c.args.message.email ≡ None) (sym c.self.view_is) c.requires.lacks;
      run = c.in-Err.ensures.tape;
      counts = c.in-Err.ensures.counts;
      next = c.in-Err.ensures.next;
      alone = c.in-Err.ensures.alone;
      cause = c.in-Err.ensures.cause;
      hidden = c.in-Err.ensures.hidden;
    } in
    λ is.
    let ended : c.error_of.result ≡ failure.Ended = cc in
    subst (λ (x : SourceState). AnswersBody c.args.message None (at x) after) c.self.view_is
    (answers_none c.next_mail_joins.ensures came (c.error_of.ensures.ended ended) refl)

pub returns-in-Err-clause-memory : goal.returns-in-Err-clause-memory
returns-in-Err-clause-memory g c =
    let s : SourceState = record { told = c.self.inside.told; bodies = c.self.inside.bodies; client = c.self.inside.client } in
    let at : SourceState → Moment =
    λ x. record { source = x; tape = g.L.Taped.tape c.args.link.now; faults = g.L.Taped.faults c.args.link.now; hidden = g.L.Taped.hidden c.args.link.now } in
    let link = c.fetch_body-came.new.link in
    let left : SourceState = record { told = c.fetch_body-came.new.mirror; bodies = c.self.inside.bodies; client = c.fetch_body-came.new.self } in
    let after : Moment = record { source = left; tape = g.L.Taped.tape link; faults = g.L.Taped.faults link; hidden = g.L.Taped.hidden link } in
    let came : Came c.args.message (at s) after c.fetch_body-came.new.mirror c.fetch_body-came.new.self (Err c.in-Err.end) = record {
      alive = subst (λ (x : SourceState). x.client.alive ≡ true) (sym c.self.view_is) c.requires.alive;
      lacks = subst (λ (x : SourceState). body_at x.bodies c.args.message.email ≡ None) (sym c.self.view_is) c.requires.lacks;
      run = c.in-Err.ensures.tape;
      counts = c.in-Err.ensures.counts;
      next = c.in-Err.ensures.next;
      alone = c.in-Err.ensures.alone;
      cause = c.in-Err.ensures.cause;
      hidden = c.in-Err.ensures.hidden;
    } in
    λ is.
    let memory : c.error_of.result ≡ failure.Memory = cc in
    subst (λ (x : SourceState). RunsOut c.args.message (at x) after) c.self.view_is
    (runs_out c.next_mail_joins.ensures
    (subst (λ (e : LinkEnd). Came c.args.message (at s) after c.fetch_body-came.new.mirror c.fetch_body-came.new.self (Err e)) (c.error_of.ensures.memory memory) came) refl)
