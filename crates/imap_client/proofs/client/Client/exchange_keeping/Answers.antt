use Rattle.std.proofs.Common.{◌≡◌, ◌∙◌, sym, subst, true}
use Rattle.gate_world.proofs.Joins.{join, widen}
use Rattle.imap_client.specs.LinkLife.{ClientState, Stands}
use Rattle.imap_client.proofs.Lives.{goes_on, goes_down, goes_not}
use Rattle.imap_client.proofs.client.Client.exchange_keeping.Goals as goal

pub returns-else-not-up-clause-tape : goal.returns-else-not-up-clause-tape
returns-else-not-up-clause-tape g c =
    let alive : c.self.inside.alive ≡ true = (λ i. (c.self.view_is i).alive) ∙ c.requires in
    rw c.special_use_after-self-inside.ensures (widen _ c.in-Ok.ensures.tape (λ x so life stands. let f = goes_on life c.args.command c.in-Ok.x c.in-Ok.now c.self.inside.selected
    c.self.inside.special_use c.self.inside.number c.self.inside.alive c.complete.new.up c.complete.new.taken c.self.inside.unread c.complete.new.received alive c.if-not-up.false
    (subst (λ (p : ClientState). Stands p life) (sym c.self.view_is) stands) c.in-Ok.ensures.is so in
    (f.0, f.1, f.2, tt)))

pub returns-then-not-up-clause-tape : goal.returns-then-not-up-clause-tape
returns-then-not-up-clause-tape g c =
    let alive : c.self.inside.alive ≡ true = (λ i. (c.self.view_is i).alive) ∙ c.requires in
    rw c.end.ensures (widen _ c.in-Ok.ensures.tape (λ x so life stands. let f = goes_down life c.args.command c.in-Ok.x c.in-Ok.now c.self.inside.selected c.self.inside.special_use
    c.self.inside.number c.self.inside.alive c.complete.new.up c.complete.new.taken c.self.inside.unread c.complete.new.received alive c.if-not-up.true
    (subst (λ (p : ClientState). Stands p life) (sym c.self.view_is) stands) c.in-Ok.ensures.is so in
    (f.0, f.1, f.2, tt)))

pub returns-in-Err-clause-tape : goal.returns-in-Err-clause-tape
returns-in-Err-clause-tape g c =
    let alive : c.self.inside.alive ≡ true = (λ i. (c.self.view_is i).alive) ∙ c.requires in
    rw (c.replace.ensures.after, c.new.ensures, c.replace.ensures.value) (join _ c.in-Err.ensures.tape c.hang_up_where.ensures.tape
    (λ x y so hangs life stands. goes_not y life c.args.command c.in-Err.end c.self.inside.selected c.self.inside.special_use c.self.inside.number c.self.inside.alive c.complete.new.up c.complete.new.taken
    c.self.inside.unread c.complete.new.received alive (subst (λ (p : ClientState). Stands p life) (sym c.self.view_is) stands) so hangs))
