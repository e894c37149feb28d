use Rattle.std.proofs.Common.{ℕ, List, subst, sym}
use Rattle.gate_world.proofs.Joins.{join, widen}
use Rattle.store_causes.specs.reading.Following.{GreetingFinds, unanswered_greeting}
use Rattle.store_causes.proofs.Finds.{HasAsked, has_asked, unwelcome, welcome}
use Rattle.store_causes.proofs.Losing.{greeting_lost, lost_after, lost_before}
use Rattle.store_causes.proofs.check.meet.Goals as goal

pub returns-in-Ok-clause-tape : goal.returns-in-Ok-clause-tape
returns-in-Ok-clause-tape g c =
    let user = c.args.connection.user in
    let password = c.args.connection.password in
    let asked = join (HasAsked c.in-Ok.preauth user password c.ask_store-checked.result c.ask_store-checked.new.client) c.in-Ok.ensures.tape c.ask_store-checked.ensures.tape
    (λ x y greeted asks. has_asked c.in-Ok.preauth user password c.ask_store-checked.result c.read_greeting_keeping.new.self c.ask_store-checked.new.client greeted asks) in
    join _ asked c.leave.ensures.tape (λ x y so hangs. welcome y c.in-Ok.preauth user password c.ask_store-checked.result c.ask_store-checked.new.client so hangs)

pub returns-in-Err-clause-tape : goal.returns-in-Err-clause-tape
returns-in-Err-clause-tape g c =
    widen _ c.in-Err.ensures.tape (λ x so. unwelcome c.args.connection.user c.args.connection.password c.in-Err.end c.read_greeting_keeping.new.unread.octets
    c.unwelcome.result so.0 so.1
    (subst (λ (p : List ℕ). GreetingFinds p (unanswered_greeting c.in-Err.end) c.read_greeting_keeping.new.unread.octets c.unwelcome.result) (sym c.requires.password)
    (subst (λ (l : List ℕ). GreetingFinds c.args.password.now (unanswered_greeting c.in-Err.end) l c.unwelcome.result) c.as_slice.ensures c.unwelcome.ensures)))

pub returns-in-Ok-clause-cause : goal.returns-in-Ok-clause-cause
returns-in-Ok-clause-cause g c =
    lost_before c.ask_store-checked.result (g.L.Taped.faults c.args.link.now) (g.L.Taped.faults c.ask_store-checked.new.link) (g.L.Taped.faults c.leave.new.link) c.leave.ensures.cause (lost_after c.ask_store-checked.result (g.L.Taped.faults c.args.link.now) (g.L.Taped.faults c.read_greeting_keeping.new.link) (g.L.Taped.faults c.ask_store-checked.new.link) c.in-Ok.ensures.alone c.ask_store-checked.ensures.cause)

pub returns-in-Err-clause-cause : goal.returns-in-Err-clause-cause
returns-in-Err-clause-cause g c = greeting_lost c.args.password.now c.in-Err.end c.as_slice.result.now c.unwelcome.result (g.L.Taped.faults c.args.link.now) (g.L.Taped.faults c.read_greeting_keeping.new.link)
    c.unwelcome.ensures c.in-Err.ensures.cause
