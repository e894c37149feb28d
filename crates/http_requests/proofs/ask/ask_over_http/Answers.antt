use Rattle.std.proofs.Common.{List, ℕ, Ok, Err, refl, subst}
use Rattle.gate_world.specs.Causes.{Hidden}
use Rattle.gate_world.proofs.Joins.{join, widen}
use Rattle.http_service.specs.ReadHead.{ReadsHead}
use Rattle.http_requests.specs.Asking.{HeadAsks}
use Rattle.http_requests.proofs.AskLemmas.{head_asks, nothing_after}
use Rattle.http_requests.proofs.ask.ask_over_http.Goals as goal

pub returns-in-Ok-clause-tape : goal.returns-in-Ok-clause-tape
returns-in-Ok-clause-tape g c =
    join _ c.in-Ok.ensures.tape c.ask_by_head.ensures.tape (λ x y reads asks. head_asks c.read_head.new.spare x y (Ok c.in-Ok.head) c.ask_by_head.result
    (subst (λ (l : List ℕ). ReadsHead l c.read_head.new.spare (Ok c.in-Ok.head) x) c.new-spare.ensures reads)
    (subst (λ (h : Hidden). HeadAsks h.token c.args.account.now c.in-Ok.head c.read_head.new.spare c.ask_by_head.result y) c.in-Ok.ensures.hidden asks))

pub returns-clause-tape : goal.returns-clause-tape
returns-clause-tape g c =
    widen _ c.in-Err.ensures.tape (λ x reads. nothing_after c.read_head.new.spare x (Err c.in-Err.error) c.refused.result
    (subst (λ (l : List ℕ). ReadsHead l c.read_head.new.spare (Err c.in-Err.error) x) c.new-spare.ensures reads) (c.refused.ensures, refl))
