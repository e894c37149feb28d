use Rattle.std.proofs.Common.{◌≡◌, ◌∙◌, IsSome, refl, true, ap, arith, rules}
use Rattle.store_world.specs.StoreBehindLink.{StoreBehindLink}
use Rattle.store_world.proofs.Writing.{broken_off, none_there, replied_to, unlinked}
use Rattle.store_world.proofs.store_world.StoreWorldLink.write.Goals as goal

pub returns-then-not-is_linked-clause-plays : goal.returns-then-not-is_linked-clause-plays
returns-then-not-is_linked-clause-plays c =
    rw (← c.self.view_is)
    (unlinked c.args.from.now _ c.write.new.self c.write.result
    (none_there _ (λ some. let yes : c.is_linked.result ≡ true = c.is_linked.ensures.1 some in search rules))
    c.write.ensures.faults c.write.ensures.hidden c.write.ensures.plays c.write.ensures.never)

pub returns-in-Ok-clause-plays : goal.returns-in-Ok-clause-plays
returns-in-Ok-clause-plays c =
    let linked : IsSome c.args.self.now.steady.left.link = rw (← c.self.view_is) (c.is_linked.ensures.0 (search rules)) in
    replied_to c.args.from.now c.args.self.now _ c.write-in-Ok.new.self c.write-in-Ok.result linked (rw (← c.self-in-Ok.view_is) at c.in-Ok.ensures.ok)
    c.write-in-Ok.ensures.faults c.write-in-Ok.ensures.hidden c.write-in-Ok.ensures.plays c.write-in-Ok.ensures.never

pub returns-in-Err-clause-alone : goal.returns-in-Err-clause-alone
returns-in-Err-clause-alone c =
    let same : c.take.new.self.link_faults ≡ c.args.self.now.link_faults = ap (λ (w : StoreBehindLink). w.link_faults) c.in-Err.ensures.err.1 in
    let kept : c.break_off.new.self.keep_faults ≡ c.args.self.now.keep_faults =
    ap (λ (w : StoreBehindLink). w.keep_faults) c.break_off.ensures.plays ∙ ap (λ (w : StoreBehindLink). w.keep_faults) c.in-Err.ensures.err.1 in
    record { link = omega (arith, same, c.break_off.ensures.more); keep = kept; front = refl; say = refl }

pub returns-in-Err-clause-plays : goal.returns-in-Err-clause-plays
returns-in-Err-clause-plays c =
    let linked : IsSome c.args.self.now.steady.left.link = rw (← c.self.view_is) (c.is_linked.ensures.0 (search rules)) in
    broken_off c.args.from.now c.args.self.now c.take.new.self c.break_off.new.self c.break_off.result linked c.in-Err.ensures.err c.break_off.ensures.plays
