use Rattle.std.proofs.Common.{◌≡◌, ◌⊎◌, length, take, arith}
use Rattle.std.proofs.lemmas.Grind.{common_steps}
use Rattle.store_world.proofs.Giving.{drop_both, put_both}
use Rattle.store_world.proofs.ready.Ready.give.Goals as goal

pub returns-clause-octets : goal.returns-clause-octets
returns-clause-octets c =
    let which : (c.min-count.result ≡ length c.self.inside.greeting.now) ⊎ (c.give.result ≡ 0) = grind (arith, common_steps) in
    let copied : c.copy_from_slice.new.self ≡ take c.min-count.result c.self.inside.greeting.now = grind (arith, common_steps) in
    rw (← c.self.view_is)
    (put_both c.min-count.result c.give.result c.self.inside.greeting.now c.self.inside.told c.copy_from_slice.new.self _ c.give.new.into _ (omega arith)
    copied (omega arith) c.give.ensures.octets which)

pub returns-clause-rest : goal.returns-clause-rest
returns-clause-rest c =
    let which : (c.min-count.result ≡ length c.self.inside.greeting.now) ⊎ (c.give.result ≡ 0) = grind (arith, common_steps) in
    rw (← c.self.view_is) (grind (arith, common_steps, drop_both c.min-count.result c.give.result c.self.inside.greeting.now c.self.inside.told))
