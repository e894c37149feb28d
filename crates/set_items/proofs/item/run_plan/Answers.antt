use Rattle.std.proofs.Common.{[], refl, sym, ◌∙◌}
use Rattle.gate_world.proofs.Joins.{none, widen}
use Rattle.imap_client.specs.Plans.{Begun, HeardNone}
use Rattle.set_items.proofs.ItemSteps.{rose_off, rose_on}
use Rattle.set_items.proofs.item.run_plan.Goals as goal

pub returns-then-alive-clause-tape : goal.returns-then-alive-clause-tape
returns-then-alive-clause-tape g c =
    widen _ c.follow_torn.ensures.tape (λ x so life stands.
    let f = so life stands in (
      f.0,
      f.1,
      f.2,
      rose_on c.follow_torn.result life.goes_on f.0.goes_on c.follow_torn.new.client.alive _ _ (sym stands.alive ∙ (sym c.alive.ensures ∙ c.if-alive.true))
          f.1.follows.stands.alive c.follow_torn.ensures.alone.link c.follow_torn.ensures.down c.follow_torn.ensures.cause,
    ))

pub returns-clause-tape : goal.returns-clause-tape
returns-clause-tape g c =
    none _ _ (λ life stands.
    let over = sym stands.alive ∙ (sym c.alive.ensures ∙ c.if-alive.false) in
    let k = c.end_without_link.ensures life over in (
      life,
      record {
        exchanges = [];
        follows = record { after = life; so_far = []; last = []; ran = Begun; ends = k.0; whole = refl; stands = stands };
        heard = λ _. HeardNone;
      },
      sym k.1,
      rose_off c.end_without_link.result life.goes_on life.goes_on _ over,
    ))
