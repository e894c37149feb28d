use Rattle.std.proofs.Common.{nat_cmp, rules}
use Rattle.std.specs.BTreeMap.{get}
use Rattle.mail_batches.specs.Steps.{moved}
use Rattle.mail_batches.specs.declared.placed.Placed.{Placed}
use Rattle.mail_batches.proofs.TableLemmas.{set_is}
use Rattle.mail_batches.proofs.mail_tables.set_placed.Goals as goal

pub returns-in-Some-clause-set : goal.returns-in-Some-clause-set
returns-in-Some-clause-set c = λ was e q.
    let row : Placed = c.in-Some.placed.now in
    set_is (get nat_cmp c.args.messages.now) c.args.mark c.args.folder c.args.uid c.args.flags row was q _ c.in-Some.ensures.value e
    (((c.get_mut.follows.holds (moved row c.args.folder c.args.uid c.args.flags)).3 (search rules)).0 q)
