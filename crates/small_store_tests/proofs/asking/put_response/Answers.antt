use Rattle.std.proofs.Common.{subst}
use Rattle.store_commands.specs.Answers.{IsReadAs}
use Rattle.small_store_tests.proofs.asking.put_response.Goals as goal

pub respond-requires : goal.respond-requires
respond-requires c =
    c.read_may_be_told.ensures _ c.in-Whole.tag c.in-Whole.command (subst (IsReadAs c.deref.result.now) c.in-Whole.is c.in_ok-read.ensures).1
