use Rattle.std.proofs.Common.{refl}
use Rattle.imap_types.proofs.SetLemmas.{only_of, only_within, only_held}
use Rattle.imap_types.proofs.uid_set.only_in.Goals as goal

pub returns-in-None : goal.returns-in-None
returns-in-None c = λ uid only. c.in-None.ensures uid (only_held c.args.ranges.now uid only)

pub returns-then-are_within : goal.returns-then-are_within
returns-then-are_within c = only_of c.args.ranges.now c.in-Some.uid c.in-Some.ensures (c.if-are_within.ensures.0 refl)

pub returns-else-are_within : goal.returns-else-are_within
returns-else-are_within c = λ uid only. let e = c.if-are_within.ensures.1 (only_within c.args.ranges.now uid c.in-Some.uid only c.in-Some.ensures) in cc
