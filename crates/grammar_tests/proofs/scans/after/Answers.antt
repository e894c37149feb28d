use Rattle.std.proofs.Common.{[], refl}
use Rattle.grammar_tests.proofs.scans.after.Goals as goal

pub loop-init : goal.loop-init
loop-init c = (c.args.front.now, c.in-NeedMore.ensures.more [] c.new-scanner.ensures refl)
