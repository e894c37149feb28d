use Rattle.std.proofs.Common.{take}
use Rattle.text_words.specs.Cuts.{Each}
use Rattle.text_words.proofs.class.cut.Given as goal

abbrev pub invariant-loop-i : goal.invariant-loop-i
invariant-loop-i g l = Each g.C.Class.test (take l.i l.items)
