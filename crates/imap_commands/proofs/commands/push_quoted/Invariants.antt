use Rattle.std.proofs.Common.{◌≡◌, ◌++◌, ◌∷◌, [], drop}
use Rattle.imap_types.specs.Commands as texts
use Rattle.imap_commands.proofs.commands.push_quoted.Given as goal

abbrev pub invariant-loop-octet : goal.invariant-loop-octet
invariant-loop-octet l = l.out.items ++ (texts.escaped (drop l.octet-index l.text) ++ 34 ∷ []) ≡ l.fn.out.items ++ texts.quoted l.text
