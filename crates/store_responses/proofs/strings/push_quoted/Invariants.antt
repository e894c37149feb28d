use Rattle.std.proofs.Common.{◌≡◌, ◌++◌, ◌∷◌, [], drop}
use Rattle.imap_types.specs.Strings.{escaped, quoted}
use Rattle.store_responses.proofs.strings.push_quoted.Given as goal

abbrev pub invariant-loop-octet : goal.invariant-loop-octet
invariant-loop-octet l = l.out.items ++ (escaped (drop l.octet-index l.text) ++ 34 ∷ []) ≡ l.fn.out.items ++ quoted l.text
