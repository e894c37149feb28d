use Rattle.std.proofs.Common.{◌≡◌, ◌++◌, drop, false}
use Rattle.header_tokens.specs.Words.{unescaped}
use Rattle.header_tokens.proofs.words.unescaped.Given as goal

abbrev pub invariant-loop-octet : goal.invariant-loop-octet
invariant-loop-octet l = l.kept.items ++ unescaped l.escaped (drop l.octet-index l.text) ≡ unescaped false l.text
