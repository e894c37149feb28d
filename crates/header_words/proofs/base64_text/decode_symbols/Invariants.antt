use Rattle.std.proofs.Common.{◌≡◌, ◌++◌, length}
use Rattle.header_words.specs.Base64.{spelled_octets}
use Rattle.header_words.proofs.base64_text.decode_symbols.Given as goal

abbrev pub invariant-loop-rest : goal.invariant-loop-rest
invariant-loop-rest l = l.octets.items ++ spelled_octets l.rest ≡ spelled_octets l.symbols

abbrev pub decreases-loop-rest : goal.decreases-loop-rest
decreases-loop-rest l = length l.rest
