use Rattle.std.proofs.Common.{rules, arith}
use Rattle.std.proofs.lemmas.Bool.Decides.{nat_tests}
use Rattle.json.specs.Print.{escape_byte}
use Rattle.result_references.proofs.counted_octets.escaped_octets.Goals as goal

pub returns-then-letter-gt0 : goal.returns-then-letter-gt0
unfolding escape_byte
returns-then-letter-gt0 c = first_of (search rules, grind (arith, nat_tests))

pub returns-then-octet-lt32 : goal.returns-then-octet-lt32
unfolding escape_byte
returns-then-octet-lt32 c = first_of (search rules, grind (arith, nat_tests))

pub returns-else-octet-lt32 : goal.returns-else-octet-lt32
unfolding escape_byte
returns-else-octet-lt32 c = first_of (search rules, grind (arith, nat_tests))
