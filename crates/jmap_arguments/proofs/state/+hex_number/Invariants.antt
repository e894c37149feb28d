use Rattle.std.proofs.Common.{length}
use Rattle.jmap_arguments.proofs.state.+hex_number.Given as goal

-- proposed from what the function passes where it calls itself
abbrev pub decreases-hex_number : goal.decreases-hex_number
decreases-hex_number l = length l.digits.now
