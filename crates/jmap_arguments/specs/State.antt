-- The text of a state: the epoch in 16 hexadecimal digits, and the place in decimal.
use Rattle.std.specs.Prelude.{ℕ, zero, suc, ◌+◌, ◌/◌, ◌%◌, List, [], ◌∷◌, ◌++◌, nat_lt, if◌then◌else◌, decimal}
use Rattle.jmap_arguments.specs.declared.state.State.{State}
use Rattle.jmap_arguments.specs.declared.state.TheConstants.{EPOCH_DIGITS}

-- the lower-case digit of a number below 16
abbrev pub hex_digit : ℕ → ℕ
hex_digit n = if nat_lt n 10 then 48 + n else 87 + n

-- a number's last digits, n of them
unfoldable pub hex_text : ℕ → ℕ → List ℕ
hex_text zero n = []
hex_text (suc width) n = hex_text width (n / 16) ++ hex_digit (n % 16) ∷ []

abbrev pub state_text : State → List ℕ
state_text state = hex_text EPOCH_DIGITS state.epoch ++ 45 ∷ decimal state.place
