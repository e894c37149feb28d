-- The limits of the small store.
use Rattle.std.specs.Prelude.{ℕ, ◌+◌, ◌-◌, ◌^◌, nat_le, ◌||◌, Bool, List, length, fold}
use Rattle.honest_store.specs.StoreMail.{StoreFolder}

-- the octets that a name may have, and the flags of a message together
abbrev pub text_limit : ℕ
text_limit = 1000000

abbrev pub total_length : List (List ℕ) → ℕ
total_length ts = fold (λ n t. n + length t) 0 ts

-- the folder's mod-sequences are at their end
abbrev pub is_last_change : StoreFolder → Bool
is_last_change f = nat_le (2 ^ 63 - 1) f.highest

-- so are they, or its UIDs, of which the UIDNEXT can be told up to 2^32 - 1
abbrev pub is_last_message : StoreFolder → Bool
is_last_message f = is_last_change f || nat_le (2 ^ 32 - 1) f.uid_next
