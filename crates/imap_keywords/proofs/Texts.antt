-- Texts cut after their first octet.
use Rattle.std.proofs.Common.{◌≡◌, ℕ, ◌+◌, ◌<◌, List, ◌∷◌, length, drop, get_or, add-one}
use Rattle.std.proofs.Math.Seq.{drop-cons}

-- a text with its first octet
pub drop_at : (l : List ℕ) (n : ℕ) → n < length l → drop n l ≡ get_or l n 0 ∷ drop (n + 1) l
drop_at l n h = rw add-one (drop-cons l n 0 h)
