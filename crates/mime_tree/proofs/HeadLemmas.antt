-- Where headers end.
use Rattle.std.proofs.Common.{ℕ, ◌-◌, ◌≤◌, List, length, drop, arith}
use Rattle.std.specs.Prelude.{slice_range}
use Rattle.std.proofs.lemmas.List.{length-take}
use Rattle.mail_header.specs.Fields.{NameAndRaw, IsHeader}

-- from s up to e there are at most e - s octets
pub range_len : (b : List ℕ) (s e : ℕ) → length (slice_range b s e) ≤ e - s
range_len b s e = omega (arith, length-take (e - s) (drop s b))

-- a header is no longer than the octets that it stands in
pub header_within : (fields : List NameAndRaw) (n : ℕ) (t : List ℕ) → IsHeader fields n t → n ≤ length t
header_within fields n t h = omega (arith, h.end_is)
