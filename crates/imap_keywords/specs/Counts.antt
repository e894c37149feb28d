-- A count in braces that stands at the end of a text. One above the limit of a literal is one more than the limit.
use Rattle.std.specs.Prelude.{ℕ, Bool, true, ◌+◌, ◌-◌, ◌*◌, ◌&&◌, nat_lt, nat_le, ◌==◌, if◌then◌else◌, List, [], ◌∷◌}
use Rattle.imap_keywords.specs.declared.count.Pending.{Pending}
use Rattle.imap_keywords.specs.declared.count.Pending.TheVariants as pending
use Rattle.imap_types.specs.Octets.{is_digit}

abbrev pub capped : ℕ → ℕ
capped v = if nat_le v 50000000 then v else 50000001

abbrev pub pend_on : Pending → ℕ → Pending
pend_on pending.Nothing c = pending.Nothing
pend_on (pending.Open v n) c =
    if is_digit c then (if nat_lt n 8 then pending.Open (capped (10 * v + (c - 48))) (n + 1) else pending.Nothing)
    else if c == 125 && nat_lt 0 n then pending.Closed v else pending.Nothing
pend_on (pending.Closed v) c = pending.Nothing

abbrev pub pend : Pending → ℕ → Pending
pend s c = if c == 123 then pending.Open 0 0 else pend_on s c

-- what stands at the end of a text
abbrev pub pends : Pending → List ℕ → Pending
pends s [] = s
pends s (c ∷ t) = pends (pend s c) t

-- what its registers keep
abbrev pub PendFits : Pending → Bool
PendFits (pending.Open v n) = nat_le v 50000001 && nat_le n 8
PendFits (pending.Closed v) = nat_le v 50000001
PendFits pending.Nothing = true
