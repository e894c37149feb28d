-- Sets of UIDs (RFC 9051 section 9):
--
--   set   = range *("," range)
--   range = nz [":" nz]
use Rattle.std.specs.Prelude.{◌≡◌, ◌⊎◌, ◌↔◌, ℕ, ◌≤◌, Bool, true, false, nat_le, if◌then◌else◌, List, [], ◌∷◌, ◌++◌, codes}
use Rattle.std.specs.List.{Any}
use Rattle.imap_types.specs.declared.uid_set.UidRange.{UidRange}
use Rattle.imap_types.specs.Texts.{Then, IsWord, IsCrlf}
use Rattle.imap_types.specs.Numbers.{IsNonZero}

-- ---- what a set holds

abbrev pub InRange : UidRange → ℕ → Type 0
InRange r uid = (r.first ≤ uid) × (uid ≤ r.last)

-- no UID but this one
unfoldable pub IsWithin : ℕ → UidRange → Type 0
IsWithin uid r = (other : ℕ) → InRange r other → other ≡ uid

abbrev pub Holds : List UidRange → ℕ → Type 0
Holds rs uid = Any (λ r. InRange r uid) rs

unfoldable pub HoldsOnly : List UidRange → ℕ → Type 0
HoldsOnly rs uid = (other : ℕ) → Holds rs other ↔ (other ≡ uid)

-- ---- how it is spelled

-- the smaller number first
abbrev pub range_of : ℕ → ℕ → UidRange
range_of m n = if nat_le m n then record { first = m; last = n } else record { first = n; last = m }

abbrev pub IsRange : UidRange → List ℕ → Type 0
IsRange r t =
    ((n : ℕ) × IsNonZero n t × (r ≡ range_of n n))
    ⊎ ((m n : ℕ) × (front back : List ℕ) × (t ≡ front ++ 58 ∷ back) × IsNonZero m front × IsNonZero n back × (r ≡ range_of m n))

abbrev pub IsSet : List UidRange → List ℕ → Type 0
IsSet [] t = ⊥
IsSet (r ∷ []) t = IsRange r t
IsSet (r ∷ rs) t = (front back : List ℕ) × (t ≡ front ++ 44 ∷ back) × IsRange r front × IsSet rs back

-- ["(EARLIER)" SP] set CRLF (RFC 7162 section 3.2.10)
abbrev pub IsSetLine : List UidRange → List ℕ → Type 0
IsSetLine rs t = Then (IsSet rs) IsCrlf t

abbrev pub IsVanished : Bool → List UidRange → List ℕ → Type 0
IsVanished true rs t = Then (IsWord (codes "(earlier) ")) (IsSetLine rs) t
IsVanished false rs t = IsSetLine rs t
