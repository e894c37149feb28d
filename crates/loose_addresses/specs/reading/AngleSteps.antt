-- How the code finds the last address in angle brackets: from the end of a text to its front.
use Rattle.std.specs.Prelude.{◌≡◌, ℕ, Bool, true, false, ◌&&◌, ◌==◌, if◌then◌else◌, List, [], ◌∷◌, drop}
use Rattle.loose_addresses.specs.declared.angles.Scan.{Scan}
use Rattle.loose_addresses.specs.Angles.{NoAngle}

-- whether the first angle bracket of the text is ">"
abbrev pub closes : List ℕ → Bool
closes [] = false
closes (c ∷ t) = if c == 62 then true else if c == 60 then false else closes t

-- whether an "@" stands before its first angle bracket
abbrev pub has_at : List ℕ → Bool
has_at [] = false
has_at (c ∷ t) = if c == 62 then false else if c == 60 then false else if c == 64 then true else has_at t

-- the octet opens angle brackets that the text closes, behind an "@"
abbrev pub opens : ℕ → List ℕ → Bool
opens c t = c == 60 && (closes t && has_at t)

-- the last angle brackets with an "@" open at this octet
pub record OpensAt (n : ℕ) (t : List ℕ) : Type 0 where
  pub behind : List ℕ
  pub at : drop n t ≡ 60 ∷ behind
  pub opens : opens 60 behind ≡ true
  pub last : NoAngle behind

pub record Tells (scan : Scan) (t : List ℕ) : Type 0 where
  pub closes : scan.closes ≡ closes t
  pub at : scan.at ≡ has_at t
