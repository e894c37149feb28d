-- Codes of status lines (RFC 9051 section 7.1: resp-text-code; RFC 4315 section 3; RFC 7162 sections 3.1.2 and 3.2.11;
-- RFC 5530 section 3):
--
--   "[" ("UIDVALIDITY" SP nz / "UIDNEXT" SP nz / "HIGHESTMODSEQ" SP long / "NOMODSEQ" / "CLOSED"
--       / "APPENDUID" SP nz SP nz / "COPYUID" SP nz SP set SP set / "OVERQUOTA" / other) "]"
--
-- A code stands directly after the space after the status, and goes to the first `]`.
use Rattle.std.specs.Prelude.{◌≡◌, ℕ, Bool, not, ◌==◌, List, [], ◌∷◌, ◌++◌, codes}
use Rattle.imap_types.specs.declared.code.Code.{Code}
use Rattle.imap_types.specs.declared.code.Code.TheVariants.{Absent, UidValidity, UidNext, HighestModSeq, NoModSeq, Closed, AppendUid, CopyUid, OverQuota}
use Rattle.imap_types.specs.declared.code.Code.TheVariants.{Other}
use Rattle.imap_types.specs.Texts.{Each, IsWord}
use Rattle.imap_types.specs.Numbers.{IsNonZero, IsLong}
use Rattle.imap_types.specs.UidSets.{IsSet}

-- a text of A and one of B, with a space between
pub record Parted (A B : List ℕ → Type 0) (t : List ℕ) : Type 0 where
  pub front : List ℕ
  pub back : List ℕ
  pub whole : t ≡ front ++ 32 ∷ back
  pub first : A front
  pub second : B back

-- the text between the brackets is one of the codes that are known
abbrev pub IsKnown : Code → List ℕ → Type 0
IsKnown (UidValidity n) t = Parted (IsWord (codes "uidvalidity")) (IsNonZero n) t
IsKnown (UidNext n) t = Parted (IsWord (codes "uidnext")) (IsNonZero n) t
IsKnown (HighestModSeq n) t = Parted (IsWord (codes "highestmodseq")) (IsLong n) t
IsKnown NoModSeq t = IsWord (codes "nomodseq") t
IsKnown Closed t = IsWord (codes "closed") t
IsKnown (AppendUid validity uid) t = Parted (IsWord (codes "appenduid")) (Parted (IsNonZero validity) (IsNonZero uid)) t
IsKnown (CopyUid validity from to) t = Parted (IsWord (codes "copyuid")) (Parted (IsNonZero validity) (Parted (IsSet from.ranges) (IsSet to.ranges))) t
IsKnown OverQuota t = IsWord (codes "overquota") t
IsKnown _ t = ⊥

abbrev pub in_brackets : ℕ → Bool
in_brackets c = not (c == 93)

-- a space, `[`, a text of A without `]`, and `]`
pub record Bracketed (A : List ℕ → Type 0) (t : List ℕ) : Type 0 where
  pub inner : List ℕ
  pub behind : List ℕ
  pub whole : t ≡ 32 ∷ 91 ∷ inner ++ 93 ∷ behind
  pub each : Each in_brackets inner
  pub says : A inner

-- what follows a status has this code
abbrev pub HasCode : Code → List ℕ → Type 0
HasCode Absent t = (inner behind : List ℕ) → t ≡ 32 ∷ 91 ∷ inner ++ 93 ∷ behind → ⊥
HasCode Other t = Bracketed (λ inner. (c : Code) → IsKnown c inner → ⊥) t
HasCode c t = Bracketed (IsKnown c) t
