-- What SELECT tells (RFC 9051 section 6.3.2, RFC 7162 sections 3.1.2, 3.2.5 and 3.2.11).
use Rattle.std.specs.Prelude.{◌≡◌, ◌≢◌, ◌⊎◌, ℕ, ◌<◌, true, false, List, [], ◌∷◌, Option, Some, None, All, IfSome}
use Rattle.std.specs.List.{Any}
use Rattle.imap_types.specs.declared.code.Code.{Code}
use Rattle.imap_types.specs.declared.code.Code.TheVariants as code
use Rattle.imap_types.specs.declared.response.Response.{Response}
use Rattle.imap_types.specs.declared.response.Response.TheVariants as response
use Rattle.imap_types.specs.declared.response.Status.TheVariants as status
use Rattle.honest_store.specs.StoreMail.{StoreFolder}
use Rattle.honest_store.specs.Responses.{IsFetchOf, TellsFlags, IsVanishedOf, IsCoded, ok_code}
use Rattle.honest_store.specs.Sessions.{CutAnswer}

-- all responses are of the folder that is selected now
abbrev pub IsWholeOf : CutAnswer → List Response → Type 0
IsWholeOf a rs = (a.early ≡ []) × (rs ≡ a.late)

-- CLOSED stands before the responses that are of the folder that is selected now
abbrev pub IsPartedBy : CutAnswer → List Response → Type 0
IsPartedBy a rs = (a.late ≡ response.Untagged status.Ok code.Closed ∷ rs) × All (λ r. ok_code r ≢ code.Closed) a.early

-- The responses that are of the folder of this number. Where another was selected CLOSED stands before them; where it was this one it may.
abbrev pub BeginsFolder : ℕ → Option ℕ → CutAnswer → List Response → Type 0
BeginsFolder n None a rs = IsWholeOf a rs
BeginsFolder n (Some old) a rs = IsPartedBy a rs ⊎ ((old ≡ n) × IsWholeOf a rs)

-- a code that speaks of the folder says what is so
abbrev pub IsCodeOf : StoreFolder → Code → Type 0
IsCodeOf f (code.UidValidity v) = v ≡ f.validity
IsCodeOf f (code.UidNext n) = n ≡ f.uid_next
IsCodeOf f (code.HighestModSeq m) = (f.has_modseqs ≡ true) × (m ≡ f.highest)
IsCodeOf f code.NoModSeq = f.has_modseqs ≡ false
IsCodeOf f code.Closed = ⊥
IsCodeOf f _ = Unit {0}

-- the flags that changed and the UIDs that went since the mod-sequence up to which the client knows the folder (RFC 7162 section 3.2.5.1)
pub record TellsChanges (f : StoreFolder) (since : ℕ) (rs : List Response) : Type 0 where
  pub changed : All (λ m. since < m.modseq → Any (IsFetchOf m.uid TellsFlags) rs) f.messages
  pub expunged : All (λ e. since < e.modseq → Any (IsVanishedOf true e.uid) rs) f.expunged

-- `known` are the validity and the mod-sequence by which the client knows the folder.
pub record TellsFolder (f : StoreFolder) (known : Option (ℕ × ℕ)) (rs : List Response) : Type 0 where
  pub true_codes : All (λ r. IsCodeOf f (ok_code r)) rs
  pub validity : Any (IsCoded (code.UidValidity f.validity)) rs
  -- a UIDNEXT of 2^32 can't be told
  pub uid_next : f.uid_next ≢ 4294967296 → Any (IsCoded (code.UidNext f.uid_next)) rs
  pub highest : f.has_modseqs ≡ true → Any (IsCoded (code.HighestModSeq f.highest)) rs
  pub changes : IfSome known (λ k. f.has_modseqs ≡ true → k.0 ≡ f.validity → TellsChanges f k.1 rs)
