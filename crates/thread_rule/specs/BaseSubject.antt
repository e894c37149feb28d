-- The base subject (RFC 5256 section 2.1): the steps as rewriting rules, each of which removes one piece of the
-- text, and the normal form under them.
use Rattle.std.specs.Prelude.{◌≡◌, ◌≢◌, ℕ, Bool, false, if◌then◌else◌, List, [], ◌∷◌, ◌++◌}
use Rattle.text_words.specs.Cuts.{Stops}
use Rattle.text_words.specs.Octets.{is_blank}
use Rattle.thread_rule.specs.Subject.{IsBlob, IsLeader, IsTrailer, IsForwardHeader, IsForwardTrailer}

abbrev pub begins_blank : List ℕ → Bool
begins_blank [] = false
begins_blank (c ∷ t) = is_blank c

-- what an octet becomes, where t follows it: the last of a run of white space becomes the run's space
abbrev pub spaced_octet : ℕ → List ℕ → List ℕ
spaced_octet c t = if is_blank c then (if begins_blank t then [] else 32 ∷ []) else c ∷ []

-- step 1: tabs are spaces, and runs of spaces one space
abbrev pub spaced : List ℕ → List ℕ
spaced [] = []
spaced (c ∷ t) = spaced_octet c t ++ spaced t

-- s is a piece of the kind Is, and t after it
pub record Drops (Is : List ℕ → Type 0) (s t : List ℕ) : Type 0 where
  pub piece : List ℕ
  pub whole : s ≡ piece ++ t
  pub is : Is piece

-- s is t, and a piece of the kind Is after it
pub record DropsEnd (Is : List ℕ → Type 0) (s t : List ℕ) : Type 0 where
  pub piece : List ℕ
  pub whole : s ≡ t ++ piece
  pub is : Is piece

-- a blob is dropped with all white space after it
pub record DropsBlob (s t : List ℕ) : Type 0 where
  pub drops : Drops IsBlob s t
  pub stops : Stops is_blank t

-- a blob is dropped that isn't the whole text
pub record DropsBlobBeforeText (s t : List ℕ) : Type 0 where
  pub drops : DropsBlob s t
  pub some : t ≢ []

-- the header and the trailer of a forwarded subject are dropped
pub record Unwraps (s t : List ℕ) : Type 0 where
  pub inner : List ℕ
  pub header : Drops IsForwardHeader s inner
  pub trailer : DropsEnd IsForwardTrailer inner t

-- no such piece can be dropped
abbrev pub Lacks : (List ℕ → List ℕ → Type 0) → List ℕ → Type 0
Lacks R s = (t : List ℕ) → R s t → ⊥

-- One rewriting step. A later step is taken only where no earlier one can be: so step 2 comes before all others,
-- step 3 before step 4 (which makes their repetition, step 5), and step 6 last.
pub data Step (s t : List ℕ) : Type 0 where
  Step2 : DropsEnd IsTrailer s t → Step s t
  Step3 : Lacks (DropsEnd IsTrailer) s → Drops IsLeader s t → Step s t
  Step4 : Lacks (DropsEnd IsTrailer) s → Lacks (Drops IsLeader) s → DropsBlobBeforeText s t → Step s t
  Step6 : Lacks (DropsEnd IsTrailer) s → Lacks (Drops IsLeader) s → Lacks DropsBlobBeforeText s → Unwraps s t → Step s t

-- steps lead from s to t
pub data Reaches : List ℕ → List ℕ → Type 0 where
  NoStep : (s : List ℕ) → Reaches s s
  Goes : (s t u : List ℕ) → Step s t → Reaches t u → Reaches s u

-- steps lead from s to t, and from t none
pub record IsNormalFormOf (s t : List ℕ) : Type 0 where
  pub reached : Reaches s t
  pub normal : Lacks Step t

-- the base subject of a text
abbrev pub IsBaseOf : List ℕ → List ℕ → Type 0
IsBaseOf text base = IsNormalFormOf (spaced text) base
