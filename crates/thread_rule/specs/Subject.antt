-- The parts of a subject (RFC 5256 section 5), with the names of its grammar.
use Rattle.std.specs.Prelude.{◌≡◌, ℕ, Bool, true, not, ◌&&◌, ◌==◌, List, [], ◌∷◌, ◌++◌, codes, ◌⊎◌}
use Rattle.text_words.specs.Cuts.{Each}
use Rattle.text_words.specs.Octets.{is_blank, SameText}

-- BLOBCHAR: any octet but 0, "[" and "]"
abbrev pub is_blob_char : ℕ → Bool
is_blob_char c = not (c == 0) && not (c == 91) && not (c == 93)

-- WSP: a space or a tab
pub record IsWsp (t : List ℕ) : Type 0 where
  pub octet : ℕ
  pub whole : t ≡ octet ∷ []
  pub blank : is_blank octet ≡ true

-- subj-blob = "[" *BLOBCHAR "]" *WSP
pub record IsBlob (t : List ℕ) : Type 0 where
  pub inside : List ℕ
  pub gap : List ℕ
  pub whole : t ≡ 91 ∷ (inside ++ 93 ∷ gap)
  pub chars : Each is_blob_char inside
  pub blank : Each is_blank gap

-- "re" / ("fw" ["d"])
pub data IsReplyWord (t : List ℕ) : Type 0 where
  Re : SameText t (codes "re") → IsReplyWord t
  Fw : SameText t (codes "fw") → IsReplyWord t
  Fwd : SameText t (codes "fwd") → IsReplyWord t

-- subj-refwd = ("re" / ("fw" ["d"])) *WSP [subj-blob] ":"
pub record IsReplyMark (t : List ℕ) : Type 0 where
  pub word : List ℕ
  pub gap : List ℕ
  pub blob : List ℕ
  pub whole : t ≡ word ++ (gap ++ (blob ++ 58 ∷ []))
  pub reply : IsReplyWord word
  pub blank : Each is_blank gap
  pub optional : (blob ≡ []) ⊎ IsBlob blob

-- *subj-blob subj-refwd
pub data IsMarkBehindBlobs : List ℕ → Type 0 where
  Mark : (mark : List ℕ) → IsReplyMark mark → IsMarkBehindBlobs mark
  BehindBlob : (blob more : List ℕ) → IsBlob blob → IsMarkBehindBlobs more → IsMarkBehindBlobs (blob ++ more)

-- subj-leader = (*subj-blob subj-refwd) / WSP
pub data IsLeader (t : List ℕ) : Type 0 where
  Marked : IsMarkBehindBlobs t → IsLeader t
  BlankAtFront : IsWsp t → IsLeader t

-- subj-trailer = "(fwd)" / WSP
pub data IsTrailer (t : List ℕ) : Type 0 where
  Forwarded : SameText t (codes "(fwd)") → IsTrailer t
  BlankAtEnd : IsWsp t → IsTrailer t

-- subj-fwd-hdr = "[fwd:"
abbrev pub IsForwardHeader : List ℕ → Type 0
IsForwardHeader t = SameText t (codes "[fwd:")

-- subj-fwd-trl = "]"
abbrev pub IsForwardTrailer : List ℕ → Type 0
IsForwardTrailer t = SameText t (codes "]")
