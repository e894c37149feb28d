-- Texts in which the octets of literals show: which octets they have, and how many stand outside.
use Rattle.std.proofs.Common.{◌≡◌, ℕ, ◌+◌, ◌<◌, ◌≤◌, true, List, [], ◌∷◌, ◌++◌, length, map, cond, refl, ap, ◌∙◌, arith, All}
use Rattle.std.specs.Prelude.{nat_lt}
use Rattle.std.proofs.lemmas.Bool.{cond-true}
use Rattle.std.proofs.lemmas.List.{map-append, length-append}
use Rattle.std.proofs.lemmas.List.Elements.{All-head, All-tail}
use Rattle.imap_types.specs.Octets.{is_inside}
use Rattle.imap_types.specs.Texts.{Each, plain_of, plain_octets, outside, limit}
use Rattle.imap_types.specs.declared.response.Response.{Response}
use Rattle.imap_types.specs.Spells.{Spells, IsSpelling}
use Rattle.imap_values.proofs.Cuts.{small, plain_small}
use Rattle.store_responses.specs.ResponseTexts.{text_of_response}
use Rattle.store_responses.specs.Sendable.{literal_octets}

-- the octets of a literal as they show
abbrev pub marked : List ℕ → List ℕ
marked s = map (λ c. c + 256) s

-- m has the octets t, and n of them show as a literal's
pub record Marks (t m : List ℕ) (n : ℕ) : Type 0 where
  pub octets : plain_octets m ≡ t
  pub count : outside m + n ≡ length t

outside_append : (x y : List ℕ) → outside (x ++ y) ≡ outside x + outside y
outside_append [] y = omega arith
outside_append (c ∷ x) y = omega (arith, outside_append x y)

-- one after the other
pub marks_join : (t m : List ℕ) (n : ℕ) (u w : List ℕ) (k : ℕ) → Marks t m n → Marks u w k → Marks (t ++ u) (m ++ w) (n + k)
marks_join t m n u w k h g = record {
  octets = map-append plain_of m w ∙ ap (λ (x : List ℕ). x ++ plain_octets w) h.octets ∙ ap (λ (x : List ℕ). t ++ x) g.octets;
  count = omega (arith, outside_append m w, h.count, g.count, length-append t u);
}

outside_small : (t : List ℕ) → Each small t → outside t ≡ length t
outside_small [] h = refl
outside_small (c ∷ t) h = let e : ◌≡◌ {A = ℕ} (cond (nat_lt c 256) 1 0) 1 = cond-true (nat_lt c 256) 1 0 h.0 in omega (arith, e, outside_small t h.1)

-- a text without literals
pub marks_small : (t : List ℕ) → Each small t → Marks t t 0
marks_small t h = record { octets = plain_small t h; count = omega (arith, outside_small t h) }

-- a front without literals
pub marks_front : (t u w : List ℕ) (k : ℕ) → Each small t → Marks u w k → Marks (t ++ u) (t ++ w) k
marks_front t u w k h g = let j = marks_join t t 0 u w k (marks_small t h) g in record { octets = j.octets; count = omega (arith, j.count) }

-- an end without literals
pub marks_back : (t m u : List ℕ) (k : ℕ) → Marks t m k → Each small u → Marks (t ++ u) (m ++ u) k
marks_back t m u k g h = let j = marks_join t m k u u 0 g (marks_small u h) in record { octets = j.octets; count = omega (arith, j.count) }

-- ---- literals

plain_marked_octet : (c : ℕ) → plain_of (c + 256) ≡ c
plain_marked_octet c = grind arith

pub plain_marked : (s : List ℕ) → plain_octets (marked s) ≡ s
plain_marked [] = refl
plain_marked (c ∷ s) = let e = plain_marked_octet c in let r = plain_marked s in cc

outside_octet : (c : ℕ) → ◌≡◌ {A = ℕ} (cond (nat_lt (c + 256) 256) 1 0) 0
outside_octet c = grind arith

outside_marked : (s : List ℕ) → outside (marked s) ≡ 0
outside_marked [] = refl
outside_marked (c ∷ s) = omega (arith, outside_octet c, outside_marked s)

pub marks_literal : (s : List ℕ) → Marks s (marked s) (length s)
marks_literal s = record { octets = plain_marked s; count = omega (arith, outside_marked s) }

inside_octet : (c : ℕ) → c < 256 → is_inside (c + 256) ≡ true
inside_octet c lt = grind arith

pub inside_marked : (s : List ℕ) → All (λ c. c < 256) s → Each is_inside (marked s)
inside_marked [] h = tt
inside_marked (c ∷ s) h = (inside_octet c (All-head (λ d. d < 256) c s h), inside_marked s (All-tail (λ d. d < 256) c s h))

-- ---- spellings

-- a text that spells a response, and has the octets of its text
pub spelling_of : (r : Response) (m : List ℕ) → Spells r m → Marks (text_of_response r) m (literal_octets r) → length (text_of_response r) ≤ literal_octets r + limit
    → IsSpelling r (text_of_response r)
spelling_of r m spells marks within = record { text = m; spells = spells; octets = marks.octets; within = omega (arith, marks.count, within) }
