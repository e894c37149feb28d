-- Parts lie after one another.
use Rattle.std.proofs.Common.{◌≡◌, ℕ, suc, ◌+◌, ◌<◌, ◌≤◌, Bool, true, false, List, [], ◌∷◌, ◌++◌, length, cond, refl, ap, ◌∙◌, arith, eqb, Some}
use Rattle.std.specs.Prelude.{slice_range}
use Rattle.mime_tree.specs.declared.split.Piece.{Piece}
use Rattle.mime_tree.specs.Delimiters.{size, onto, lines, IsDelimiter}
use Rattle.mime_tree.specs.Splits.{before, end_of, AreParts, IsSplit, AreBehind}
use Rattle.mime_tree.proofs.LineLemmas.{without_end_within}
use Rattle.mime_tree.proofs.HeadLemmas.{range_len}

size-append : (a b : List (List ℕ)) → size (a ++ b) ≡ size a + size b
size-append [] b = omega arith
size-append (l ∷ a) b = omega (arith, size-append a b)

size-onto : (c : ℕ) (ls : List (List ℕ)) → size (onto c ls) ≡ suc (size ls)
size-onto c [] = omega arith
size-onto c (l ∷ ls) = omega arith

size-lines : (b : List ℕ) → size (lines b) ≡ length b
unfolding lines
size-lines [] = refl
size-lines (c ∷ t) = by (eqb c 10) (size-lines t)
  where
    by : (q : Bool) → size (lines t) ≡ length t → size (cond q ((10 ∷ []) ∷ lines t) (onto c (lines t))) ≡ suc (length t)
    by true h = omega arith
    by false h = omega (arith, size-onto c (lines t))

before_within : (b : List ℕ) (start e : ℕ) → start ≤ e → (start ≤ before b start e) × (before b start e ≤ e)
unfolding before
before_within b start e le =
    let w = without_end_within (slice_range b start e) in
    let r = range_len b start e in
    (omega arith, omega arith)

opens_some : (y l : List ℕ) → IsDelimiter y l → 0 < length l
opens_some y [] d = let w = d.whole in absurd cc
opens_some y (c ∷ l) d = omega arith

behind_lower : (low at : ℕ) (ps : List Piece) (n : ℕ) → low ≤ at → AreBehind at ps n → AreBehind low ps n
behind_lower low at [] n le h = omega arith
behind_lower low at (p ∷ ps) n le h = (omega (arith, h.0), h.1, h.2)

end_within : (b : List ℕ) (start e : ℕ) (rest : List (List ℕ)) → start ≤ e → (start ≤ end_of b start e rest) × (end_of b start e rest ≤ e)
end_within b start e [] le = (omega arith, omega arith)
end_within b start e (l ∷ ls) le = before_within b start e le

parts_behind : (b y : List ℕ) (ps : List Piece) (at n : ℕ) (t : List (List ℕ)) → AreParts b y ps at t → at + size t ≤ n → AreBehind at ps n
parts_behind b y [] at n t h le = omega arith
parts_behind b y (p ∷ ps) at n t h le =
    let e = end_within b (at + length h.line) (at + length h.line + size h.part.inner) h.part.rest (omega arith) in
    let s = opens_some y h.line h.delimiter in
    let total : size t ≡ length h.line + (size h.part.inner + size h.part.rest) = ap size h.whole ∙ ap (λ (u : List (List ℕ)). length h.line + size u) h.part.whole
    ∙ ap (λ (k : ℕ). length h.line + k) (size-append h.part.inner h.part.rest) in
    let start_is = h.part.start_is in
    let end_is = h.part.end_is in
    let tail = parts_behind b y ps (at + length h.line + size h.part.inner) n h.part.rest h.part.behind (omega arith) in
    (omega (arith, start_is, s), omega (arith, start_is, end_is, e.0), behind_lower p.end _ ps n (omega (arith, end_is, e.1)) tail)

-- the pieces that octets are split into lie one after another, up to the end of the octets
pub split_behind : (b y : List ℕ) (ps : List Piece) → IsSplit b y (Some ps) → AreBehind 0 ps (length b)
split_behind b y [] h = omega arith
split_behind b y (p ∷ ps) h =
    let total : size (lines b) ≡ size h.preamble + size h.rest = ap size h.whole ∙ size-append h.preamble h.rest in
    behind_lower 0 (0 + size h.preamble) (p ∷ ps) (length b) (omega arith)
    (parts_behind b y (p ∷ ps) (0 + size h.preamble) (length b) h.rest h.follows (omega (arith, total, size-lines b)))
