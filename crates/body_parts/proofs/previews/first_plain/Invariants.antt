use Rattle.std.proofs.Common.{ℕ, List, drop}
use Rattle.body_parts.specs.Previews.{IsPreview}
use Rattle.body_parts.specs.reading.LeafLists.{parts_of, parts_at}
use Rattle.body_parts.proofs.previews.first_plain.Given as goal

-- none of the leaves so far is a plain text
abbrev pub invariant-loop-number : goal.invariant-loop-number
invariant-loop-number l =
    (b t : List ℕ) → IsPreview b (parts_at (parts_of l.leaves) (drop l.number-index l.numbers)) t → IsPreview b (parts_at (parts_of l.leaves) l.numbers) t
