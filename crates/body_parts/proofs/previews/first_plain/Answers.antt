use Rattle.std.proofs.Common.{◌≡◌, ◌∙◌, true, false, ℕ, List, [], drop, subst, sym, refl}
use Rattle.std.proofs.Math.ListN.{drop_of_length-le}
use Rattle.mime_tree.specs.Roles.{is_plain_part}
use Rattle.body_parts.specs.Previews.{IsPreview}
use Rattle.body_parts.specs.reading.LeafLists.{parts_of, parts_at}
use Rattle.body_parts.proofs.ValueLemmas.{no_leaf_here, no_plain_here, plain_here}
use Rattle.body_parts.proofs.previews.first_plain.Goals as goal
use Rattle.body_parts.proofs.previews.first_plain.Goals.{in-Some+else-is_plain, in-None}

pub returns-then-is_plain : goal.returns-then-is_plain
returns-then-is_plain c =
    let ls = parts_of c.args.leaves.now in
    let p = c.in-Some.part.now in
    let plain : is_plain_part p ≡ true = sym c.is_plain.ensures ∙ c.if-is_plain.true in
    record {
      number = _;
      there = c.in-Some.ensures;
      shown = λ b t w. c.loop-number.invariant b t (plain_here b ls c.args.numbers.now c.loop-number.number-index p t c.loop-number-test.true c.in-Some.ensures plain w);
    }

pub loop-number-preserved : goal.loop-number-preserved
loop-number-preserved c b t h =
    let ls = parts_of c.args.leaves.now in
    let i = c.loop-number.number-index in
    elim c.match-leaf_at.branch [
      | in-Some+else-is_plain w ↦
          let plain : is_plain_part w.in-Some.part.now ≡ false = sym w.is_plain.ensures ∙ w.if-is_plain.false in
          c.loop-number.invariant b t (no_plain_here b ls c.args.numbers.now i w.in-Some.part.now t c.loop-number-test.true w.in-Some.ensures plain h)
      | in-None w ↦ c.loop-number.invariant b t (no_leaf_here b ls c.args.numbers.now i t c.loop-number-test.true w.in-None.ensures h)
    ]

pub returns : goal.returns
returns c = λ b.
    let ls = parts_of c.args.leaves.now in
    let none : drop c.loop-number.number-index c.args.numbers.now ≡ [] = drop_of_length-le c.args.numbers.now c.loop-number-test.false in
    let P : List ℕ → Type 0 = λ ns. IsPreview b (parts_at ls ns) [] in
    c.loop-number.invariant b [] (subst P (sym none) refl)
