use Rattle.std.proofs.Common.{◌≡◌, ◌∙◌, ◌-◌, ◌≤◌, List, ap, sym, take, length, vec_len, arith}
use Rattle.told_folder.specs.declared.message.Message.{Message}
use Rattle.told_folder.proofs.PartLemmas.{take_take, take_whole, short_take}
use Rattle.told_folder.proofs.messages.move_from.Goals as goal

pub loop-before-preserved : goal.loop-before-preserved
loop-before-preserved c = record {
  parted = c.in_ok-move_last.ensures.parted;
  same = c.in_ok-move_last.ensures.same ∙ c.loop-before.invariant.same;
  moved = ap (λ (zs : List Message). take c.args.at zs) c.in_ok-move_last.ensures.moved
      ∙ take_take c.args.at (vec_len c.loop-before.before - 1) c.loop-before.before.items (omega (arith, c.len.ensures, c.loop-before-test.true)) ∙ c.loop-before.invariant.moved;
}

pub loop-before-smaller : goal.loop-before-smaller
loop-before-smaller c =
    let fewer : length c.move_last.new.before.items ≡ length (take (vec_len c.loop-before.before - 1) c.loop-before.before.items) = ap length c.in_ok-move_last.ensures.moved in
    omega (arith, fewer, short_take (vec_len c.loop-before.before - 1) c.loop-before.before.items, c.move_last.new.before.ok, c.len.ensures, c.loop-before-test.true)

pub returns-clause-moved : goal.returns-clause-moved
returns-clause-moved c =
    let end : length c.loop-before.before.items ≤ c.args.at = omega (arith, c.len.ensures, c.loop-before-test.false, c.loop-before.before.ok) in
    sym (take_whole c.args.at c.loop-before.before.items end) ∙ c.loop-before.invariant.moved
