use Rattle.std.proofs.Common.{sym, ◌∙◌, arith}
use Rattle.set_patches.proofs.LengthLemmas.{other_items, other_members}
use Rattle.set_patches.proofs.values.+same.Goals as goal

pub same_items_of-returns-then-len : goal.same_items_of-returns-then-len
same_items_of-returns-then-len t c =
    other_items c.args.items.now.items c.args.others.now.items
    (λ same. c.if-len.true (omega (arith, c.len.ensures, c.len-2.ensures, c.args.items.now.ok, c.args.others.now.ok)))

pub same_members_of-returns-then-len : goal.same_members_of-returns-then-len
same_members_of-returns-then-len t c =
    other_members c.args.members.now.entries c.args.others.now.entries (λ same. c.if-len.true (c.len.ensures.len ∙ same ∙ sym c.len-2.ensures.len))
