use Rattle.std.proofs.Common.{◌≡◌, ◌++◌, ◌∷◌, [], ◌∙◌, ℕ, List, ap, sym, arith}
use Rattle.std.proofs.lemmas.List.{append_assoc, append-nil}
use Rattle.std.specs.BTreeMap.{values}
use Rattle.std.specs.Map.{values_of}
use Rattle.told_folder.specs.declared.message.Message.{Message}
use Rattle.told_folder.proofs.PartLemmas.{nothing_left}
use Rattle.told_folder.proofs.messages.Messages.into_vec.Goals as goal

pub loop-uid-init : goal.loop-uid-init
loop-uid-init c = record { all = c.self.view_is; room = c.self.invariant.room }

pub loop-uid-smaller : goal.loop-uid-smaller
loop-uid-smaller c = omega (arith, c.in-Some.ensures.len)

pub loop-uid-preserved : goal.loop-uid-preserved
loop-uid-preserved c = record {
  all = ap (λ (zs : List Message). zs ++ values c.pop_first.new.self) c.in-Ok.ensures.items
      ∙ append_assoc c.loop-uid.all.items (c.in-Some.message ∷ []) (values c.pop_first.new.self)
      ∙ ap (λ (es : List (ℕ × Message)). c.loop-uid.all.items ++ values_of es) (sym c.in-Some.ensures.removal)
      ∙ c.loop-uid.invariant.all;
  room = omega (arith, c.in-Some.ensures.len, c.in-Ok.ensures.len, c.push.ensures.capacity, c.loop-uid.invariant.room);
}

pub unreachable-requires : goal.unreachable-requires
unreachable-requires c = omega (arith, c.in-Some.ensures.len, c.in_default-push.ensures.full, c.loop-uid.invariant.room)

pub returns : goal.returns
returns c =
    let none : values c.loop-uid.after ≡ [] = nothing_left c.loop-uid.after.entries c.in_default.ensures.variant.1 in
    sym (append-nil c.loop-uid.all.items) ∙ ap (λ (zs : List Message). c.loop-uid.all.items ++ zs) (sym none) ∙ c.loop-uid.invariant.all
