use Rattle.std.proofs.Common.{Bool, List, Option, Bor, ℕ, ◌++◌, sym, subst}
use Rattle.std.specs.Prelude.{IfSome}
use Rattle.header_addresses.specs.declared.address.Address.{Address}
use Rattle.header_tokens.specs.reading.ClosingCounts.{TellClosings}
use Rattle.header_tokens.proofs.ClosingLemmas.{tell_all}
use Rattle.loose_addresses.specs.LooseLists.{AreLoose}
use Rattle.loose_addresses.proofs.ElementLemmas.{LooseSoFar, so_far_more, all_read}
use Rattle.loose_addresses.proofs.forms.addresses_in.Goals as goal

pub loop-rest-init : goal.loop-rest-init
loop-rest-init c = record {
  tell = tell_all c.in_ok-closed.closed.items c.args.text.now c.in_ok-closed.ensures;
  so_far = λ left l. subst (λ (u : List Address). AreLoose (u ++ left) c.args.text.now) (sym c.new-addresses.ensures.items) l;
}

pub loop-rest-preserved : goal.loop-rest-preserved
loop-rest-preserved c =
    let all = c.loop-rest.addresses.items in
    let p = c.in_ok-push_read.ensures in
    let s = subst (λ (r : Option (Bor (List ℕ))). LooseSoFar all r c.args.text.now) c.in-Some.is c.loop-rest.invariant.so_far in
    record {
      tell = subst (λ (u : List Bool). IfSome c.next_element.result.1 (λ (t : Bor (List ℕ)). TellClosings u t.now)) c.as_slice.ensures.value c.next_element.ensures.closings;
      so_far = so_far_more all _ c.args.text.now c.next_element.result.0.now c.in-Some.left c.next_element.result.1 p.0 s c.next_element.ensures.element p.1 p.2;
    }

pub returns : goal.returns
returns c = all_read c.loop-rest.addresses.items c.loop-rest.rest c.args.text.now c.loop-rest.invariant.so_far c.in_default.is
