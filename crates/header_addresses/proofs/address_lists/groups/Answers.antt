use Rattle.std.proofs.Common.{◌≡◌, List, [], ◌++◌, None, drop, ◌+◌, refl, sym, ap, ◌∙◌, subst, arith}
use Rattle.std.specs.List.{AllZip}
use Rattle.std.proofs.lemmas.List.{drop_more, drop_all}
use Rattle.std.proofs.lemmas.Result.{IfOk-weaker}
use Rattle.header_addresses.specs.declared.elements.Element.{Element as Code}
use Rattle.header_addresses.specs.AddressLists.{Grouped}
use Rattle.header_addresses.specs.Names.{NoName, IsGroup}
use Rattle.header_addresses.specs.reading.ElementReading.{group_closed, grouped_from}
use Rattle.header_addresses.specs.reading.ElementView.{elements_view}
use Rattle.header_addresses.specs.reading.GroupBuilding.{Builds}
use Rattle.header_addresses.proofs.GroupLemmas.{closes, no_members, no_groups}
use Rattle.header_addresses.proofs.address_lists.groups.Goals as goal

pub loop-element-init : goal.loop-element-init
loop-element-init c = record {
  done = [];
  phrase = None;
  ms = [];
  has = record { groups = no_groups c.new.result.items c.new.ensures.items; name = NoName; members = no_members c.new-2.result.items c.new-2.ensures.items };
  all_is = refl;
}

pub loop-element-preserved : goal.loop-element-preserved
loop-element-preserved c =
    let es = c.args.elements.now in
    let i = c.loop-element.element-index in
    let all = grouped_from None [] (elements_view es) in
    c.in_ok-builder.ensures (elements_view (drop (i + 1) es)) all
    (subst (λ (u : List Code). Builds c.loop-element.builder (elements_view u) all) (drop_more es i _ c.loop-element-test.true) c.loop-element.invariant)

pub returns : goal.returns
returns c =
    let es = c.args.elements.now in
    let i = c.loop-element.element-index in
    let b = c.loop-element.invariant in
    let all = grouped_from None [] (elements_view es) in
    let end : b.done ++ group_closed b.phrase b.ms ≡ all = ap (λ (u : List Code). b.done ++ grouped_from b.phrase b.ms (elements_view u)) (sym (drop_all i es (omega arith)))
    ∙ b.all_is in
    IfOk-weaker c.close.result _ _ (λ v h. subst (λ (u : List Grouped). AllZip IsGroup u v.items) end
    (closes c.loop-element.builder b.done b.phrase b.ms v.items b.has h)) c.close.ensures
