use Rattle.std.proofs.Common.{Vec, Global, List, Some, None, [], sym, subst}
use Rattle.header_words.proofs.ShapeLemmas.{take_none, take_some}
use Rattle.header_addresses.specs.declared.address.Group.{Group}
use Rattle.header_addresses.specs.declared.elements.Element.{Element as Code}
use Rattle.std.specs.List.{AllZip}
use Rattle.header_addresses.specs.Names.{IsGroup}
use Rattle.header_addresses.specs.reading.ElementReading.{grouped_from}
use Rattle.header_addresses.specs.reading.ElementView.{elements_view}
use Rattle.header_addresses.specs.reading.GroupBuilding.{IsList, IsNoList, GroupsIn, NoGroups, Groups}
use Rattle.header_tokens.specs.TokenView.{tokens_view}
use Rattle.header_addresses.proofs.address_lists.groups_in.Goals as goal

pub returns-in-None : goal.returns-in-None
returns-in-None c = NoGroups (take_none {P = IsNoList (tokens_view c.args.tokens.now)} c.in_ok-list_of.field-0 c.in-None.is c.in_ok-list_of.ensures.none)

pub returns-in_ok-groups-in-Some : goal.returns-in_ok-groups-in-Some
returns-in_ok-groups-in-Some c =
    let ts = tokens_view c.args.tokens.now in
    let es = c.in-Some.elements in
    let l = take_some (λ (v : Vec Code Global). IsList (elements_view v.items) ts) c.in_ok-list_of.field-0 es c.in-Some.is c.in_ok-list_of.ensures.some in
    subst (λ (u : List Group). GroupsIn ts (Some u)) (sym c.from_vec.ensures)
    (Groups (elements_view es.items) c.in_ok-groups-in-Some.field-0.items l
    (subst (λ (u : List Code). AllZip IsGroup (grouped_from None []
    (elements_view u)) c.in_ok-groups-in-Some.field-0.items) c.as_slice.ensures.value c.in_ok-groups-in-Some.ensures))
