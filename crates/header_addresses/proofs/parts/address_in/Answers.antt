use Rattle.std.proofs.Common.{Vec, Global, ap, ◌∙◌, sym}
use Rattle.header_words.proofs.ShapeLemmas.{take_none, take_some}
use Rattle.header_tokens.specs.TokenView.{tokens_view}
use Rattle.header_addresses.specs.declared.elements.Element.{Element as Code}
use Rattle.header_addresses.specs.reading.ElementView.{mailbox_view, elements_view}
use Rattle.header_addresses.specs.reading.GroupBuilding.{IsList, IsNoList}
use Rattle.header_addresses.proofs.PartLemmas.{not_list, not_alone, is_alone}
use Rattle.header_addresses.proofs.parts.address_in.Goals as goal

pub returns-in_default : goal.returns-in_default
returns-in_default c =
    not_list (tokens_view c.args.tokens.now) (take_none {P = IsNoList (tokens_view c.args.tokens.now)} c.in_ok-elements.field-0 c.in_default.is c.in_ok-elements.ensures.none)

pub returns-in-None : goal.returns-in-None
returns-in-None c =
    let ts = tokens_view c.args.tokens.now in
    let es = c.in-Some.elements in
    let l = take_some (λ (v : Vec Code Global). IsList (elements_view v.items) ts) c.in_ok-elements.field-0 es c.in-Some.is c.in_ok-elements.ensures.some in
    not_alone (elements_view es.items) ts l (λ m e. c.in-None.ensures m (ap elements_view c.as_slice.ensures.value ∙ e))

pub returns : goal.returns
returns c =
    let ts = tokens_view c.args.tokens.now in
    let es = c.in-Some.elements in
    let l = take_some (λ (v : Vec Code Global). IsList (elements_view v.items) ts) c.in_ok-elements.field-0 es c.in-Some.is c.in_ok-elements.ensures.some in
    is_alone (elements_view es.items) ts (mailbox_view c.in-Some-member_alone.mailbox) c.in_ok-address_of-in-Some-member_alone.field-0 l
    (ap elements_view (sym c.as_slice.ensures.value) ∙ c.in-Some-member_alone.ensures) c.in_ok-address_of-in-Some-member_alone.ensures
