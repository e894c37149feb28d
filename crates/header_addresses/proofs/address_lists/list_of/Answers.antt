use Rattle.std.proofs.Common.{Vec, Global}
use Rattle.header_words.proofs.ShapeLemmas.{take_some}
use Rattle.header_addresses.specs.declared.elements.Element.{Element as Code}
use Rattle.header_addresses.specs.reading.ElementReading.{AreFilled}
use Rattle.header_addresses.specs.reading.ElementView.{elements_view}
use Rattle.header_tokens.specs.TokenView.{tokens_view}
use Rattle.header_addresses.proofs.GroupLemmas.{none_checked}
use Rattle.header_addresses.proofs.address_lists.list_of.Goals as goal

pub returns-in-Some-clause-none : goal.returns-in-Some-clause-none
returns-in-Some-clause-none c =
    let ts = tokens_view c.args.tokens.now in
    let s = take_some (λ (v : Vec Code Global). AreFilled (elements_view v.items) ts) c.in_ok-elements.field-0 c.in-Some.found c.in-Some.is c.in_ok-elements.ensures.some in
    none_checked c.checked.result _ (elements_view c.in-Some.found.items) ts s c.checked.ensures
