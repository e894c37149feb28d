use Rattle.std.proofs.Common.{◌≡◌, drop}
use Rattle.std.specs.List.{list_any}
use Rattle.header_addresses.specs.reading.ElementReading.{is_addressee}
use Rattle.header_addresses.specs.reading.ElementView.{elements_view}
use Rattle.header_addresses.proofs.address_lists.has_addressee.Given as goal

abbrev pub invariant-loop-element : goal.invariant-loop-element
invariant-loop-element l = list_any is_addressee (elements_view (drop l.element-index l.elements)) ≡ list_any is_addressee (elements_view l.elements)
