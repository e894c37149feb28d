use Rattle.std.proofs.Common.{drop, None, []}
use Rattle.header_addresses.specs.reading.ElementReading.{grouped_from}
use Rattle.header_addresses.specs.reading.GroupBuilding.{Builds}
use Rattle.header_addresses.specs.reading.ElementView.{elements_view}
use Rattle.header_addresses.proofs.address_lists.groups.Given as goal

abbrev pub invariant-loop-element : goal.invariant-loop-element
invariant-loop-element l = Builds l.builder (elements_view (drop l.element-index l.elements)) (grouped_from None [] (elements_view l.elements))
