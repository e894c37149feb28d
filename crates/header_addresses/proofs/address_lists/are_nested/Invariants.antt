use Rattle.std.proofs.Common.{◌≡◌, drop, false}
use Rattle.header_addresses.specs.reading.ElementReading.{are_nested}
use Rattle.header_addresses.specs.reading.ElementView.{elements_view}
use Rattle.header_addresses.proofs.address_lists.are_nested.Given as goal

abbrev pub invariant-loop-element : goal.invariant-loop-element
invariant-loop-element l = are_nested l.inside (elements_view (drop l.element-index l.elements)) ≡ are_nested false (elements_view l.elements)
