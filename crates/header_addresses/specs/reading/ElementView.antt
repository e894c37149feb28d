-- What the code's elements are in the grammar.
use Rattle.std.specs.Prelude.{List, map}
use Rattle.header_addresses.specs.declared.elements.Mailbox.{Mailbox as Box}
use Rattle.header_addresses.specs.declared.elements.Element.{Element as Code}
use Rattle.header_addresses.specs.declared.elements.Element.TheVariants as code
use Rattle.header_addresses.specs.Mailboxes.{Mailbox}
use Rattle.header_addresses.specs.AddressLists.{Element, Empty, Head, End, Member}
use Rattle.header_tokens.specs.TokenView.{tokens_view}

abbrev pub mailbox_view : Box → Mailbox
mailbox_view m = record { phrase = tokens_view m.phrase.now; spec = tokens_view m.spec.now; behind = tokens_view m.behind.now }

abbrev pub element_view : Code → Element
element_view code.Empty = Empty
element_view (code.Head phrase) = Head (tokens_view phrase.now)
element_view code.End = End
element_view (code.Member m) = Member (mailbox_view m)

abbrev pub elements_view : List Code → List Element
elements_view es = map element_view es
