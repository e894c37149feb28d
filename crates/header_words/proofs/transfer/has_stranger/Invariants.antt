use Rattle.std.proofs.Common.{◌≡◌, drop}
use Rattle.std.specs.List.{list_any}
use Rattle.header_words.specs.Transfer.{is_stranger}
use Rattle.header_words.proofs.transfer.has_stranger.Given as goal

abbrev pub invariant-loop-octet : goal.invariant-loop-octet
invariant-loop-octet l = list_any is_stranger (drop l.octet-index l.text) ≡ list_any is_stranger l.text
