use Rattle.std.proofs.Common.{◌≡◌, ◌≤◌, ◌+◌, drop, length}
use Rattle.std.specs.List.{filter}
use Rattle.header_words.specs.Base64.{is_symbol}
use Rattle.header_words.proofs.transfer.symbol_count.Given as goal

abbrev pub invariant-loop-octet : goal.invariant-loop-octet
invariant-loop-octet l = record {
  counted : l.count + length (filter is_symbol (drop l.octet-index l.text)) ≡ length (filter is_symbol l.text);
  within : l.count ≤ l.octet-index;
}
