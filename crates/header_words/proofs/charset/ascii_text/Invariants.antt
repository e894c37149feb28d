use Rattle.std.proofs.Common.{◌≡◌, ◌++◌, ◌||◌, drop, not}
use Rattle.std.specs.List.{flat_map, list_any}
use Rattle.header_words.specs.Charsets.{is_ascii, ascii_octet}
use Rattle.header_words.proofs.charset.ascii_text.Given as goal

abbrev pub invariant-loop-octet : goal.invariant-loop-octet
invariant-loop-octet l = record {
  text : l.text.items ++ flat_map ascii_octet (drop l.octet-index l.bytes) ≡ flat_map ascii_octet l.bytes;
  problem : (l.problem || list_any (λ c. not (is_ascii c)) (drop l.octet-index l.bytes)) ≡ list_any (λ c. not (is_ascii c)) l.bytes;
}
