use Rattle.std.proofs.Common.{◌≡◌, ◌++◌, length, string_bytes, IsUtf8}
use Rattle.serde_json.specs.Find.{unescape}
use Rattle.result_references.proofs.path.unescaped.Given as goal

-- the name is that so far, and what the rest stands for
abbrev pub invariant-escapes : goal.invariant-escapes
invariant-escapes l = (unescape l.token ≡ string_bytes l.name ++ unescape l.rest) × IsUtf8 l.rest

abbrev pub decreases-escapes : goal.decreases-escapes
decreases-escapes l = length l.rest
