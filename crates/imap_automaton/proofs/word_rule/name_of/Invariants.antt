use Rattle.std.proofs.Common.{◌≡◌, drop}
use Rattle.std.specs.Prelude.{take}
use Rattle.imap_keywords.specs.Keys as keywords
use Rattle.imap_automaton.specs.ItemNameRules as names
use Rattle.imap_automaton.specs.declared.sym.ItemName.TheVariants as name
use Rattle.imap_automaton.proofs.word_rule.name_of.Given as goal

abbrev pub invariant-loop-octet : goal.invariant-loop-octet
invariant-loop-octet l =
    names.name_from l.name (drop l.octet-index l.front) ≡ names.name_from name.Plain (take l.fn.at (keywords.key_text l.fn.key))
