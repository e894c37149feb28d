-- The automaton: what an octet does to the first symbol.
use Rattle.std.specs.Prelude.{ℕ}
use Rattle.imap_automaton.specs.declared.sym.Sym.{Sym}
use Rattle.imap_automaton.specs.declared.sym.Sym.TheVariants as sym
use Rattle.pushdown.specs.declared.moves.Move.{Move}
use Rattle.imap_automaton.specs.LineRules.{line_rule}
use Rattle.imap_automaton.specs.WordRules.{word_rule}
use Rattle.imap_automaton.specs.FreeRules.{free_rule}
use Rattle.imap_automaton.specs.ItemRules.{item_rule}
use Rattle.imap_automaton.specs.NamesRules.{names_rule}
use Rattle.imap_automaton.specs.DateRules.{date_rule}
use Rattle.imap_automaton.specs.ItemNameRules.{item_name_rule}
use Rattle.imap_automaton.specs.SetRules.{words_rule, set_rule}
use Rattle.imap_automaton.specs.StringRules.{string_rule}
use Rattle.imap_automaton.specs.ValueRules.{value_rule}
use Rattle.imap_automaton.specs.FolderRules.{folder_rule}

abbrev pub rule_of : Sym → ℕ → Move Sym
rule_of (sym.Line s) c = line_rule s c
rule_of (sym.Word place key at) c = word_rule place key at c
rule_of (sym.Free s) c = free_rule s c
rule_of (sym.Item s) c = item_rule s c
rule_of (sym.Names s) c = names_rule s c
rule_of (sym.Date s) c = date_rule s c
rule_of (sym.ItemName s) c = item_name_rule s c
rule_of (sym.Words s) c = words_rule s c
rule_of (sym.Set s) c = set_rule s c
rule_of (sym.Str s) c = string_rule s c
rule_of (sym.Value s) c = value_rule s c
rule_of (sym.Folder s) c = folder_rule s c
