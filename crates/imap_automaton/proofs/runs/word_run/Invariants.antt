use Rattle.std.proofs.Common.{◌+◌, ◌≤◌, ◌-◌, length, take}
use Rattle.imap_automaton.specs.declared.sym.Sym.TheVariants as sym
use Rattle.imap_keywords.specs.Keys as keywords
use Rattle.imap_automaton.specs.Responses.{responses}
use Rattle.pushdown.specs.Run.{LeadsTo}
use Rattle.imap_automaton.proofs.runs.word_run.Given as goal

abbrev pub invariant-loop-count : goal.invariant-loop-count
invariant-loop-count l = record {
  within : l.count ≤ length l.octets;
  key : l.at + l.count ≤ length (keywords.key_text l.fn.key);
  run : LeadsTo responses (sym.Word l.fn.place l.fn.key l.at) (take l.count l.octets) (sym.Word l.fn.place l.fn.key (l.at + l.count));
}

abbrev pub decreases-loop-count : goal.decreases-loop-count
decreases-loop-count l = length l.octets - l.count
