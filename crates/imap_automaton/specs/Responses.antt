-- The grammar of responses as an automaton.
use Rattle.imap_automaton.specs.declared.sym.Line.TheVariants as line
use Rattle.imap_automaton.specs.declared.sym.Sym.{Sym}
use Rattle.imap_automaton.specs.declared.sym.Sym.TheVariants as sym
use Rattle.imap_automaton.specs.Rules as rules
use Rattle.imap_automaton.specs.Fits.{SymFits}
use Rattle.imap_automaton.specs.Flow as flow
use Rattle.imap_automaton.specs.Langs.{Lang}
use Rattle.imap_types.specs.Texts as texts
use Rattle.pushdown.specs.Automaton.{Automaton}

abbrev pub responses : Automaton Sym
responses = record {
  rule_of = rules.rule_of;
  language = Lang;
  fits = SymFits;
  ends_open = flow.ends_open;
  begins = flow.begins;
  may_yield = flow.may_yield;
  stops = flow.stops;
  need = flow.need;
  left = flow.sym_left;
  with_left = flow.with_left;
  start = sym.Line line.Start;
  limit = texts.limit;
  most = texts.literal_limit;
}
