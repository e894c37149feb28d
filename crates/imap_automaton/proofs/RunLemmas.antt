-- Runs of octets that one symbol takes.
use Rattle.std.proofs.Common.{◌≡◌, ◌∙◌, cond, ℕ, ◌+◌, true, refl}
use Rattle.std.specs.Prelude.{◌==◌}
use Rattle.std.proofs.lemmas.Bool.{cond-true, cond-false}
use Rattle.imap_keywords.specs.declared.key.Key.{Key}
use Rattle.imap_keywords.specs.declared.phrase.Phrase.TheVariants as phrase
use Rattle.imap_keywords.specs.declared.key.WordPlace.{WordPlace}
use Rattle.imap_automaton.specs.declared.sym.Sym.{Sym}
use Rattle.imap_automaton.specs.declared.sym.Sym.TheVariants as sym
use Rattle.imap_automaton.specs.declared.sym.Names.TheVariants as names
use Rattle.imap_keywords.specs.Keys.{in_word, goes_on}
use Rattle.imap_automaton.specs.WordRules.{word_rule}
use Rattle.imap_automaton.specs.declared.sym.Line.TheVariants as line
use Rattle.imap_automaton.specs.LineRules.{line_rule}
use Rattle.imap_automaton.specs.NamesRules.{names_rule}
use Rattle.imap_keywords.proofs.Classes.{text_not_cr}
use Rattle.imap_automaton.specs.Rules.{rule_of}
use Rattle.imap_automaton.specs.Fits.{SymFits}
use Rattle.imap_automaton.specs.Responses.{responses}
use Rattle.imap_automaton.proofs.Lawful.{responses_lawful}
use Rattle.imap_types.specs.Octets.{is_text, is_atom, lower}
use Rattle.pushdown.specs.declared.moves.Move.TheVariants as move
use Rattle.pushdown.proofs.Room as room

-- the symbol after an octet fits
pub one_fits : (s a : Sym) (c : ℕ) → SymFits s ≡ true → rule_of s c ≡ move.One a → SymFits a ≡ true
one_fits s a c fits e = room.one_fits responses responses_lawful s a c fits e

-- a word that goes on with its key
pub word_stays : (p : WordPlace) (k : Key) (at c : ℕ) → in_word p c ≡ true → goes_on k at (lower c) k ≡ true → word_rule p k at c ≡ move.One (sym.Word p k (at + 1))
word_stays p k at c i g = rw (i, g) refl

-- an atom that goes on
pub atom_stays : (c : ℕ) → is_atom c ≡ true → names_rule names.AtomRest c ≡ move.One (sym.Names names.AtomRest)
atom_stays c e = rw e refl

-- a line's text that goes on
pub text_stays : (c : ℕ) → is_text c ≡ true → line_rule line.Text c ≡ move.One (sym.Line line.Text)
text_stays c e =
    cond-false (c == 13) (move.One (sym.Line (line.Fixed phrase.Crlf 1))) (cond (is_text c) (move.One (sym.Line line.Text)) move.Fail) (text_not_cr c e)
    ∙ cond-true (is_text c) (move.One (sym.Line line.Text)) move.Fail e
