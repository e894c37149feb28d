use Rattle.std.proofs.Common.{◌≡◌, ℕ, ◌+◌, true, ◌&&◌, List, length, take, get_or, refl, sym, ap, subst, ◌∙◌, arith}
use Rattle.std.specs.Prelude.{◌==◌, nat_lt}
use Rattle.std.proofs.lemmas.Bool.{and_from}
use Rattle.imap_automaton.specs.declared.sym.Sym.TheVariants as sym
use Rattle.imap_keywords.specs.Keys.{key_text, goes_on}
use Rattle.imap_automaton.specs.Responses.{responses}
use Rattle.pushdown.specs.Run.{LeadsTo}
use Rattle.imap_keywords.proofs.KeyLemmas.{self_same, goes_to, goes_in_word}
use Rattle.pushdown.proofs.Leading.{runs_none, runs_more}
use Rattle.imap_automaton.proofs.RunLemmas.{word_stays}
use Rattle.imap_automaton.proofs.runs.word_run.Goals as goal
use Rattle.imap_types.specs.Octets.{lower}

pub loop-count-init : goal.loop-count-init
loop-count-init c =
    let word = sym.Word c.args.place c.args.key c.args.at in
    let same : c.args.at ≡ c.args.at + 0 = omega arith in
    record {
      within = omega arith;
      key = omega (arith, c.requires);
      run = subst (λ (n : ℕ). LeadsTo responses word (take 0 c.args.octets.now) (sym.Word c.args.place c.args.key n)) same (runs_none responses word c.args.octets.now);
    }

pub loop-count-preserved : goal.loop-count-preserved
loop-count-preserved c =
    let count = c.loop-count.count in
    let at = c.args.at + count in
    let octet = get_or c.args.octets.now count 0 in
    let word = sym.Word c.args.place c.args.key in
    let key = key_text c.args.key in
    let text : (nat_lt at (length key) && get_or key at 0 == lower octet) ≡ true =
    ap (λ (t : List ℕ). nat_lt at (length t) && get_or t at 0 == lower octet) (sym c.key_text-text.ensures) ∙ sym c.goes_with.ensures ∙ c.if-goes_with.true in
    let on : goes_on c.args.key at (lower octet) c.args.key ≡ true = and_from _ _ text (self_same (take at key)) in
    let next = goes_to c.args.key c.args.key at (lower octet) on in
    let same : at + 1 ≡ c.args.at + (count + 1) = omega arith in
    let more = runs_more responses (word c.args.at) (word at) (word (at + 1)) c.args.octets.now count octet (omega arith) refl c.loop-count.invariant.run
    (word_stays c.args.place c.args.key at octet (goes_in_word c.args.place c.args.key c.args.key at octet on) on) in
    record {
      within = omega arith;
      key = omega (arith, next.1);
      run = subst (λ (n : ℕ). LeadsTo responses (word c.args.at) (take (count + 1) c.args.octets.now) (word n)) same more;
    }
