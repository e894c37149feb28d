use Rattle.std.proofs.Common.{◌≡◌, ◌∙◌, Bool, true, cond, Some, None, ap}
use Rattle.imap_automaton.specs.Responses.{responses}
use Rattle.pushdown.specs.Run.{step, mark}
use Rattle.pushdown.specs.Symbols.{symbols_of}
use Rattle.imap_automaton.proofs.Tests.{both}
use Rattle.imap_automaton.proofs.Lawful.{responses_lawful}
use Rattle.pushdown.proofs.Whole.{good_fits}
use Rattle.imap_grammar.proofs.PassingReadings.{marked_step, skip_to, passed_all, passed_before, passed_with, passed_on}
use Rattle.imap_grammar.proofs.items.passed.Goals as goal

pub returns-in_default : goal.returns-in_default
returns-in_default c =
    let ss = symbols_of c.skip_inside-octets.new.stack in
    let at = skip_to c.args.bytes.now c.passing.rest.now c.skip_inside-octets.result.now
    (symbols_of c.passing.stack) ss c.passing.invariant c.skip_inside-octets.ensures.rest c.skip_inside-octets.ensures.symbols in
    passed_all c.args.bytes.now c.skip_inside-octets.result.now ss at c.in_default.ensures.cases

pub advance-requires : goal.advance-requires
advance-requires c =
    let ss = symbols_of c.skip_inside-octets.new.stack in
    let at = skip_to c.args.bytes.now c.passing.rest.now c.skip_inside-octets.result.now
    (symbols_of c.passing.stack) ss c.passing.invariant c.skip_inside-octets.ensures.rest c.skip_inside-octets.ensures.symbols in
    (good_fits responses responses_lawful true ss at.good, at.room)

pub returns-then-not-advance : goal.returns-then-not-advance
returns-then-not-advance c =
    let ss = symbols_of c.skip_inside-octets.new.stack in
    let octet = c.in-Some.octet.now in
    let at = skip_to c.args.bytes.now c.passing.rest.now c.skip_inside-octets.result.now
    (symbols_of c.passing.stack) ss c.passing.invariant c.skip_inside-octets.ensures.rest c.skip_inside-octets.ensures.symbols in
    let e = marked_step ss octet c.is_inside.result c.marked_by-marked.result c.advance.result
    (Some (symbols_of c.advance.new.stack)) c.is_inside.ensures c.marked_by-marked.ensures c.advance.ensures in
    let none : step responses ss (mark responses ss octet) ≡ None = e ∙ ap (λ (q : Bool). cond q (Some (symbols_of c.advance.new.stack)) None) c.if-not-advance.true in
    passed_before c.args.bytes.now c.skip_inside-octets.result.now c.in-Some.after.now octet ss at c.in-Some.ensures.cases.0 none

pub returns-then-is_empty : goal.returns-then-is_empty
returns-then-is_empty c =
    let ss = symbols_of c.skip_inside-octets.new.stack in
    let left = symbols_of c.advance.new.stack in
    let octet = c.in-Some.octet.now in
    let at = skip_to c.args.bytes.now c.passing.rest.now c.skip_inside-octets.result.now
    (symbols_of c.passing.stack) ss c.passing.invariant c.skip_inside-octets.ensures.rest c.skip_inside-octets.ensures.symbols in
    let e = marked_step ss octet c.is_inside.result c.marked_by-marked.result c.advance.result (Some left) c.is_inside.ensures c.marked_by-marked.ensures c.advance.ensures in
    let some : step responses ss (mark responses ss octet) ≡ Some left = e ∙ ap (λ (q : Bool). cond q (Some left) None) c.if-not-advance.false in
    passed_with c.args.bytes.now c.skip_inside-octets.result.now c.in-Some.after.now octet ss left at c.in-Some.ensures.cases.0 some (c.is_empty.ensures.0 c.if-is_empty.true)

pub passing-preserved : goal.passing-preserved
passing-preserved c =
    let ss = symbols_of c.skip_inside-octets.new.stack in
    let left = symbols_of c.advance.new.stack in
    let octet = c.in-Some.octet.now in
    let at = skip_to c.args.bytes.now c.passing.rest.now c.skip_inside-octets.result.now
    (symbols_of c.passing.stack) ss c.passing.invariant c.skip_inside-octets.ensures.rest c.skip_inside-octets.ensures.symbols in
    let e = marked_step ss octet c.is_inside.result c.marked_by-marked.result c.advance.result (Some left) c.is_inside.ensures c.marked_by-marked.ensures c.advance.ensures in
    let some : step responses ss (mark responses ss octet) ≡ Some left = e ∙ ap (λ (q : Bool). cond q (Some left) None) c.if-not-advance.false in
    passed_on c.args.bytes.now c.skip_inside-octets.result.now c.in-Some.after.now octet ss left at c.in-Some.ensures.cases.0 some
    (λ n. both c.is_empty.result (c.is_empty.ensures.1 n) c.if-is_empty.false)
