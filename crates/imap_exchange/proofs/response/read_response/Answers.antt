use Rattle.std.proofs.Common.{rules, arith, sym, subst, ◌++◌, ◌∙◌, ◌≡◌, List, ℕ, [], refl}
use Rattle.std.proofs.lemmas.Result.{err_from_is_err_and}
use Rattle.gate_world.proofs.Joins.{join, none, widen}
use Rattle.imap_grammar.specs.Fed.{IsScannerFed}
use Rattle.imap_grammar.specs.Scan.{ScanOf}
use Rattle.imap_grammar.specs.declared.answer.Scan.TheVariants.{NeedMore, Bad}
use Rattle.imap_exchange.proofs.Responses.{Gains-append, Gains-none, gained, read_whole, read_bad, read_wanting, fill_failed, kept_front}
use Rattle.imap_exchange.proofs.response.read_response.Goals as goal

pub reading-init : goal.reading-init
reading-init g c =
    record {
      tape = none _ _ ([], Gains-none c.args.begun c.args.received.now);
      fed = c.new-scanner.ensures;
      within = omega arith;
      room = refl;
      given = omega arith;
      alone = search rules;
      hidden = refl;
    }

pub returns-in-Whole-clause-tape : goal.returns-in-Whole-clause-tape
returns-in-Whole-clause-tape g c =
    widen _ c.reading.invariant.tape (λ es so. read_whole c.args.begun c.args.received.now c.reading.received c.take_response.new.received c.in-Whole.length so
    c.in_ok-take_response-in-Whole.ensures.response c.in_ok-take_response-in-Whole.ensures.rest c.take_response.ensures.given)

pub returns-in-Bad-clause-tape : goal.returns-in-Bad-clause-tape
returns-in-Bad-clause-tape g c =
    let scanned = subst (λ (l : List ℕ). ScanOf l (Bad c.in-Bad.field-0)) c.as_slice.ensures c.in-Bad.ensures.scan in
    widen _ c.reading.invariant.tape (λ es so. read_bad c.args.begun c.args.received.now c.reading.received c.offset.result c.in-Bad.field-0 so scanned c.offset.ensures)

pub returns-in_err-take_response-in-Whole-clause-tape : goal.returns-in_err-take_response-in-Whole-clause-tape
returns-in_err-take_response-in-Whole-clause-tape g c =
    let is = err_from_is_err_and c.from_residual.result c.from_residual.ensures.1 in
    rw (is.1, is.2) (widen _ c.reading.invariant.tape (λ es so. read_wanting c.args.begun c.args.received.now c.reading.received c.take_response.new.received so))

pub reading-preserved : goal.reading-preserved
reading-preserved g c =
    let held : c.as_slice-fed.result.now ≡ c.reading.received.octets = c.as_slice-fed.ensures in
    let scanned = subst (λ (l : List ℕ). ScanOf l NeedMore) c.as_slice.ensures c.in-NeedMore.ensures.scan in
    let front = kept_front c.reading.received.octets c.fill.new.self.octets c.as_slice-fed.result.now held c.in_ok-fill.ensures.kept in
    record {
      tape = join _ c.reading.invariant.tape c.in_ok-fill.ensures.tape
          (λ x y so fills. (so.0 ++ fills.0, Gains-append so.1 (gained c.args.begun c.reading.received c.fill.new.self scanned fills)));
      fed = subst (λ (l : List ℕ). IsScannerFed c.scan_on.new.scanner l) (c.as_slice.ensures ∙ sym front.0) (c.scan_on.ensures.more c.in-NeedMore.is);
      within = front.1;
      room = search rules;
      given = omega (arith, c.reading.invariant.given, c.in_ok-fill.ensures.more);
      alone = search rules;
      hidden = search rules;
    }

pub returns-in_err-fill-clause-tape : goal.returns-in_err-fill-clause-tape
returns-in_err-fill-clause-tape g c =
    let is = err_from_is_err_and c.from_residual-in_err-fill.result c.from_residual-in_err-fill.ensures.1 in
    let scanned = subst (λ (l : List ℕ). ScanOf l NeedMore) c.as_slice.ensures c.in-NeedMore.ensures.scan in
    rw (is.1, is.2) (join _ c.reading.invariant.tape c.in_err-fill.ensures.tape
    (λ x y so fills. fill_failed y c.args.begun c.args.received.now c.reading.received c.fill.new.self _ scanned so fills))
