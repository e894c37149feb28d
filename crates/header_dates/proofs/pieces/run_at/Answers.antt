use Rattle.std.proofs.Common.{◌≡◌, length, eqb, true, false}
use Rattle.text_words.specs.Octets.{is_digit, is_alpha}
use Rattle.header_dates.specs.Dates.{Digits, Letters}
use Rattle.header_dates.proofs.PieceLemmas.{behind_runs, digits_cut, letters_cut, first_fails, something_cut}
use Rattle.header_dates.proofs.pieces.run_at.Goals as goal

pub returns-then-not-is_empty : goal.returns-then-not-is_empty
returns-then-not-is_empty c =
    let d = c.cut.result.0.now in
    let q : eqb (length d) 0 ≡ false = cc in
    behind_runs c.args.atom.now c.cut.result.1.now c.args.rest.now (Digits d) (digits_cut c.args.atom.now d c.cut.result.1.now c.cut.ensures.front c.cut.ensures.back
    (something_cut d q))

pub returns-then-not-is_empty-2 : goal.returns-then-not-is_empty-2
returns-then-not-is_empty-2 c =
    let d = c.cut-2.result.0.now in
    let q : eqb (length d) 0 ≡ false = cc in
    behind_runs c.args.atom.now c.cut-2.result.1.now c.args.rest.now (Letters d) (letters_cut c.args.atom.now d c.cut-2.result.1.now c.cut-2.ensures.front c.cut-2.ensures.back
    (something_cut d q))

pub octet_at-requires-clause-digit : goal.octet_at-requires-clause-digit
octet_at-requires-clause-digit c = let q : eqb
    (length c.cut.result.0.now) 0 ≡ true = cc in first_fails is_digit c.args.atom.now c.cut.result.0.now c.cut.ensures.front q c.in-len1-up.len_at_least

pub octet_at-requires-clause-letter : goal.octet_at-requires-clause-letter
octet_at-requires-clause-letter c = let q : eqb
    (length c.cut-2.result.0.now) 0 ≡ true = cc in first_fails is_alpha c.args.atom.now c.cut-2.result.0.now c.cut-2.ensures.front q c.in-len1-up.len_at_least
