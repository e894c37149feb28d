use Rattle.std.proofs.Common.{◌≡◌, ◌∷◌, length, eqb, true, false, inl, inr}
use Rattle.text_words.specs.Octets.{is_digit}
use Rattle.header_dates.specs.Dates.{Octet, Signed, is_plus_or_minus}
use Rattle.header_dates.proofs.PieceLemmas.{behind_runs, octet_run, signed_cut, stops_here, nothing_cut, something_cut}
use Rattle.header_dates.proofs.pieces.octet_at.Goals as goal

pub returns-then-is_empty : goal.returns-then-is_empty
returns-then-is_empty c =
    let o = c.args.octet in
    let more = c.args.more.now in
    let d = c.cut.result.0.now in
    let q : eqb (length d) 0 ≡ true = cc in
    behind_runs (o ∷ more) more c.args.rest.now (Octet o) (octet_run o more c.requires.digit c.requires.letter
    (inl (stops_here is_digit more d c.cut.ensures.front (nothing_cut d q))))

pub returns-then-not-is_plus_or_minus : goal.returns-then-not-is_plus_or_minus
returns-then-not-is_plus_or_minus c =
    let o = c.args.octet in
    let more = c.args.more.now in
    let s : is_plus_or_minus o ≡ false = cc in
    behind_runs (o ∷ more) more c.args.rest.now (Octet o) (octet_run o more c.requires.digit c.requires.letter (inr s))

pub returns : goal.returns
returns c =
    let o = c.args.octet in
    let more = c.args.more.now in
    let d = c.cut.result.0.now in
    let q : eqb (length d) 0 ≡ false = cc in
    let s : is_plus_or_minus o ≡ true = cc in
    behind_runs (o ∷ more) c.cut.result.1.now c.args.rest.now (Signed o d) (signed_cut o more d c.cut.result.1.now s c.cut.ensures.front c.cut.ensures.back (something_cut d q))
