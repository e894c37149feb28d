use Rattle.std.proofs.Common.{[], ◌++◌, ap, ◌∙◌}
use Rattle.header_tokens.specs.declared.token.Kind.{Kind}
use Rattle.header_dates.specs.Dates.{pieces_in}
use Rattle.header_dates.specs.reading.DateReading.{pieces_behind}
use Rattle.header_dates.proofs.PieceLemmas.{atom_behind}
use Rattle.header_dates.proofs.pieces.piece_of.Goals as goal

pub returns-in-Atom : goal.returns-in-Atom
returns-in-Atom c =
    let t = c.args.lexeme.text.now in
    let r = c.args.rest.now in
    ap (λ (k : Kind). pieces_in k t ++ pieces_behind [] r) c.in-Atom.is ∙ atom_behind t r ∙ c.run_at.ensures
