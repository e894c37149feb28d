use Rattle.std.proofs.Common.{ℕ, List, ◌++◌, sym, subst, ◌∙◌}
use Rattle.imap_grammar.specs.declared.answer.Scan.{Scan}
use Rattle.imap_grammar.specs.Scan.{ScanOf}
use Rattle.imap_grammar.proofs.Spellings.{scanned, more_of}
use Rattle.imap_grammar.proofs.scanner.Scanner.feed.Goals as goal

pub returns-clause-scan : goal.returns-clause-scan
returns-clause-scan c = λ b f.
    subst (λ (p : Scan). ScanOf (b ++ c.args.piece.now) p) (sym c.scan_of.ensures) (scanned (b ++ c.args.piece.now) c.feed.result (c.feed.ensures.answer b f))

pub returns-clause-more : goal.returns-clause-more
returns-clause-more c = λ b f e. c.feed.ensures.more b f (more_of c.feed.result (sym c.scan_of.ensures ∙ e))
