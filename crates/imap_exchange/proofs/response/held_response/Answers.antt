use Rattle.std.proofs.Common.{subst, List, ℕ}
use Rattle.imap_exchange.proofs.Responses.{held_bad}
use Rattle.imap_exchange.proofs.response.held_response.Goals as goal
use Rattle.imap_grammar.specs.declared.answer.Scan.TheVariants.{Bad}
use Rattle.imap_grammar.specs.Scan.{ScanOf}

pub returns-in-Bad-clause-reads : goal.returns-in-Bad-clause-reads
returns-in-Bad-clause-reads c =
    held_bad c.args.received.now c.offset.result c.in-Bad.field-0 (subst (λ (l : List ℕ). ScanOf l (Bad c.in-Bad.field-0)) c.as_slice.ensures c.in-Bad.ensures) c.offset.ensures
