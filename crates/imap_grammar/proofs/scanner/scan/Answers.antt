use Rattle.std.proofs.Common.{[]}
use Rattle.imap_grammar.proofs.scanner.scan.Goals as goal

pub returns : goal.returns
returns c = c.feed.ensures.scan [] c.new.ensures
