use Rattle.std.proofs.Common.{sym}
use Rattle.mime_tree.proofs.LineLemmas.{len_none, len_found}
use Rattle.mime_tree.proofs.split.line_len.Goals as goal

pub returns-in-None-clause-value : goal.returns-in-None-clause-value
returns-in-None-clause-value c = sym (len_none c.args.bytes.now c.in-None.ensures)

pub returns-in-Some-clause-value : goal.returns-in-Some-clause-value
returns-in-Some-clause-value c = sym (len_found c.args.bytes.now c.in-Some.at c.in-Some.ensures)
