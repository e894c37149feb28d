use Rattle.mime_tree.specs.reading.LineReading.{line_mark}
use Rattle.mime_tree.proofs.MarkLemmas as lemmas
use Rattle.mime_tree.proofs.laws.one_mark.Goals as goal

pub returns-clause-some : goal.returns-clause-some
returns-clause-some c = λ y l. (line_mark y l, lemmas.marked y l)

pub returns-clause-one : goal.returns-clause-one
returns-clause-one c = λ y l m n g h. lemmas.one_mark y l m n g h
