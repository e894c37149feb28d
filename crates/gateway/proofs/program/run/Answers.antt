use Rattle.gate_world.proofs.Joins.{widen}
use Rattle.gateway.proofs.Reading.{are_read, ends_unread, no_task}
use Rattle.gateway.proofs.program.run.Goals as goal

pub returns-clause-run : goal.returns-clause-run
returns-clause-run g c = widen _ c.run_read.ensures.run (λ x so. so _ (are_read _ _ c.read_words-read.ensures.ok c.read_words-read.ensures.refused))

pub returns-clause-complete : goal.returns-clause-complete
returns-clause-complete g c = widen _ c.run_read.ensures.complete (λ x so. so _ (are_read _ _ c.read_words-read.ensures.ok c.read_words-read.ensures.refused))

pub returns-clause-quiet : goal.returns-clause-quiet
returns-clause-quiet g c = λ stood.
    widen _ (c.run_read.ensures.quiet stood) (λ x so. so _ (are_read _ _ c.read_words-read.ensures.ok c.read_words-read.ensures.refused))

pub returns-clause-shown : goal.returns-clause-shown
returns-clause-shown g c = λ well.
    widen _ (c.run_read.ensures.shown well) (λ x so. so _ (are_read _ _ c.read_words-read.ensures.ok c.read_words-read.ensures.refused))

pub returns-clause-appends : goal.returns-clause-appends
returns-clause-appends g c = widen _ c.run_read.ensures.appends (λ x so. so _ (are_read _ _ c.read_words-read.ensures.ok c.read_words-read.ensures.refused))

pub returns-clause-reads : goal.returns-clause-reads
returns-clause-reads g c = widen _ c.run_read.ensures.reads (λ x so. so _ (are_read _ _ c.read_words-read.ensures.ok c.read_words-read.ensures.refused))

pub returns-clause-words : goal.returns-clause-words
returns-clause-words g c = λ two.
    no_task _ c.read_words-read.result (are_read _ _ c.read_words-read.ensures.ok c.read_words-read.ensures.refused) (c.run_read.ensures.refused.0 two)

pub returns-clause-refused : goal.returns-clause-refused
returns-clause-refused g c = λ none.
    ends_unread _ c.read_words-read.result _ (are_read _ _ c.read_words-read.ensures.ok c.read_words-read.ensures.refused) none c.run_read.ensures.refused
    c.run_read.ensures.memory

pub returns-clause-apart : goal.returns-clause-apart
returns-clause-apart g c = λ task is apart.
    c.run_read.ensures.apart _ task (are_read _ _ c.read_words-read.ensures.ok c.read_words-read.ensures.refused) is apart

pub returns-clause-store : goal.returns-clause-store
returns-clause-store g c = λ eight task is.
    c.run_read.ensures.store eight _ task (are_read _ _ c.read_words-read.ensures.ok c.read_words-read.ensures.refused) is
