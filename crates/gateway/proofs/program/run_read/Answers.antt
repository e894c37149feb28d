use Rattle.std.proofs.Common.{subst, inl, inr, Result}
use Rattle.gate_world.proofs.Joins.{widen}
use Rattle.gate_words.specs.declared.task.Task.{Task}
use Rattle.gate_words.specs.declared.task.WordsError.{WordsError}
use Rattle.gate_words.proofs.Tasks.{same-task}
use Rattle.gateway.specs.Program.{IsApart, ChecksStore}
use Rattle.gateway.specs.ReadWords.{AreRead}
use Rattle.gateway.proofs.CompletingShow.{completes_show}
use Rattle.gateway.proofs.Performing.{runs_task}
use Rattle.gateway.proofs.Reading.{never_front, never_store, not_refused, where_lacking, where_refused}
use Rattle.gateway.proofs.program.run_read.Goals as goal

pub returns-in-Ok-clause-run : goal.returns-in-Ok-clause-run
returns-in-Ok-clause-run g c =
    widen _ c.perform.ensures.run (λ x so words are. runs_task (subst (λ (r : Result Task WordsError). AreRead words r) c.in-Ok.is are) so)

pub returns-in-Ok-clause-complete : goal.returns-in-Ok-clause-complete
returns-in-Ok-clause-complete g c = widen _ c.perform.ensures.run (λ x so words are. c.obeyed_programs_tell.ensures _ _ _ x)

pub returns-in-Ok-clause-quiet : goal.returns-in-Ok-clause-quiet
returns-in-Ok-clause-quiet g c = λ stood.
    widen _ c.perform.ensures.run (λ x so words are.
    c.quiet_programs_tell.ensures _ _ _ _ _ x (runs_task (subst (λ (r : Result Task WordsError). AreRead words r) c.in-Ok.is are) so) stood)

pub returns-in-Ok-clause-shown : goal.returns-in-Ok-clause-shown
returns-in-Ok-clause-shown g c = λ well.
    widen _ c.perform.ensures.run (λ x so words are.
    completes_show (runs_task (subst (λ (r : Result Task WordsError). AreRead words r) c.in-Ok.is are) so).runs well)

pub returns-in-Ok-clause-appends : goal.returns-in-Ok-clause-appends
returns-in-Ok-clause-appends g c = widen _ c.perform.ensures.run (λ x so words are. c.programs_append_once.ensures _ _ _ x)

pub returns-in-Ok-clause-reads : goal.returns-in-Ok-clause-reads
returns-in-Ok-clause-reads g c = widen _ c.perform.ensures.run (λ x so words are. c.programs_check_by_reading.ensures _ _ _ x)

pub returns-in-Ok-clause-refused : goal.returns-in-Ok-clause-refused
returns-in-Ok-clause-refused g c = not_refused c.args.read c.in-Ok.task c.perform.result c.in-Ok.is c.perform.ensures.statuses

pub returns-in-Ok-clause-apart : goal.returns-in-Ok-clause-apart
returns-in-Ok-clause-apart g c = λ words other are is apart.
    c.perform.ensures.apart (subst (λ (t : Task). IsApart t)
    (same-task words other c.in-Ok.task is (subst (λ (r : Result Task WordsError). AreRead words r) c.in-Ok.is are)) apart)

pub returns-in-Ok-clause-store : goal.returns-in-Ok-clause-store
returns-in-Ok-clause-store g c = λ eight words other are is.
    subst ChecksStore (same-task words c.in-Ok.task other (subst (λ (r : Result Task WordsError). AreRead words r) c.in-Ok.is are) is) (c.perform.ensures.store eight)

pub returns-in-Err-clause-run : goal.returns-in-Err-clause-run
returns-in-Err-clause-run g c =
    widen _ c.end_unread.ensures.run (λ x so words are. so words (subst (λ (r : Result Task WordsError). AreRead words r) c.in-Err.is are))

pub returns-in-Err-clause-complete : goal.returns-in-Err-clause-complete
returns-in-Err-clause-complete g c = widen _ c.end_unread.ensures.run (λ x so words are. c.obeyed_programs_tell.ensures _ _ _ x)

pub returns-in-Err-clause-quiet : goal.returns-in-Err-clause-quiet
returns-in-Err-clause-quiet g c = λ stood.
    widen _ c.end_unread.ensures.run (λ x so words are.
    c.quiet_programs_tell.ensures _ _ _ _ _ x (so words (subst (λ (r : Result Task WordsError). AreRead words r) c.in-Err.is are)) stood)

pub returns-in-Err-clause-shown : goal.returns-in-Err-clause-shown
returns-in-Err-clause-shown g c = λ well.
    widen _ c.end_unread.ensures.run (λ x so words are.
    completes_show (so words (subst (λ (r : Result Task WordsError). AreRead words r) c.in-Err.is are)).runs well)

pub returns-in-Err-clause-appends : goal.returns-in-Err-clause-appends
returns-in-Err-clause-appends g c = widen _ c.end_unread.ensures.run (λ x so words are. c.programs_append_once.ensures _ _ _ x)

pub returns-in-Err-clause-reads : goal.returns-in-Err-clause-reads
returns-in-Err-clause-reads g c = widen _ c.end_unread.ensures.run (λ x so words are. c.programs_check_by_reading.ensures _ _ _ x)

pub returns-in-Err-clause-statuses : goal.returns-in-Err-clause-statuses
returns-in-Err-clause-statuses g c = elim c.end_unread.ensures.statuses [ inl two ↦ inr (inl two) | inr five ↦ inr (inr (inl five)) ]

pub returns-in-Err-clause-refused : goal.returns-in-Err-clause-refused
returns-in-Err-clause-refused g c = where_refused c.args.read c.in-Err.error c.end_unread.result c.in-Err.is c.end_unread.ensures.refused

pub returns-in-Err-clause-memory : goal.returns-in-Err-clause-memory
returns-in-Err-clause-memory g c =
    where_lacking c.args.read c.in-Err.error c.end_unread.result c.in-Err.is c.end_unread.ensures.statuses c.end_unread.ensures.refused

pub returns-in-Err-clause-front : goal.returns-in-Err-clause-front
returns-in-Err-clause-front g c = λ six. absurd (never_front c.end_unread.result c.end_unread.ensures.statuses six)

pub returns-in-Err-clause-store : goal.returns-in-Err-clause-store
returns-in-Err-clause-store g c = λ eight. absurd (never_store c.end_unread.result c.end_unread.ensures.statuses eight)
