use Rattle.std.proofs.lemmas.Result.{IfOk-weaker}
use Rattle.honest_store.specs.Sessions.{StoreAnswer}
use Rattle.small_answers.specs.Answers.{AnswersCommand, ok_reply}
use Rattle.small_answers.specs.Causes.{RefusalCause}
use Rattle.small_store.specs.reading.Steps.{Gives}
use Rattle.small_store.proofs.MachineAnswers.{accepted, cause_free, cause_there, refused, told_either}
use Rattle.small_store.proofs.machine.StoredMachine.respond.Goals as goal

pub returns-then-branch-clause-ok : goal.returns-then-branch-clause-ok
returns-then-branch-clause-ok c =
    let s = c.args.self.now in
    refused s c.refuse.new.self c.args.command.now c.refuse.result
    (cause_there c.in_ok-refuses.field-0 (RefusalCause s c.args.command.now) c.in_ok-refuses.ensures c.if-branch.true) c.refuse.ensures.answer c.refuse.ensures.session

pub returns-then-branch-clause-tellable : goal.returns-then-branch-clause-tellable
returns-then-branch-clause-tellable c =
    let s = c.args.self.now in
    told_either s c.refuse.new.self c.args.command.now c.refuse.result c.requires.tellable c.requires.command
    (refused s c.refuse.new.self c.args.command.now c.refuse.result
    (cause_there c.in_ok-refuses.field-0 (RefusalCause s c.args.command.now) c.in_ok-refuses.ensures c.if-branch.true) c.refuse.ensures.answer c.refuse.ensures.session)
    c.refuse.ensures.err

pub accept-requires-clause-no_cause : goal.accept-requires-clause-no_cause
accept-requires-clause-no_cause c = cause_free c.in_ok-refuses.field-0 (RefusalCause c.args.self.now c.args.command.now) c.in_ok-refuses.ensures c.if-branch.false

pub returns-clause-ok : goal.returns-clause-ok
returns-clause-ok c =
    let s = c.args.self.now in
    let free = cause_free c.in_ok-refuses.field-0 (RefusalCause s c.args.command.now) c.in_ok-refuses.ensures c.if-branch.false in
    IfOk-weaker c.accept.result (λ (a : StoreAnswer). Gives (ok_reply s c.args.command.now) a c.accept.new.self) (λ (a : StoreAnswer). AnswersCommand s c.args.command.now a c.accept.new.self)
    (λ a gives. accepted s c.accept.new.self c.args.command.now a free gives) c.accept.ensures.ok

pub returns-clause-tellable : goal.returns-clause-tellable
returns-clause-tellable c =
    let s = c.args.self.now in
    let free = cause_free c.in_ok-refuses.field-0 (RefusalCause s c.args.command.now) c.in_ok-refuses.ensures c.if-branch.false in
    told_either s c.accept.new.self c.args.command.now c.accept.result c.requires.tellable c.requires.command
    (IfOk-weaker c.accept.result (λ (a : StoreAnswer). Gives (ok_reply s c.args.command.now) a c.accept.new.self) (λ (a : StoreAnswer). AnswersCommand s c.args.command.now a c.accept.new.self)
    (λ a gives. accepted s c.accept.new.self c.args.command.now a free gives) c.accept.ensures.ok) c.accept.ensures.err
