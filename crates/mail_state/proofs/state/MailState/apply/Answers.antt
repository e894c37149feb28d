use Rattle.std.proofs.Common.{inr, sym, subst}
use Rattle.std.proofs.lemmas.Result.{err_from_is_err_and}
use Rattle.mail_state.specs.declared.touches.Advance.{Advance}
use Rattle.mail_state.specs.History.{MailHistory}
use Rattle.told_mail.specs.Mail.{IsNextMail}
use Rattle.mail_state.specs.State.{ServedState, IsStateOf}
use Rattle.mail_state.specs.Following.{StepsTo, FollowsMail}
use Rattle.mail_state.proofs.FollowLemmas.{state_with, follows, steps_to, if_spent, FindsRoom, has_room, FindsNoRoom, has_no_room}
use Rattle.mail_state.proofs.state.MailState.apply.Goals as goal

pub returns-in_err-lists-clause-spent : goal.returns-in_err-lists-clause-spent
returns-in_err-lists-clause-spent c =
    let s : ServedState = record { epoch = c.self.inside.epoch; rows = c.self.inside.rows; lists = c.self.inside.lists } in
    let S : ServedState → Type 0 = λ x. FindsNoRoom c.in_err-lists.field-0.0 x c.args.mirror.now.mail in
    let is = err_from_is_err_and c.from_residual-in_err-lists.result c.from_residual-in_err-lists.ensures.1 in
    rw (is.1, is.2) (inr (subst S c.self.view_is
    (has_no_room c.in_err-lists.field-0.0 s c.args.mirror.now.mail c.in_ok-rows.rows c.in_ok-rows.touches c.in_ok-rows.ensures c.in_err-lists.ensures.spent)))

pub returns-in_err-lists-clause-spends : goal.returns-in_err-lists-clause-spends
returns-in_err-lists-clause-spends c h stands next =
    let s : ServedState = record { epoch = c.self.inside.epoch; rows = c.self.inside.rows; lists = c.self.inside.lists } in
    let S : ServedState → Type 0 = λ x. IsStateOf h x in
    let is = err_from_is_err_and c.from_residual-in_err-lists.result c.from_residual-in_err-lists.ensures.1 in
    rw (is.1, is.2) (if_spent (Unit {0}) s h c.args.mirror.now.mail c.in_ok-rows.rows c.in_ok-rows.touches c.in_err-lists.field-0.0
    (subst S (sym c.self.view_is) stands) c.in_ok-rows.ensures c.in_err-lists.ensures.spent)

pub returns-clause-steps : goal.returns-clause-steps
returns-clause-steps c =
    let s : ServedState = record { epoch = c.self.inside.epoch; rows = c.self.inside.rows; lists = c.self.inside.lists } in
    let S : ServedState → Type 0 = λ x. StepsTo x c.args.mirror.now.mail (state_with s c.in_ok-rows.rows c.in_ok-lists.lists) in
    subst S c.self.view_is (steps_to s c.args.mirror.now.mail c.in_ok-rows.rows c.in_ok-rows.touches c.in_ok-lists.lists c.in_ok-rows.ensures c.in_ok-lists.ensures.noted)

pub returns-clause-follows : goal.returns-clause-follows
returns-clause-follows c h stands next =
    let s : ServedState = record { epoch = c.self.inside.epoch; rows = c.self.inside.rows; lists = c.self.inside.lists } in
    let S : ServedState → Type 0 = λ x. IsStateOf h x in
    let F : Advance → Type 0 = λ moved. FollowsMail h c.args.mirror.now.mail (state_with s c.in_ok-rows.rows c.in_ok-lists.lists) moved in
    subst F (sym c.moved-moved.ensures)
    (follows s h c.args.mirror.now.mail c.in_ok-rows.rows c.in_ok-rows.touches c.in_ok-lists.lists
    (subst S (sym c.self.view_is) stands) next c.in_ok-rows.ensures c.in_ok-lists.ensures.noted c.in_ok-lists.ensures.spent)

pub returns-clause-spent : goal.returns-clause-spent
returns-clause-spent c =
    let s : ServedState = record { epoch = c.self.inside.epoch; rows = c.self.inside.rows; lists = c.self.inside.lists } in
    let S : ServedState → Type 0 = λ x. FindsRoom x c.args.mirror.now.mail in
    subst S c.self.view_is (has_room s c.args.mirror.now.mail c.in_ok-rows.rows c.in_ok-rows.touches c.in_ok-rows.ensures c.in_ok-lists.ensures.spent)
