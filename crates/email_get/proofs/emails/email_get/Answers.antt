use Rattle.std.proofs.Common.{◌≡◌, List, map, Result, Ok, Err}
use Rattle.std.specs.Map.{keys_of}
use Rattle.serde_json.specs.Data.{Data}
use Rattle.serde_json.specs.View.{view}
use Rattle.email_bodies.specs.Asking.{BodyAsk}
use Rattle.email_properties.specs.Wanted.{email_asked}
use Rattle.jmap_arguments.specs.declared.method_error.MethodError.{MethodError}
use Rattle.jmap_arguments.specs.declared.method_error.MethodError.TheVariants.{Memory}
use Rattle.mail_state.specs.History.{MailHistory}
use Rattle.mail_state.specs.State.{ServedState, IsStateOf}
use Rattle.email_get.specs.Asked.{FailsAfter}
use Rattle.email_get.specs.EmailGet.{EmailsAsked, emails_asked, ShowsEmail, RepliesEmailGet}
use Rattle.email_get.specs.Showing.{ShowsAll}
use Rattle.email_get.specs.declared.emails.AskedEmails.{AskedEmails}
use Rattle.email_get.proofs.AskLemmas.{lacks_memory, same_error, vain_after, given_after, refused_after, refused_unasked}
use Rattle.email_get.proofs.GetLemmas.{emails_text, get_refused, get_fails, get_due, get_shown, get_whole}
use Rattle.email_get.proofs.emails.email_get.Goals as goal

-- what the code's value stands for
abbrev meant_by : AskedEmails → EmailsAsked
meant_by a = record {
  asked = record { numbers = a.asked.numbers.items; missing = map (λ t. t.now) a.asked.missing.items };
  wanted = email_asked a.wanted;
}

-- what is meant over each history
abbrev Meant : ServedState → Data → List BodyAsk → Result Data MethodError → Type 0
Meant s d asks r = (h : MailHistory) → IsStateOf h s → RepliesEmailGet h d asks r

pub returns-in_err-asked-clause-exact : goal.returns-in_err-asked-clause-exact
returns-in_err-asked-clause-exact g c =
    let s = c.args.state.now in
    let d = view c.args.arguments.now in
    let e = c.in_err-asked.field-0.0 in
    same_error g.B.BodySource.answers g.B.BodySource.lacks Memory view (c.args.bodies.now, c.args.world.now) (c.args.bodies.now, c.args.world.now)
    c.from_residual.result e (Meant s d) c.from_residual.ensures.1
    (refused_unasked g.B.BodySource.answers g.B.BodySource.lacks Memory view (c.args.bodies.now, c.args.world.now) e (emails_asked (keys_of s.rows.numbered.rows) d ≡ Err e)
    (Meant s d) (get_refused s d e) c.in_err-asked.ensures.asked)

pub returns-in_err-list-clause-exact : goal.returns-in_err-list-clause-exact
returns-in_err-list-clause-exact g c =
    let s = c.args.state.now in
    let d = view c.args.arguments.now in
    let e = c.in_err-list.field-0.0 in
    let a = meant_by c.in_ok-asked.field-0 in
    same_error g.B.BodySource.answers g.B.BodySource.lacks Memory view (c.args.bodies.now, c.args.world.now) (c.emails_at.new.bodies, c.emails_at.new.world)
    c.from_residual-in_err-list.result e (Meant s d) c.from_residual-in_err-list.ensures.1
    (refused_after g.B.BodySource.answers g.B.BodySource.lacks Memory view (c.args.bodies.now, c.args.world.now) (c.emails_at.new.bodies, c.emails_at.new.world) e (Meant s d)
    (ShowsAll (ShowsEmail s.rows.numbered.rows a.wanted) c.as_slice.result.now)
    (λ asks f m. get_fails s d a c.as_slice.result.now f asks c.in_ok-asked.ensures.asked c.as_slice.ensures.value m) c.in_err-list.ensures.shows)

pub returns-in_err-answer_of-clause-exact : goal.returns-in_err-answer_of-clause-exact
returns-in_err-answer_of-clause-exact g c =
    let s = c.args.state.now in
    let d = view c.args.arguments.now in
    let a = meant_by c.in_ok-asked.field-0 in
    let list = map view c.in_ok-list.list.items in
    lacks_memory g.B.BodySource.answers g.B.BodySource.lacks Memory view (c.args.bodies.now, c.args.world.now) (c.emails_at.new.bodies, c.emails_at.new.world)
    c.from_residual-in_err-answer_of.result (Meant s d) c.from_residual-in_err-answer_of.ensures.1
    (vain_after g.B.BodySource.answers g.B.BodySource.lacks (FailsAfter (Meant s d))
    (λ (asks : List BodyAsk). ShowsAll (ShowsEmail s.rows.numbered.rows a.wanted) c.as_slice.result.now asks (Ok list)) (c.args.bodies.now, c.args.world.now)
    (c.emails_at.new.bodies, c.emails_at.new.world)
    (λ asks m. get_due s d a c.as_slice.result.now asks c.in_ok-asked.ensures.asked c.as_slice.ensures.value (Ok list) m) c.in_ok-list.ensures.shows)

pub returns-clause-exact : goal.returns-clause-exact
returns-clause-exact g c =
    let s = c.args.state.now in
    let d = view c.args.arguments.now in
    let list = map view c.in_ok-list.list.items in
    let value = c.in_ok-answer_of.field-0 in
    let a = meant_by c.in_ok-asked.field-0 in
    given_after g.B.BodySource.answers g.B.BodySource.lacks Memory view (c.args.bodies.now, c.args.world.now) (c.emails_at.new.bodies, c.emails_at.new.world) value (Meant s d)
    (λ (asks : List BodyAsk). ShowsAll (ShowsEmail s.rows.numbered.rows a.wanted) c.as_slice.result.now asks (Ok list))
    (λ asks m. get_shown s d a c.as_slice.result.now list (view value) asks c.in_ok-asked.ensures.asked c.as_slice.ensures.value c.in_ok-answer_of.ensures m)
    c.in_ok-list.ensures.shows

pub returns-clause-whole : goal.returns-clause-whole
returns-clause-whole g c =
    get_whole (emails_text c.args.state.now) (map view c.in_ok-list.list.items) (map (λ t. t.now) c.in_ok-asked.field-0.asked.missing.items) (view c.in_ok-answer_of.field-0)
    c.in_ok-answer_of.ensures c.in_ok-list.ensures.whole
