use Rattle.std.proofs.Common.{◌≡◌, List, ℕ, Bor, map, Result, Ok, Err}
use Rattle.serde_json.specs.Data.{Data}
use Rattle.serde_json.specs.View.{view, members_view}
use Rattle.email_bodies.specs.Asking.{BodyAsk}
use Rattle.email_properties.specs.Wanted.{email_asked}
use Rattle.jmap_arguments.specs.declared.method_error.MethodError.{MethodError}
use Rattle.jmap_arguments.specs.declared.method_error.MethodError.TheVariants.{Memory}
use Rattle.mail_state.specs.History.{MailHistory}
use Rattle.mail_state.specs.State.{ServedState, IsStateOf}
use Rattle.email_bodies.proofs.Joins.{vain_at_once}
use Rattle.email_get.specs.Asked.{FailsAfter}
use Rattle.email_get.specs.EmailParse.{ParseAsked, parse_asked, RepliesEmailParse}
use Rattle.email_get.specs.reading.Gathered.{GatheredBlobs, GathersThese}
use Rattle.email_get.proofs.AskLemmas.{lacks_memory, same_error, vain_after, given_after, refused_after, refused_unasked}
use Rattle.email_get.proofs.ParseLemmas.{parsing_refused, parsing_fails, parsing_due, parsing_shown}
use Rattle.email_get.proofs.parsing.email_parse.Goals as goal

-- what is meant over each history
abbrev Meant : ServedState → List (List ℕ) → Data → List BodyAsk → Result Data MethodError → Type 0
Meant s uploads d asks r = (h : MailHistory) → IsStateOf h s → RepliesEmailParse h uploads d asks r

abbrev nows : List (Bor (List ℕ)) → List (List ℕ)
nows ts = map (λ t. t.now) ts

pub returns-in_err-ids-clause-exact : goal.returns-in_err-ids-clause-exact
returns-in_err-ids-clause-exact g c =
    let s = c.args.state.now in
    let d = view c.args.arguments.now in
    let e = c.in_err-ids.field-0.0 in
    same_error g.B.BodySource.answers g.B.BodySource.lacks Memory view (c.args.bodies.now, c.args.world.now) (c.args.bodies.now, c.args.world.now)
    c.from_residual.result e (Meant s c.args.blobs.now d) c.from_residual.ensures.1
    (refused_unasked g.B.BodySource.answers g.B.BodySource.lacks Memory view (c.args.bodies.now, c.args.world.now) e (parse_asked d ≡ Err e)
    (Meant s c.args.blobs.now d) (parsing_refused s c.args.blobs.now d e) c.in_err-ids.ensures)

pub returns-in_err-once-clause-exact : goal.returns-in_err-once-clause-exact
returns-in_err-once-clause-exact g c =
    lacks_memory g.B.BodySource.answers g.B.BodySource.lacks Memory view (c.args.bodies.now, c.args.world.now) (c.args.bodies.now, c.args.world.now)
    c.from_residual-in_err-once.result (Meant c.args.state.now c.args.blobs.now (view c.args.arguments.now)) c.from_residual-in_err-once.ensures.1
    (vain_at_once g.B.BodySource.answers g.B.BodySource.lacks (FailsAfter (Meant c.args.state.now c.args.blobs.now (view c.args.arguments.now)))
    (c.args.bodies.now, c.args.world.now))

pub returns-in_err-shown-clause-exact : goal.returns-in_err-shown-clause-exact
returns-in_err-shown-clause-exact g c =
    let s = c.args.state.now in
    let d = view c.args.arguments.now in
    let e = c.in_err-shown.field-0.0 in
    let asked = c.in_ok-ids.field-0 in
    let a : ParseAsked = record { ids = nows asked.ids.items; wanted = email_asked asked.wanted } in
    let once = nows c.in_ok-once.once.items in
    same_error g.B.BodySource.answers g.B.BodySource.lacks Memory view (c.args.bodies.now, c.args.world.now) (c.show_blobs.new.bodies, c.show_blobs.new.world)
    c.from_residual-in_err-shown.result e (Meant s c.args.blobs.now d) c.from_residual-in_err-shown.ensures.1
    (refused_after g.B.BodySource.answers g.B.BodySource.lacks Memory view (c.args.bodies.now, c.args.world.now) (c.show_blobs.new.bodies, c.show_blobs.new.world) e
    (Meant s c.args.blobs.now d) (GathersThese s.rows.numbered.rows c.args.blobs.now a.wanted once)
    (λ asks f m. parsing_fails s c.args.blobs.now d a once f asks c.in_ok-ids.ensures c.in_ok-once.ensures m) c.in_err-shown.ensures.shows)

pub returns-in_err-answer_of-clause-exact : goal.returns-in_err-answer_of-clause-exact
returns-in_err-answer_of-clause-exact g c =
    let s = c.args.state.now in
    let d = view c.args.arguments.now in
    let asked = c.in_ok-ids.field-0 in
    let a : ParseAsked = record { ids = nows asked.ids.items; wanted = email_asked asked.wanted } in
    let once = nows c.in_ok-once.once.items in
    let shown = c.in_ok-shown.shown in
    let gathered : GatheredBlobs = record { parsed = members_view shown.parsed.entries; missing = map view shown.missing.items } in
    lacks_memory g.B.BodySource.answers g.B.BodySource.lacks Memory view (c.args.bodies.now, c.args.world.now) (c.show_blobs.new.bodies, c.show_blobs.new.world)
    c.from_residual-in_err-answer_of.result (Meant s c.args.blobs.now (view c.args.arguments.now)) c.from_residual-in_err-answer_of.ensures.1
    (vain_after g.B.BodySource.answers g.B.BodySource.lacks (FailsAfter (Meant s c.args.blobs.now d))
    (λ (asks : List BodyAsk). GathersThese s.rows.numbered.rows c.args.blobs.now a.wanted once asks (Ok gathered))
    (c.args.bodies.now, c.args.world.now) (c.show_blobs.new.bodies, c.show_blobs.new.world)
    (λ asks m. parsing_due s c.args.blobs.now d a once asks c.in_ok-ids.ensures c.in_ok-once.ensures (Ok m.0) m.1) c.in_ok-shown.ensures.shows)

pub returns-clause-exact : goal.returns-clause-exact
returns-clause-exact g c =
    let s = c.args.state.now in
    let d = view c.args.arguments.now in
    let asked = c.in_ok-ids.field-0 in
    let a : ParseAsked = record { ids = nows asked.ids.items; wanted = email_asked asked.wanted } in
    let once = nows c.in_ok-once.once.items in
    let shown = c.in_ok-shown.shown in
    let gathered : GatheredBlobs = record { parsed = members_view shown.parsed.entries; missing = map view shown.missing.items } in
    let value = c.in_ok-answer_of.field-0 in
    given_after g.B.BodySource.answers g.B.BodySource.lacks Memory view (c.args.bodies.now, c.args.world.now) (c.show_blobs.new.bodies, c.show_blobs.new.world) value
    (Meant s c.args.blobs.now d) (λ (asks : List BodyAsk). GathersThese s.rows.numbered.rows c.args.blobs.now a.wanted once asks (Ok gathered))
    (λ asks m. parsing_shown s c.args.blobs.now d a once gathered (view value) asks c.in_ok-ids.ensures c.in_ok-once.ensures c.in_ok-answer_of.ensures m)
    c.in_ok-shown.ensures.shows
