use Rattle.std.proofs.Common.{◌+◌, List, map, drop, get_or, Ok, refl, sym}
use Rattle.std.proofs.lemmas.List.{drop_all, drop_more}
use Rattle.serde_json.specs.View.{view}
use Rattle.email_bodies.specs.Asking.{BodyAsk}
use Rattle.email_properties.specs.Wanted.{email_asked}
use Rattle.jmap_arguments.specs.declared.method_error.MethodError.TheVariants.{Memory}
use Rattle.email_get.specs.EmailGet.{ShowsRow, ShowsEmail}
use Rattle.email_get.specs.Showing.{ShowsAll}
use Rattle.email_bodies.proofs.Joins.{vain_at_once}
use Rattle.email_get.specs.Asked.{FailsAfter}
use Rattle.email_get.proofs.AskLemmas.{lacks_memory, same_error, said_more, refused_after}
use Rattle.email_get.proofs.Due.{due_email}
use Rattle.email_get.proofs.GetLemmas.{seen-add, none_seen, none_whole, more_whole}
use Rattle.email_get.proofs.LoopLemmas.{begins, continues, stops, lacks_after, finishes}
use Rattle.email_get.proofs.NumberLemmas.{row_or_none}
use Rattle.email_get.proofs.emails.emails_at.Goals as goal

pub returns-in_err-list-clause-shows : goal.returns-in_err-list-clause-shows
returns-in_err-list-clause-shows g c =
    lacks_memory g.B.BodySource.answers g.B.BodySource.lacks Memory (λ v. map view v.items) (c.args.bodies.now, c.args.world.now) (c.args.bodies.now, c.args.world.now)
    c.from_residual.result (ShowsAll (ShowsEmail c.args.state.now.rows.numbered.rows (email_asked c.args.wanted.now)) c.args.numbers.now) c.from_residual.ensures.1
    (vain_at_once g.B.BodySource.answers g.B.BodySource.lacks (FailsAfter (ShowsAll
    (ShowsEmail c.args.state.now.rows.numbered.rows (email_asked c.args.wanted.now)) c.args.numbers.now))
    (c.args.bodies.now, c.args.world.now))

pub loop-number-init : goal.loop-number-init
loop-number-init g c = record {
  shown = begins g.B.BodySource.answers g.B.BodySource.lacks (ShowsEmail c.args.state.now.rows.numbered.rows (email_asked c.args.wanted.now)) c.args.numbers.now
      (c.args.bodies.now, c.args.world.now) c.args.numbers.now (map view c.in_ok-list.list.items) refl (none_seen c.in_ok-list.list.items c.in_ok-list.ensures.items);
  whole = none_whole c.in_ok-list.list.items c.in_ok-list.ensures.items;
}

pub unreachable-requires : goal.unreachable-requires
unreachable-requires g c =
    let numbers = c.args.numbers.now in
    let i = c.loop-number.number-index in
    row_or_none c.args.state.now.rows.numbered.rows (get_or numbers i 0) (c.requires i 0 c.loop-number-test.true) c.in_default.ensures

pub returns-in_err-object-clause-shows : goal.returns-in_err-object-clause-shows
returns-in_err-object-clause-shows g c =
    let Shows = ShowsEmail c.args.state.now.rows.numbered.rows (email_asked c.args.wanted.now) in
    let numbers = c.args.numbers.now in
    let i = c.loop-number.number-index in
    let n = get_or numbers i 0 in
    let row = c.in-Some.row.now in
    let e = c.in_err-object.field-0.0 in
    same_error g.B.BodySource.answers g.B.BodySource.lacks Memory (λ v. map view v.items) (c.args.bodies.now, c.args.world.now) (c.row_value.new.bodies, c.row_value.new.world)
    c.from_residual-in_err-object.result e (ShowsAll Shows numbers) c.from_residual-in_err-object.ensures.1
    (stops g.B.BodySource.answers g.B.BodySource.lacks Shows numbers Memory (c.args.bodies.now, c.args.world.now) (c.loop-number.bodies, c.loop-number.world)
    (c.row_value.new.bodies, c.row_value.new.world) (drop i numbers) (drop (i + 1) numbers) n (map view c.loop-number.list.items) e
    (drop_more numbers i 0 c.loop-number-test.true) c.loop-number.invariant.shown
    (refused_after g.B.BodySource.answers g.B.BodySource.lacks Memory view (c.loop-number.bodies, c.loop-number.world) (c.row_value.new.bodies, c.row_value.new.world) e
    (Shows n) (ShowsRow (email_asked c.args.wanted.now) row)
    (λ asks f m. record { row = row; there = sym c.in-Some.ensures; shows = m }) c.in_err-object.ensures.shows))

pub returns-in_err-add_object-clause-shows : goal.returns-in_err-add_object-clause-shows
returns-in_err-add_object-clause-shows g c =
    let Shows = ShowsEmail c.args.state.now.rows.numbered.rows (email_asked c.args.wanted.now) in
    let numbers = c.args.numbers.now in
    let i = c.loop-number.number-index in
    let n = get_or numbers i 0 in
    let row = c.in-Some.row.now in
    let object = view c.in_ok-object.object in
    lacks_memory g.B.BodySource.answers g.B.BodySource.lacks Memory (λ v. map view v.items) (c.args.bodies.now, c.args.world.now) (c.row_value.new.bodies, c.row_value.new.world)
    c.from_residual-in_err-add_object.result (ShowsAll Shows numbers) c.from_residual-in_err-add_object.ensures.1
    (lacks_after g.B.BodySource.answers g.B.BodySource.lacks Shows numbers (c.args.bodies.now, c.args.world.now) (c.loop-number.bodies, c.loop-number.world)
    (c.row_value.new.bodies, c.row_value.new.world) (drop i numbers) (drop (i + 1) numbers) n (map view c.loop-number.list.items)
    (λ (asks : List BodyAsk). ShowsRow (email_asked c.args.wanted.now) row asks (Ok object)) (drop_more numbers i 0 c.loop-number-test.true)
    (λ asks m. due_email c.args.state.now.rows.numbered.rows (email_asked c.args.wanted.now) n asks (Ok object)
    (record { row = row; there = sym c.in-Some.ensures; shows = m })) c.loop-number.invariant.shown c.in_ok-object.ensures.shows)

pub loop-number-preserved : goal.loop-number-preserved
loop-number-preserved g c =
    let Shows = ShowsEmail c.args.state.now.rows.numbered.rows (email_asked c.args.wanted.now) in
    let numbers = c.args.numbers.now in
    let i = c.loop-number.number-index in
    let n = get_or numbers i 0 in
    let row = c.in-Some.row.now in
    let list = c.loop-number.list.items in
    let next = c.add_object.new.list.items in
    let object = c.in_ok-object.object in
    record {
      shown = continues g.B.BodySource.answers g.B.BodySource.lacks Shows numbers (c.args.bodies.now, c.args.world.now) (c.loop-number.bodies, c.loop-number.world)
          (c.row_value.new.bodies, c.row_value.new.world) (drop i numbers) (drop (i + 1) numbers) n (map view list) (map view next) (view object)
          (drop_more numbers i 0 c.loop-number-test.true) (seen-add list next object c.in_ok-add_object.ensures)
          (λ asks m. due_email c.args.state.now.rows.numbered.rows (email_asked c.args.wanted.now) n asks (Ok (view object)) m) c.loop-number.invariant.shown
          (said_more g.B.BodySource.answers g.B.BodySource.lacks (c.loop-number.bodies, c.loop-number.world) (c.row_value.new.bodies, c.row_value.new.world)
          (λ (asks : List BodyAsk). ShowsRow (email_asked c.args.wanted.now) row asks (Ok (view object))) (λ (asks : List BodyAsk). Shows n asks (Ok (view object)))
          (λ asks m. record { row = row; there = sym c.in-Some.ensures; shows = m }) c.in_ok-object.ensures.shows);
      whole = more_whole list next object c.in_ok-add_object.ensures c.loop-number.invariant.whole c.in_ok-object.ensures.whole;
    }

pub returns-clause-shows : goal.returns-clause-shows
returns-clause-shows g c =
    let Shows = ShowsEmail c.args.state.now.rows.numbered.rows (email_asked c.args.wanted.now) in
    let numbers = c.args.numbers.now in
    let i = c.loop-number.number-index in
    finishes g.B.BodySource.answers g.B.BodySource.lacks Shows numbers (c.args.bodies.now, c.args.world.now) (c.loop-number.bodies, c.loop-number.world)
    (drop i numbers) (map view c.loop-number.list.items) (drop_all i numbers c.loop-number-test.false) c.loop-number.invariant.shown
