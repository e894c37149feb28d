use Rattle.std.proofs.Common.{◌≡◌, ℕ, false, List, ap, refl, subst, sym, ◌∙◌}
use Rattle.std.proofs.lemmas.Result.{on_ok_weaker}
use Rattle.serde_json.specs.Data.{Data, Members, put}
use Rattle.serde_json.specs.View.{members_view, view}
use Rattle.serde_json.specs.Written.{has_float, members_have_float}
use Rattle.json_texts.proofs.WholeLemmas.{put_whole}
use Rattle.set_jobs.specs.declared.done.SetError.TheVariants.{NotFound}
use Rattle.set_order.specs.reading.Items.{item_data}
use Rattle.set_replies.specs.Emails.{made_data}
use Rattle.set_replies.specs.Lists.{Lists}
use Rattle.set_replies.specs.Refusals.{refusal_data}
use Rattle.set_replies.specs.reading.Listing.{lists_data}
use Rattle.set_replies.proofs.RowLemmas.{mark_found, mark_missed}
use Rattle.set_replies.proofs.WholeLemmas.{created_whole, whole_as, whole_refused}
use Rattle.set_replies.proofs.lists.ReplyLists.put_message.Goals as goal

pub returns-in-None-clause-listed : goal.returns-in-None-clause-listed
returns-in-None-clause-listed c = λ apart. rw (mark_missed c.args.state.now.rows.numbered.rows c.args.mark apart c.in-None.ensures) c.put_refusal.ensures

pub returns-in_ok-value-in-Some-clause-listed : goal.returns-in_ok-value-in-Some-clause-listed
returns-in_ok-value-in-Some-clause-listed c = λ apart.
    let before : Members = members_view c.args.self.now.created.entries in
    let row = c.in-Some.row.now in
    let made : Data = made_data c.args.size (row.number, row) in
    rw (mark_found c.args.state.now.rows.numbered.rows c.args.mark row apart c.in-Some.ensures)
    (on_ok_weaker c.put.result (λ is.
    ap (λ (ms : Members). let l : Lists = record (lists_data c.args.self.now) { created = ms } in l)
    (is ∙ ap (λ (d : Data). put c.key.result.now d before) c.in_ok-value-in-Some.ensures ∙ ap (λ (k : List ℕ). put k made before) c.key.ensures)) c.put.ensures.ok)

pub returns-in-None-clause-whole : goal.returns-in-None-clause-whole
returns-in-None-clause-whole c = λ w.
    on_ok_weaker c.put_refusal.result
    (λ is. whole_as _ _ is (whole_refused (item_data c.args.item.now) (refusal_data NotFound) (lists_data c.args.self.now) refl w)) c.put_refusal.ensures

pub returns-in_ok-value-in-Some-clause-whole : goal.returns-in_ok-value-in-Some-clause-whole
returns-in_ok-value-in-Some-clause-whole c = λ w.
    let before : Members = members_view c.args.self.now.created.entries in
    let whole : has_float (view c.in_ok-value-in-Some.value) ≡ false = ap (λ (d : Data). has_float d) c.in_ok-value-in-Some.ensures in
    on_ok_weaker c.put.result (λ is.
    created_whole (lists_data c.args.self.now) (members_view c.put.new.map.entries)
    (subst (λ (ms : Members). members_have_float ms ≡ false) (sym is) (put_whole c.key.result.now (view c.in_ok-value-in-Some.value) before whole w.created)) w) c.put.ensures.ok
