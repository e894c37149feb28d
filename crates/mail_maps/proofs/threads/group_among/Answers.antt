use Rattle.std.proofs.Common.{◌∙◌, sym, ap, nat_cmp}
use Rattle.std.specs.BTreeMap.{get}
use Rattle.mail_maps.specs.Rows.{Rows}
use Rattle.mail_maps.specs.reading.Groups.{keys_at, grouped, pairs_among}
use Rattle.mail_maps.proofs.GroupLemmas.{grouped_next, grouped_end}
use Rattle.mail_maps.proofs.threads.group_among.Goals as goal

pub loop-number-preserved : goal.loop-number-preserved
loop-number-preserved c = λ t.
    grouped_next c.args.among.now (c.in-Some.number.now, c.in-Some.row.now) c.next.new.self t (keys_at (get nat_cmp c.loop-number.groups t)) _ (c.in_ok-put_among.ensures t)
    ∙ ap (λ (es : Rows). grouped (keys_at (get nat_cmp c.loop-number.groups t)) (pairs_among c.args.among.now es t)) (sym c.in-Some.ensures.steps)
    ∙ c.loop-number.invariant t

pub returns : goal.returns
returns c = λ t.
    sym (grouped_end c.args.among.now t (keys_at (get nat_cmp c.loop-number.groups t)))
    ∙ ap (λ (es : Rows). grouped (keys_at (get nat_cmp c.loop-number.groups t)) (pairs_among c.args.among.now es t)) (sym c.in-None.ensures.steps.0)
    ∙ c.loop-number.invariant t
