use Rattle.std.proofs.Common.{◌≡◌, ◌+◌, cond, is_some, Some, refl, sym, ap, ◌∙◌, arith, nat_cmp}
use Rattle.std.specs.BTreeMap.{get, btree_map_len, is_at}
use Rattle.change_list.proofs.Gathering.{so_far_next, stopped, room_for, entry_here}
use Rattle.change_list.proofs.walk.gather.Goals as goal

pub returns-then-is_past : goal.returns-then-is_past
returns-then-is_past c =
    let e = c.in-Some.entry.now in
    let here = entry_here c.args.ring.now.items c.args.start c.loop-i.i c.loop-i.taken e c.loop-i.invariant.place c.in-Some.ensures in
    let past = c.if-is_past.ensures.0 refl in
    let is : c.copied-known.result ≡ get nat_cmp c.loop-i.seen e.id = c.copied-known.ensures ∙ c.get-in-loop-i.ensures.value in
    stopped _ _ _ _ e past.0 here (sym is ∙ past.1) past.2 (omega (arith, past.3, c.len.ensures.len)) c.loop-i.invariant.so_far

pub loop-i-preserved : goal.loop-i-preserved
loop-i-preserved c =
    let known = c.copied-known.result in
    let e = c.in-Some.entry.now in
    let m = c.loop-i.seen in
    let here = entry_here c.args.ring.now.items c.args.start c.loop-i.i c.loop-i.taken e c.loop-i.invariant.place c.in-Some.ensures in
    let is : known ≡ get nat_cmp m e.id = c.copied-known.ensures ∙ c.get-in-loop-i.ensures.value in
    let had : c.in_ok-insert.field-0 ≡ known = c.in_ok-insert.ensures.old ∙ sym is in
    record {
      place = omega arith;
      so_far = so_far_next _ _ m c.insert.new.self _ e known here is
          (λ q. c.in_ok-insert.ensures.updates.0 q ∙ ap (λ v. cond (is_at (nat_cmp e.id) q) (Some v) (get nat_cmp m q)) c.noted.ensures)
          (c.in_ok-insert.ensures.len ∙ ap (λ o. btree_map_len m + cond (is_some o) 0 1) had)
          (λ k x h. omega (arith, room_for known _ _ c.is_past.result c.is_past.ensures.1 c.if-is_past.false k x h, c.len.ensures.len)) c.loop-i.invariant.so_far;
    }
