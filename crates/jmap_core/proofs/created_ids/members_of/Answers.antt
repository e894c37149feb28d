use Rattle.std.proofs.Common.{◌≡◌, [], ◌∷◌, ◌++◌, sym, ap, ◌∙◌, subst, append_assoc}
use Rattle.std.specs.List.Sorted.{IsStrictlySortedBy}
use Rattle.std.specs.Map.{keys_of}
use Rattle.std.specs.String.{string_cmp}
use Rattle.jmap_core.specs.reading.Pairs.{Entry}
use Rattle.jmap_core.proofs.Ids.{put_last}
use Rattle.jmap_core.proofs.created_ids.members_of.Goals as goal

pub loop-creation-preserved : goal.loop-creation-preserved
loop-creation-preserved c =
    let l = c.loop-creation in
    let done = l.invariant.0 in
    let e : Entry = (c.in-Some.creation.now, c.in-Some.id.now) in
    let left = c.next.new.self in
    let all : c.args.ids.now.entries ≡ done ++ e ∷ left = l.invariant.1 ∙ ap (λ es. done ++ es) c.in-Some.ensures.steps in
    let last = put_last done e left (subst (λ es. IsStrictlySortedBy string_cmp (keys_of es)) all c.iter-creation-items.ensures.ordered) in
    let named = c.as_str-in-loop-creation.ensures.value in (
      done ++ e ∷ [],
      all ∙ sym (append_assoc done (e ∷ []) left),
      c.in_ok-put.ensures.ok ∙ rw (named, c.in_ok-id.ensures, c.as_str.ensures, l.invariant.2) last,
    )
