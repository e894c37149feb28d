use Rattle.std.proofs.Common.{◌≡◌, ℕ, List, ◌∷◌, [], ◌++◌, map, option_map, sym, ap, ◌∙◌}
use Rattle.std.proofs.lemmas.List.{map-append}
use Rattle.serde_json.specs.View.{members_view}
use Rattle.set_arguments.specs.Arguments as spec
use Rattle.set_arguments.specs.declared.asked.Keyed.{Keyed}
use Rattle.set_arguments.specs.reading.Keys.{keyed_data}
use Rattle.set_arguments.proofs.ObjectLemmas.{all_ascend, object_taken}
use Rattle.set_arguments.proofs.arguments.objects_in.Goals as goal

pub loop-key-preserved : goal.loop-key-preserved
loop-key-preserved c =
    let l = c.loop-key in
    let x : Keyed = record { key = c.as_str.result; object = c.in-Some-as_object.object } in
    let more : map keyed_data c.push.new.self.items ≡ map keyed_data l.objects.items ++ keyed_data x ∷ [] =
    ap (λ (xs : List Keyed). map keyed_data xs) c.in_ok-push.ensures.items ∙ map-append keyed_data l.objects.items (x ∷ []) in
    l.invariant
    ∙ object_taken l.key-iterator c.next.new.self (c.in-Some.key.now, c.in-Some.value.now) (members_view c.in-Some-as_object.object.now.entries)
    (map keyed_data l.objects.items) c.in-Some.ensures.steps c.in-Some-as_object.ensures
    ∙ ap (λ (xs : spec.Keyed). option_map (λ (cs : spec.Keyed). xs ++ cs) (spec.objects_in (members_view c.next.new.self)))
    (ap (λ (t : List ℕ). map keyed_data l.objects.items ++ (t, members_view c.in-Some-as_object.object.now.entries) ∷ []) (sym c.as_str.ensures.value) ∙ sym more)

pub returns-clause-ascend : goal.returns-clause-ascend
returns-clause-ascend c =
    all_ascend c.args.members.now.entries c.loop-key.key-iterator (map keyed_data c.loop-key.objects.items) c.iter-key-items.ensures.ordered
    c.loop-key.invariant c.in-None.ensures.steps.0
