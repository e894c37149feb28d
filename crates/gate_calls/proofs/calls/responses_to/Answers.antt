use Rattle.std.proofs.Common.{arith, rules, ◌≡◌, ◌<◌, ◌+◌, ◌++◌, ◌∷◌, ℕ, List, [], length, map, take, drop, get_or, refl, sym, ◌∙◌, ap, subst, Ok}
use Rattle.std.proofs.lemmas.List.{take_more, take-append-drop}
use Rattle.std.proofs.lemmas.Result.{err_from_is_err_and}
use Rattle.result_references.specs.Call.{call_data}
use Rattle.result_references.specs.declared.call.Call.{Call}
use Rattle.gate_calls.specs.Sources.{CallLacks}
use Rattle.gate_calls.specs.reading.Responding.{Responds}
use Rattle.gate_calls.proofs.Calling.{all_more, lacks_after, lacks_in, makes_none, none_yet, one_answered}
use Rattle.gate_calls.proofs.calls.responses_to.Goals as goal

-- the calls before one, that one, and those after it
around : (calls : List Call) (i : ℕ) (call : Call) → i < length calls → call ≡ get_or calls i call → calls ≡ (take i calls ++ call ∷ []) ++ drop (i + 1) calls
around calls i call within is =
    sym (take-append-drop (i + 1) calls)
    ∙ ap (λ (cs : List Call). cs ++ drop (i + 1) calls) (take_more calls i call within ∙ ap (λ (x : Call). take i calls ++ x ∷ []) (sym is))

pub returns-in_err-responses-clause-meant : goal.returns-in_err-responses-clause-meant
returns-in_err-responses-clause-meant g c =
    let A = g.C.CallSource.answers c.args.uploads.now in
    let L = g.C.CallSource.lacks c.args.uploads.now in
    let ends = err_from_is_err_and c.from_residual.result c.from_residual.ensures.1 in
    makes_none A L c.args.uses _ ((c.args.source.now, c.args.world.now), c.args.created.now) ((c.args.source.now, c.args.world.now), c.args.created.now) _ c.from_residual.result ends.0 ends.1
    (lacks_after A L c.args.uses ((c.args.source.now, c.args.world.now), c.args.created.now) ((c.args.source.now, c.args.world.now), c.args.created.now) [] c.args.calls.now c.args.calls.now [] refl
    (none_yet A L c.args.uses ((c.args.source.now, c.args.world.now), c.args.created.now) [] refl))

pub loop-call-init : goal.loop-call-init
loop-call-init g c =
    record {
      meant = none_yet (g.C.CallSource.answers c.args.uploads.now) (g.C.CallSource.lacks c.args.uploads.now) c.args.uses ((c.args.source.now, c.args.world.now), c.args.created.now) _
          c.in_ok-responses.ensures.items;
      whole = search rules;
    }

pub returns-in_err-response-clause-meant : goal.returns-in_err-response-clause-meant
returns-in_err-response-clause-meant g c =
    let A = g.C.CallSource.answers c.args.uploads.now in
    let L = g.C.CallSource.lacks c.args.uploads.now in
    let ends = err_from_is_err_and c.from_residual-in_err-response.result c.from_residual-in_err-response.ensures.1 in
    let l = c.loop-call in
    let calls : List Call = c.args.calls.now in
    let i : ℕ = l.call-index in
    let call : Call = c.call-item.result in
    let within : i < length calls = omega (arith, c.loop-call-test.true) in
    let lacks : CallLacks A L c.args.uses (map call_data l.responses.items) (call_data call) ((l.source, l.world), l.created) ((c.response_to.new.source, c.response_to.new.world), c.response_to.new.created) =
    subst (λ (rs : List Call). CallLacks A L c.args.uses (map call_data rs) (call_data call) ((l.source, l.world), l.created) ((c.response_to.new.source, c.response_to.new.world), c.response_to.new.created)) c.as_slice.ensures.value
    c.in_err-response.ensures.meant in
    makes_none A L c.args.uses _ ((c.args.source.now, c.args.world.now), c.args.created.now) ((c.response_to.new.source, c.response_to.new.world), c.response_to.new.created) _ c.from_residual-in_err-response.result ends.0 ends.1
    (lacks_in A L c.args.uses ((c.args.source.now, c.args.world.now), c.args.created.now) ((l.source, l.world), l.created) ((c.response_to.new.source, c.response_to.new.world), c.response_to.new.created) (take i calls) (drop (i + 1) calls) calls l.responses.items call
    (around calls i call within c.call-item.is) l.invariant.meant lacks)

pub returns-in_err-push-clause-meant : goal.returns-in_err-push-clause-meant
returns-in_err-push-clause-meant g c =
    let A = g.C.CallSource.answers c.args.uploads.now in
    let L = g.C.CallSource.lacks c.args.uploads.now in
    let ends = err_from_is_err_and c.from_residual-in_err-push.result c.from_residual-in_err-push.ensures.1 in
    let l = c.loop-call in
    let calls : List Call = c.args.calls.now in
    let i : ℕ = l.call-index in
    let call : Call = c.call-item.result in
    let response = c.in_ok-response.response in
    let within : i < length calls = omega (arith, c.loop-call-test.true) in
    let next : Responds A L c.args.uses (map call_data l.responses.items) (call_data call) ((l.source, l.world), l.created) ((c.response_to.new.source, c.response_to.new.world), c.response_to.new.created) (Ok response) =
    subst (λ (rs : List Call). Responds A L c.args.uses (map call_data rs) (call_data call) ((l.source, l.world), l.created) ((c.response_to.new.source, c.response_to.new.world), c.response_to.new.created) (Ok response)) c.as_slice.ensures.value
    c.in_ok-response.ensures.meant in
    makes_none A L c.args.uses _ ((c.args.source.now, c.args.world.now), c.args.created.now) ((c.response_to.new.source, c.response_to.new.world), c.response_to.new.created) _ c.from_residual-in_err-push.result ends.0 ends.1
    (lacks_after A L c.args.uses ((c.args.source.now, c.args.world.now), c.args.created.now) ((c.response_to.new.source, c.response_to.new.world), c.response_to.new.created) (take i calls ++ call ∷ []) (drop (i + 1) calls) calls (l.responses.items ++ response ∷ [])
    (around calls i call within c.call-item.is)
    (one_answered A L c.args.uses ((c.args.source.now, c.args.world.now), c.args.created.now) ((l.source, l.world), l.created) ((c.response_to.new.source, c.response_to.new.world), c.response_to.new.created) (take i calls) (take i calls ++ call ∷ []) l.responses.items
    (l.responses.items ++ response ∷ []) call response l.invariant.meant next refl refl))

pub loop-call-preserved : goal.loop-call-preserved
loop-call-preserved g c =
    let A = g.C.CallSource.answers c.args.uploads.now in
    let L = g.C.CallSource.lacks c.args.uploads.now in
    let l = c.loop-call in
    let calls : List Call = c.args.calls.now in
    let i : ℕ = l.call-index in
    let call : Call = c.call-item.result in
    let within : i < length calls = omega (arith, c.loop-call-test.true) in
    let now_is : take (i + 1) calls ≡ take i calls ++ call ∷ [] = take_more calls i call within ∙ ap (λ (x : Call). take i calls ++ x ∷ []) (sym c.call-item.is) in
    let next : Responds A L c.args.uses (map call_data l.responses.items) (call_data call) ((l.source, l.world), l.created) ((c.response_to.new.source, c.response_to.new.world), c.response_to.new.created) (Ok c.in_ok-response.response) =
    subst (λ (rs : List Call). Responds A L c.args.uses (map call_data rs) (call_data call) ((l.source, l.world), l.created) ((c.response_to.new.source, c.response_to.new.world), c.response_to.new.created) (Ok c.in_ok-response.response)) c.as_slice.ensures.value
    c.in_ok-response.ensures.meant in
    record {
      meant = one_answered A L c.args.uses ((c.args.source.now, c.args.world.now), c.args.created.now) ((l.source, l.world), l.created) ((c.response_to.new.source, c.response_to.new.world), c.response_to.new.created) (take i calls) (take (i + 1) calls) l.responses.items
          c.push.new.self.items call c.in_ok-response.response l.invariant.meant next now_is c.in_ok-push.ensures.items;
      whole = all_more l.responses.items c.push.new.self.items c.in_ok-response.response c.in_ok-push.ensures.items l.invariant.whole c.in_ok-response.ensures.whole;
    }
