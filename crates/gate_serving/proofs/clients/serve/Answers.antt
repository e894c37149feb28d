use Rattle.std.proofs.Common.{arith, rules, sym, subst, ◌∙◌, ◌++◌}
use Rattle.gate_world.proofs.Joins.{join, none}
use Rattle.gate_serving.specs.Run.{IsClient}
use Rattle.gate_serving.proofs.Gates.{same_account, rest_both, rest_none}
use Rattle.gate_serving.proofs.Running.{begun, then_client, then_last, none_left, not_accepted}
use Rattle.gate_serving.proofs.clients.serve.Goals.{in-Whole, in-Part}
use Rattle.gate_serving.proofs.clients.serve.Goals as goal

pub serving-init : goal.serving-init
serving-init g c =
    record {
      run = none _ _ (λ s held. (s, held, begun _ _ s _));
      within = omega arith;
      rest = rest_none _;
      later = search rules;
      hidden = search rules;
    }

pub returns-in-AcceptFault-clause-run : goal.returns-in-AcceptFault-clause-run
returns-in-AcceptFault-clause-run g c =
    join _ c.serving.invariant.run c.in-AcceptFault.ensures.run (λ x y so steps s held.
    let r = so s held in
    let q = steps r.0 r.1 in (
      q.0,
      q.1,
      then_last c.args.most 6 c.serving.invariant.rest.door (same_account c.serving.invariant.rest c.serving.invariant.hidden)
          (not_accepted c.serving.count c.args.most c.serving-test.true) r.2 q.2,
    ))

pub returns-in-NoMore-clause-run : goal.returns-in-NoMore-clause-run
returns-in-NoMore-clause-run g c =
    join _ c.serving.invariant.run c.in-NoMore.ensures.run (λ x y so steps s held.
    let r = so s held in
    let q = steps r.0 r.1 in (
      q.0,
      q.1,
      then_last c.args.most 0 c.serving.invariant.rest.door (same_account c.serving.invariant.rest c.serving.invariant.hidden)
          (none_left c.serving.count c.args.most c.serving-test.true) r.2 q.2,
    ))

pub serving-preserved : goal.serving-preserved
serving-preserved g c =
    let came : IsClient c.answer_one.result = elim c.match-answer_one.branch
    [ in-Whole w ↦ subst IsClient (sym w.in-Whole.is) tt | in-Part w ↦ subst IsClient (sym w.in-Part.is) tt ] in
    record {
      run = join _ c.serving.invariant.run c.answer_one.ensures.run (λ x y so steps s held.
          let r = so s held in
          let q = steps r.0 r.1 in
          (q.0, q.1, then_client c.serving.invariant.rest.door (same_account c.serving.invariant.rest c.serving.invariant.hidden) came r.2 q.2));
      within = omega (arith, c.serving-test.true);
      rest = rest_both c.serving.invariant.rest c.answer_one.ensures.rest;
      later = search rules;
      hidden = c.answer_one.ensures.hidden ∙ c.serving.invariant.hidden;
    }

pub returns-in-AcceptFault-clause-complete : goal.returns-in-AcceptFault-clause-complete
returns-in-AcceptFault-clause-complete g c =
    join _ c.serving.invariant.run c.in-AcceptFault.ensures.run (λ x y so steps. c.obeyed_runs_are_told.ensures _ _ (x ++ y))

pub returns-in-NoMore-clause-complete : goal.returns-in-NoMore-clause-complete
returns-in-NoMore-clause-complete g c = join _ c.serving.invariant.run c.in-NoMore.ensures.run (λ x y so steps. c.obeyed_runs_are_told.ensures _ _ (x ++ y))

pub returns-in-AcceptFault-clause-histories : goal.returns-in-AcceptFault-clause-histories
returns-in-AcceptFault-clause-histories g c = join _ c.serving.invariant.run c.in-AcceptFault.ensures.run (λ x y so steps. c.histories_go_on.ensures _ _ (x ++ y))

pub returns-in-NoMore-clause-histories : goal.returns-in-NoMore-clause-histories
returns-in-NoMore-clause-histories g c = join _ c.serving.invariant.run c.in-NoMore.ensures.run (λ x y so steps. c.histories_go_on.ensures _ _ (x ++ y))

pub returns-in-AcceptFault-clause-rest : goal.returns-in-AcceptFault-clause-rest
returns-in-AcceptFault-clause-rest g c = rest_both c.serving.invariant.rest c.in-AcceptFault.ensures.rest

pub returns-in-NoMore-clause-rest : goal.returns-in-NoMore-clause-rest
returns-in-NoMore-clause-rest g c = rest_both c.serving.invariant.rest c.in-NoMore.ensures.rest
