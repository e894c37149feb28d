-- One client more.
use Rattle.std.proofs.Common.{arith, rules, ◌≡◌, ◌++◌, ◌∷◌, ◌+◌, ◌<◌, ℕ, List, [], length, All, refl, ◌∙◌, ap, subst}
use Rattle.std.proofs.lemmas.List.Elements.{All-append}
use Rattle.std.proofs.lemmas.Grind.{common_steps}
use Rattle.gate_world.specs.Causes.{Faults, RoseBy, no_faults}
use Rattle.gate_world.specs.declared.event.Event.{Event}
use Rattle.gate_machine.specs.Progress.{Bears}
use Rattle.gate_serving.specs.declared.outcomes.ClientOutcome.{ClientOutcome}
use Rattle.gate_serving.specs.declared.outcomes.ClientOutcome.TheVariants as served
use Rattle.gate_serving.specs.declared.door.Door.{Door}
use Rattle.gate_serving.specs.GateState.{GateState}
use Rattle.gate_serving.specs.Requests.{Account}
use Rattle.gate_serving.specs.Run.{Begun, Then, sum_of_faults, IsClient, Ends, NoneLeft, NotAccepted, AddsSegment, RunsTo, IsServingRun}

rose_more : (j k was mid now : ℕ) → RoseBy j was mid → RoseBy k mid now → RoseBy (j + k) was now
rose_more j k was mid now a b = omega arith

rose_none : (was : ℕ) → RoseBy 0 was was
rose_none was = omega arith

bears_none : (f : Faults) → Bears no_faults f f
bears_none f = record { link = rose_none f.link; keep = rose_none f.keep; front = rose_none f.front; say = rose_none f.say }

bears_both : (f g was mid now : Faults) → Bears f was mid → Bears g mid now → Bears (sum_of_faults f g) was now
bears_both f g was mid now a b =
    record {
      link = rose_more f.link g.link was.link mid.link now.link a.link b.link;
      keep = rose_more f.keep g.keep was.keep mid.keep now.keep a.keep b.keep;
      front = rose_more f.front g.front was.front mid.front now.front a.front b.front;
      say = rose_more f.say g.say was.say mid.say now.say a.say b.say;
    }

one_more : {X : Type 0} (xs : List X) (x : X) → length (xs ++ x ∷ []) ≡ length xs + 1
one_more xs x = grind (arith, common_steps)

all_one : (s : ClientOutcome) → IsClient s → All IsClient (s ∷ [])
all_one s here = search rules

-- none yet
pub begun : (door : Door) (account : Account) (s : GateState) (f : Faults) → RunsTo door account s s 0 f f []
begun door account s f = record { went = []; run = Begun; came = search rules; counted = refl; bears = bears_none f }

-- one more that came
pub then_client : {door : Door} {account : Account} {s t u : GateState} {n : ℕ} {was mid now : Faults} {how : ClientOutcome} {xs ys : List Event} {d : Door} {b : Account}
    → d ≡ door → b ≡ account → IsClient how → RunsTo door account s t n was mid xs → AddsSegment d b t u mid now how ys → RunsTo door account s u (n + 1) was now (xs ++ ys)
then_client {door} {account} {s} {t} {u} {was = was} {mid = mid} {now = now} {how = how} {ys = ys} {b = b} here same client r steps =
    let step : AddsSegment door account t u mid now how ys = subst (λ (a : Account). AddsSegment door a t u mid now how ys) same
    (subst (λ (e : Door). AddsSegment e b t u mid now how ys) here steps) in
    record {
      went = r.went ++ how ∷ [];
      run = Then (record { before = t; events = ys; how = how; after = u; segment = step.segment }) r.run;
      came = All-append IsClient r.went (how ∷ []) r.came (all_one how client);
      counted = one_more r.went how ∙ ap (λ (k : ℕ). k + 1) r.counted;
      bears = bears_both _ _ was mid now r.bears step.bears;
    }

-- the last
pub then_last : {door : Door} {account : Account} {s t u : GateState} {n : ℕ} {was mid now : Faults} {how : ClientOutcome} {xs ys : List Event} {d : Door} {b : Account} (most status : ℕ)
    → d ≡ door → b ≡ account → ((went : List ClientOutcome) → All IsClient went → length went ≡ n → Ends most (went ++ how ∷ []) status) → RunsTo door account s t n was mid xs
    → AddsSegment d b t u mid now how ys → IsServingRun door account s u most was now status (xs ++ ys)
then_last {door} {account} {s} {t} {u} {was = was} {mid = mid} {now = now} {how = how} {ys = ys} {b = b} most status here same ends r steps =
    let step : AddsSegment door account t u mid now how ys = subst (λ (a : Account). AddsSegment door a t u mid now how ys) same
    (subst (λ (e : Door). AddsSegment e b t u mid now how ys) here steps) in
    record {
      went = r.went ++ how ∷ [];
      run = Then (record { before = t; events = ys; how = how; after = u; segment = step.segment }) r.run;
      ends = ends r.went r.came r.counted;
      bears = bears_both _ _ was mid now r.bears step.bears;
    }

-- a run ends with status 0 where fewer clients came than may, and no more come
pub none_left : (n most : ℕ) → n < most → (went : List ClientOutcome) → All IsClient went → length went ≡ n → Ends most (went ++ served.NoMore ∷ []) 0
none_left n most less went came counted = NoneLeft went refl came (omega (arith, counted)) refl

-- a run ends with status 6 where fewer clients came than may, and accepting fails
pub not_accepted : (n most : ℕ) → n < most → (went : List ClientOutcome) → All IsClient went → length went ≡ n → Ends most (went ++ served.AcceptFault ∷ []) 6
not_accepted n most less went came counted = NotAccepted went refl came (omega (arith, counted)) refl
