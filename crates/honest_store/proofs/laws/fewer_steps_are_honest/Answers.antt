use Rattle.honest_store.specs.Others.{NoStep, OthersStep, StepBesideFolder, StepKeepingNames}
use Rattle.honest_store.proofs.Answered.{honest_wider}
use Rattle.honest_store.proofs.laws.fewer_steps_are_honest.Goals as goal

pub returns : goal.returns
returns c = record {
  none = honest_wider NoStep OthersStep (λ m n step. absurd step);
  beside_folder = λ k. honest_wider (StepBesideFolder k) OthersStep (λ m n step. step.step);
  keeping_names = honest_wider StepKeepingNames OthersStep (λ m n step. step.step);
}
