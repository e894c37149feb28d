-- Once a round stands there is a link life.
use Rattle.std.proofs.Common.{◌≡◌, ◌⊎◌, ◌∙◌, ℕ, List, refl, sym, ap, subst, inl, inr}
use Rattle.std.specs.Prelude.{IsSome}
use Rattle.gate_world.specs.declared.event.Event.{Event}
use Rattle.gate_machine.specs.Beginning.{PreparesMail, RunsRound, Settles, Same, Moves, Spends, Lacks, Skips}
use Rattle.gate_machine.specs.Machine.{MachineState}
use Rattle.gate_machine.specs.Progress.{Progress}
use Rattle.gate_machine.specs.declared.mail_status.MailFailure.TheVariants.{Spent}
use Rattle.gate_machine.specs.declared.mail_status.MailStatus.TheVariants.{Stands, Unserved, OutOfMemory}

round_life : {before told : Progress} {events : List Event} → RunsRound before events told → IsSome told.left
round_life round = subst (λ (p : Progress). IsSome p.left) (sym round.after_is) refl

asked_life : {before told : Progress} {events : List Event} → Skips before events told ⊎ RunsRound before events told → told.standing ≡ Stands → IsSome told.left
asked_life (inl skips) stood = absurd (skips.0 (ap (λ (p : Progress). p.standing) (sym skips.2) ∙ stood))
asked_life (inr round) stood = round_life round

settled_life : {before after : Progress} {events : List Event} → Settles before events after → after.standing ≡ Stands → (before.standing ≡ Stands → IsSome before.left)
    → IsSome after.left
settled_life (Same k stands ready same none is) stood life = subst (λ (p : Progress). IsSome p.left) (sym is) (life stands)
settled_life (Moves new next goes has none is) stood life = subst (λ (p : Progress). IsSome p.left) (sym is) (life new.stands)
settled_life (Spends new spent none is) stood life = absurd (let both : Unserved Spent ≡ Stands = sym (ap (λ (p : Progress). p.standing) is) ∙ stood in cc)
settled_life (Lacks stands none is) stood life = absurd (let both : OutOfMemory ≡ Stands = sym (ap (λ (p : Progress). p.standing) is) ∙ stood in cc)

told_life : {before told after : Progress} {asking settling : List Event} → Skips before asking told ⊎ RunsRound before asking told
    → Skips told settling after ⊎ Settles told settling after → after.standing ≡ Stands → IsSome after.left
told_life asks (inl skips) stood = absurd (skips.0 (ap (λ (p : Progress). p.standing) (sym skips.2) ∙ stood))
told_life asks (inr settles) stood = settled_life settles stood (asked_life asks)

pub has_life : {user password : List ℕ} {before : MachineState} {events : List Event} {after : Progress} → PreparesMail user password before events after
    → after.standing ≡ Stands → IsSome after.left
has_life prepares stood = told_life prepares.asks.asks prepares.asks.settles stood
