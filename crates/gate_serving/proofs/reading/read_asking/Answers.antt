use Rattle.std.proofs.Common.{◌≡◌, ◌∙◌, sym, subst}
use Rattle.gate_world.specs.Tape.{Adds}
use Rattle.gate_world.proofs.Joins.{widen}
use Rattle.gate_serving.specs.declared.door.Door.{Door}
use Rattle.gate_serving.specs.declared.door.Door.TheVariants.{Bare, Http}
use Rattle.gate_serving.specs.reading.Askings.{ReadsInto}
use Rattle.gate_serving.proofs.reading.read_asking.Goals as goal

pub returns-in-Bare-clause-tape : goal.returns-in-Bare-clause-tape
returns-in-Bare-clause-tape g c =
    subst (λ (d : Door). Adds (g.W.Taped.tape c.args.world.now) (g.W.Taped.tape c.read_bare.new.front)
    (ReadsInto d (g.W.Taped.hidden c.args.world.now).token c.read_bare.result)) (sym c.in-Bare.is)
    (widen (ReadsInto Bare (g.W.Taped.hidden c.args.world.now).token c.read_bare.result) c.read_bare.ensures.tape
    (λ es so. so (g.W.Taped.hidden c.args.world.now).token))

pub returns-in-Bare-clause-bare : goal.returns-in-Bare-clause-bare
returns-in-Bare-clause-bare g c = λ bare ended. c.read_bare.ensures.whole ended

pub returns-in-Http-clause-bare : goal.returns-in-Http-clause-bare
returns-in-Http-clause-bare g c = λ bare ended. let both : Bare ≡ Http = sym bare ∙ c.in-Http.is in absurd cc
