use Rattle.std.proofs.Common.{◌≡◌, ℤ, w32, Some, sym, subst}
use Rattle.std.proofs.lemmas.Int.{to_z-of_z}
use Rattle.header_dates.specs.Dates as dates
use Rattle.zoned_moments.proofs.GivenLemmas.{zoned}
use Rattle.zoned_moments.proofs.moments.zoned_moment.Goals as goal

pub invariant_of-result : goal.invariant_of-result
invariant_of-result c =
    let m = c.in_ok-moment.moment in
    record {
      zoned = zoned c.args.day c.args.clock c.args.zone m c.requires.west c.requires.east
          (subst (λ (z : ℤ). dates.moment_of c.args.day c.args.clock z ≡ Some m) (to_z-of_z w32 c.args.zone c.ranges.zone) (sym c.in_ok-moment.ensures.value));
    }
