use Rattle.loose_addresses.proofs.OutsideLemmas.{found_still, found_here, found_fits}
use Rattle.loose_addresses.proofs.outside.with_lump.Goals as goal

pub split_at-requires : goal.split_at-requires
split_at-requires c =
    found_fits c.args.text.now c.requires.lump.0 c.args.lump.now c.in-Some.inner.now c.in-Some.email.now c.in-Some.ensures.1.0 c.args.at c.requires.lump.1
    c.in-Some.ensures.1.1 c.requires.within

pub returns-in-None : goal.returns-in-None
returns-in-None c = λ us j f. found_still c.args.found us c.args.lump.now c.in-None.ensures f

pub returns-in-Some : goal.returns-in-Some
returns-in-Some c = λ us j f.
    found_here us c.args.text.now c.requires.lump.0 c.args.lump.now c.split_at.result.0.now c.in-Some.inner.now c.in-Some.email.now c.in-Some.ensures.1.0 c.args.at c.requires.lump.1 j
    c.in-Some.ensures.0 c.in-Some.ensures.1.1 c.split_at.ensures.front
