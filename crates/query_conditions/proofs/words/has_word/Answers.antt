use Rattle.std.proofs.Common.{◌≡◌, ◌<◌, Bool, true, false, refl, arith}
use Rattle.query_conditions.proofs.WordLemmas.{StandsAt, found_at, place_of}
use Rattle.query_conditions.proofs.words.has_word.Goals as goal

pub returns-then-same_text : goal.returns-then-same_text
returns-then-same_text c = (λ t. found_at c.args.word.now c.args.text.now c.loop-at.at (c.same_text.ensures.same.0 c.if-same_text.true), λ h. refl)

pub returns : goal.returns
returns c = (
  λ t. absurd (let f : false ≡ true = t in cc),
  λ h.
      let place : StandsAt c.args.word.now c.args.text.now = place_of c.args.word.now c.args.text.now h in
      absurd (c.loop-at.invariant place.at (omega (arith, place.within, c.loop-at-test.false)) place.same),
)
