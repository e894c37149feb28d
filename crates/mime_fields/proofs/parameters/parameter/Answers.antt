use Rattle.std.proofs.Common.{ℕ, List, Bor, Option, None, subst}
use Rattle.std.specs.Prelude.{MatchOption}
use Rattle.mime_fields.specs.Parameters.{IsOther, NoPiece}
use Rattle.mime_fields.specs.reading.ParameterSteps.{IsNamed}
use Rattle.mime_fields.proofs.ParameterLemmas.{FirstSoFar, first_at, first_behind}
use Rattle.mime_fields.proofs.parameters.parameter.Goals as goal

pub returns-in-Some-2 : goal.returns-in-Some-2
returns-in-Some-2 c =
    let S : Option (Bor (List ℕ)) → Type 0 = λ r. FirstSoFar c.args.name.now r c.args.after_first in
    let V : Option (List ℕ) → Type 0 = λ v.
    MatchOption v (IsOther c.args.name.now c.next_piece.result.0.now) (λ (b : List ℕ). IsNamed c.args.name.now b c.next_piece.result.0.now) in
    first_at c.args.name.now c.next_piece.result.0.now c.in-Some-2.value c.in-Some.text c.next_piece.result.1 c.args.after_first
    (subst S c.in-Some.is c.loop-rest.invariant.so_far) c.next_piece.ensures.piece (subst V c.in-Some-2.is c.in_ok-value.ensures)

pub loop-rest-preserved : goal.loop-rest-preserved
loop-rest-preserved c =
    let S : Option (Bor (List ℕ)) → Type 0 = λ r. FirstSoFar c.args.name.now r c.args.after_first in
    let V : Option (List ℕ) → Type 0 = λ v.
    MatchOption v (IsOther c.args.name.now c.next_piece.result.0.now) (λ (b : List ℕ). IsNamed c.args.name.now b c.next_piece.result.0.now) in
    record {
      tell = c.next_piece.ensures.closings;
      so_far = first_behind c.args.name.now c.next_piece.result.0.now c.in-Some.text c.next_piece.result.1 c.args.after_first
          (subst S c.in-Some.is c.loop-rest.invariant.so_far) c.next_piece.ensures.piece (subst V c.in_default-2.is c.in_ok-value.ensures);
    }

pub returns : goal.returns
returns c =
    let S : Option (Bor (List ℕ)) → Type 0 = λ r. FirstSoFar c.args.name.now r c.args.after_first in
    subst S c.in_default.is c.loop-rest.invariant.so_far None NoPiece
