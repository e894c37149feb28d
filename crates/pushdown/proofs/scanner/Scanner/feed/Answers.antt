use Rattle.std.proofs.Common.{List, ℕ, ◌++◌, ap, ◌∙◌}
use Rattle.pushdown.proofs.ScannerLemmas.{answered, up_to, all_fed, next_fed, fed_proper}
use Rattle.pushdown.proofs.scanner.Scanner.feed.Goals as goal

pub returns-in_default-clause-answer : goal.returns-in_default-clause-answer
returns-in_default-clause-answer g c =
    let machine = g.S.Symbol.automaton in
    let laws = c.feeding.invariant.laws in
    λ b f.
    let here = c.feeding.invariant.fed b f in
    let s = c.take_many-octets.new.self in
    let skipped = up_to machine laws c.feeding.self c.skip-skipped.new.self b c.args.piece.now c.feeding.rest.now c.skip-skipped.result.now here
    (c.skip-skipped.ensures.fed (b ++ here.front) here.fed) in
    let at = up_to machine laws c.skip-skipped.new.self s b c.args.piece.now c.skip-skipped.result.now c.take_many-octets.result.now skipped
    (c.take_many-octets.ensures.fed (b ++ skipped.front) skipped.fed) in
    fed_proper machine laws s (b ++ c.args.piece.now) (all_fed machine laws s b c.args.piece.now c.take_many-octets.result.now at c.in_default.ensures.cases)

pub returns-in_default-clause-more : goal.returns-in_default-clause-more
returns-in_default-clause-more g c =
    let machine = g.S.Symbol.automaton in
    let laws = c.feeding.invariant.laws in
    λ b f e.
    let here = c.feeding.invariant.fed b f in
    let s = c.take_many-octets.new.self in
    let skipped = up_to machine laws c.feeding.self c.skip-skipped.new.self b c.args.piece.now c.feeding.rest.now c.skip-skipped.result.now here
    (c.skip-skipped.ensures.fed (b ++ here.front) here.fed) in
    let at = up_to machine laws c.skip-skipped.new.self s b c.args.piece.now c.skip-skipped.result.now c.take_many-octets.result.now skipped
    (c.take_many-octets.ensures.fed (b ++ skipped.front) skipped.fed) in
    all_fed machine laws s b c.args.piece.now c.take_many-octets.result.now at c.in_default.ensures.cases

pub returns-in_default-answer : goal.returns-in_default-answer
returns-in_default-answer g c =
    let machine = g.S.Symbol.automaton in
    let laws = c.feeding.invariant.laws in
    record {
      answer = λ b f.
          let here = c.feeding.invariant.fed b f in
          let s = c.take_many-octets.new.self in
          let skipped = up_to machine laws c.feeding.self c.skip-skipped.new.self b c.args.piece.now c.feeding.rest.now c.skip-skipped.result.now here
          (c.skip-skipped.ensures.fed (b ++ here.front) here.fed) in
          let at = up_to machine laws c.skip-skipped.new.self s b c.args.piece.now c.skip-skipped.result.now c.take_many-octets.result.now skipped
          (c.take_many-octets.ensures.fed (b ++ skipped.front) skipped.fed) in
          let piece = at.whole ∙ ap (λ (u : List ℕ). at.front ++ u) c.in-Some.ensures.cases.0 in
          answered machine laws b c.args.piece.now at.front c.in-Some.after.now c.in-Some.octet.now s c.take-answer.new.self c.take-answer.result piece at.fed
          (c.take-answer.ensures (b ++ at.front) at.fed) c.in_default-answer.not-NeedMore;
      more = λ b f e. absurd (c.in_default-answer.not-NeedMore e);
    }

pub feeding-preserved : goal.feeding-preserved
feeding-preserved g c =
    let machine = g.S.Symbol.automaton in
    let laws = c.feeding.invariant.laws in
    record {
      laws = laws;
      fed = λ b f.
          let here = c.feeding.invariant.fed b f in
          let s = c.take_many-octets.new.self in
          let skipped = up_to machine laws c.feeding.self c.skip-skipped.new.self b c.args.piece.now c.feeding.rest.now c.skip-skipped.result.now here
          (c.skip-skipped.ensures.fed (b ++ here.front) here.fed) in
          let at = up_to machine laws c.skip-skipped.new.self s b c.args.piece.now c.skip-skipped.result.now c.take_many-octets.result.now skipped
          (c.take_many-octets.ensures.fed (b ++ skipped.front) skipped.fed) in
          up_to machine laws s c.take-answer.new.self b c.args.piece.now c.take_many-octets.result.now c.in-Some.after.now at
          (next_fed machine laws c.take-answer.new.self b at.front c.take_many-octets.result.now c.in-Some.after.now c.in-Some.octet.now c.in-Some.ensures.cases.0
          (c.in-NeedMore.ensures (b ++ at.front) at.fed));
    }
