use Rattle.std.proofs.Common.{arith, ◌++◌, decimal}
use Rattle.message_blobs.proofs.NumberLemmas.{none_given, rest_shorter, split_at_mark, begins_with_mark, number_split, one_split, number_here}
use Rattle.message_blobs.proofs.leaf_numbers.number_at.Goals as goal

pub returns-in_err-digits-clause-number : goal.returns-in_err-digits-clause-number
returns-in_err-digits-clause-number c = none_given c.from_residual.result _ _ c.from_residual.ensures
    (λ n x rest w i. c.in_err-digits.ensures (decimal n ++ rest) (begins_with_mark c.args.text.now n x rest w i))

pub overflow_sub-text : goal.overflow_sub-text
overflow_sub-text c = let s = rest_shorter c.args.text.now c.in_ok-digits.digits.now c.cut.result.1.now c.in_ok-digits.ensures c.cut.ensures.back in omega arith

pub returns-in_err-number-clause-number : goal.returns-in_err-number-clause-number
returns-in_err-number-clause-number c =
    let t = c.args.text.now in
    let d = c.in_ok-digits.digits.now in
    let leaf = c.split_at.result.0.now in
    let behind = c.split_at.result.1.now in
    let cut = split_at_mark t d c.cut.result.1.now leaf behind c.in_ok-digits.ensures c.cut.ensures.back c.split_at.ensures.front c.split_at.ensures.back in
    none_given c.from_residual-in_err-number.result _ _ c.from_residual-in_err-number.ensures
    (λ n x rest w i. c.in_err-number.ensures n i.fits (number_split t d leaf behind c.in_ok-digits.ensures cut n x rest w i))

pub returns-then-number-eq0-clause-number : goal.returns-then-number-eq0-clause-number
returns-then-number-eq0-clause-number c = λ n x rest w i.
    let t = c.args.text.now in
    let d = c.in_ok-digits.digits.now in
    let leaf = c.split_at.result.0.now in
    let cut = split_at_mark t d c.cut.result.1.now leaf c.split_at.result.1.now c.in_ok-digits.ensures c.cut.ensures.back c.split_at.ensures.front c.split_at.ensures.back in
    let read = c.in_ok-number.ensures in
    let same = one_split c.in_ok-number.number n leaf (omega arith) i.fits read (number_split t d leaf c.split_at.result.1.now c.in_ok-digits.ensures cut n x rest w i) in
    omega (arith, same, i.some, c.if-number-eq0.true)

pub returns-clause-number : goal.returns-clause-number
returns-clause-number c =
    let t = c.args.text.now in
    let d = c.in_ok-digits.digits.now in
    let leaf = c.split_at.result.0.now in
    let cut = split_at_mark t d c.cut.result.1.now leaf c.split_at.result.1.now c.in_ok-digits.ensures c.cut.ensures.back c.split_at.ensures.front c.split_at.ensures.back in
    let read = c.in_ok-number.ensures in
    number_here t d leaf c.split_at.result.1.now c.in_ok-number.number c.in_ok-digits.ensures cut read (omega (arith, c.if-number-eq0.false)) (omega arith)

pub returns-clause-shorter : goal.returns-clause-shorter
returns-clause-shorter c =
    let t = c.args.text.now in
    let d = c.in_ok-digits.digits.now in
    let leaf = c.split_at.result.0.now in
    let behind = c.split_at.result.1.now in
    let cut = split_at_mark t d c.cut.result.1.now leaf behind c.in_ok-digits.ensures c.cut.ensures.back c.split_at.ensures.front c.split_at.ensures.back in
    rest_shorter t d behind c.in_ok-digits.ensures cut.back
