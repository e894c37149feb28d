use Rattle.std.proofs.Common.{arith, ◌≡◌, length, eqb, eqb-true, true, false}
use Rattle.std.proofs.lemmas.List.{nil_from_length}
use Rattle.text_words.proofs.SequenceLemmas.{all_done, no_more}
use Rattle.message_blobs.proofs.NumberLemmas.{none_given, few_read, few_more, none_read, one_read, some_left, too_many}
use Rattle.message_blobs.proofs.leaf_numbers.numbers_in.Goals as goal

pub loop-rest-init : goal.loop-rest-init
loop-rest-init c = record {
  behind = none_read c.new-numbers.result.items c.args.text.now c.new-numbers.ensures;
  few = few_read c.new-numbers.result.items c.new-numbers.ensures;
}

pub returns-then-is_full : goal.returns-then-is_full
returns-then-is_full c = λ all few s.
    let some : eqb (length c.loop-rest.rest.now) 0 ≡ false = cc in
    let full : eqb (length c.loop-rest.numbers.items) 8 ≡ true = cc in
    let eight = eqb-true (length c.loop-rest.numbers.items) 8 full in
    too_many c.loop-rest.numbers.items c.loop-rest.rest.now c.args.text.now c.loop-rest.invariant.behind (some_left c.loop-rest.rest.now some) all (omega (arith, few, eight)) s

pub returns-in_err-number : goal.returns-in_err-number
returns-in_err-number c =
    let some : eqb (length c.loop-rest.rest.now) 0 ≡ false = cc in
    none_given c.from_residual.result _ _ c.from_residual.ensures
    (λ all few s. no_more c.loop-rest.numbers.items c.loop-rest.rest.now c.args.text.now c.loop-rest.invariant.behind (some_left c.loop-rest.rest.now some)
    (λ v x more w i. c.in_err-number.ensures.number v x more w i) all s)

pub loop-rest-preserved : goal.loop-rest-preserved
loop-rest-preserved c = record {
  behind = one_read c.loop-rest.numbers.items c.push.new.self.items c.in_ok-number.number c.loop-rest.rest.now c.in_ok-number.more.now c.args.text.now
      c.loop-rest.invariant.behind c.in_ok-number.ensures.number c.push.ensures.items;
  few = few_more c.loop-rest.numbers.items c.push.new.self.items c.in_ok-number.number c.push.ensures.items c.loop-rest.invariant.few
      (let other : eqb (length c.loop-rest.numbers.items) 8 ≡ false = cc in other);
}

pub returns : goal.returns
returns c =
    let none : eqb (length c.loop-rest.rest.now) 0 ≡ true = cc in (
      all_done c.loop-rest.numbers.items c.loop-rest.rest.now c.args.text.now c.loop-rest.invariant.behind
          (nil_from_length c.loop-rest.rest.now (eqb-true (length c.loop-rest.rest.now) 0 none)),
      c.loop-rest.invariant.few,
    )
