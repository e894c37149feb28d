use Rattle.std.proofs.Common.{◌≡◌, ◌-◌, ◌≤◌, ℕ, Bool, List, nat_eq, length, drop, take, sym, ◌∙◌, ap, arith}
use Rattle.std.proofs.lemmas.List.{length-drop, take_all}
use Rattle.std.specs.List.{starts_with}
use Rattle.store_causes.proofs.Places.{found, passed}
use Rattle.store_causes.proofs.beginning.stands_in.Goals as goal

-- what is left from a place on
begins_there : (octets word : List ℕ) (at : ℕ) (b answer : Bool) → at ≤ length octets → b ≡ starts_with nat_eq (take (length octets - at) (drop at octets)) word → b ≡ answer
    → starts_with nat_eq (drop at octets) word ≡ answer
begins_there octets word at b answer within is so =
    ap (λ (l : List ℕ). starts_with nat_eq l word) (sym (take_all (length octets - at) (drop at octets) (omega (arith, length-drop at octets)))) ∙ sym is ∙ so

pub returns-then-starts_with : goal.returns-then-starts_with
returns-then-starts_with c =
    found (λ (at : ℕ). starts_with nat_eq (drop at c.args.octets.now) c.args.word.now) _ c.loop-at.at c.args.count (sym c.is_empty.ensures ∙ c.if-is_empty.false)
    c.loop-at-test.true c.loop-at.invariant
    (begins_there c.args.octets.now c.args.word.now c.loop-at.at _ _ (omega (arith, c.loop-at-test.true, c.requires)) c.starts_with.ensures.value c.if-starts_with.true)

pub loop-at-preserved : goal.loop-at-preserved
loop-at-preserved c =
    passed (λ (at : ℕ). starts_with nat_eq (drop at c.args.octets.now) c.args.word.now) c.loop-at.at c.args.count c.loop-at-test.true c.loop-at.invariant
    (begins_there c.args.octets.now c.args.word.now c.loop-at.at _ _ (omega (arith, c.loop-at-test.true, c.requires)) c.starts_with.ensures.value c.if-starts_with.false)
