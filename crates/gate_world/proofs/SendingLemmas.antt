-- What is sent of a list, and what is left.
use Rattle.std.proofs.Common.{◌≡◌, ◌-◌, ◌++◌, ℕ, List, length, take, drop, ap, ◌∙◌, sym, arith, append_assoc, take-append-drop, length-drop, length-append, Result, Ok, Err}
use Rattle.std.proofs.lemmas.List.{take_all}
use Rattle.gate_world.specs.declared.event.Event.{Event}
use Rattle.gate_world.specs.declared.outside.Failed.{Failed}
use Rattle.gate_world.specs.Octets.{Hears}
use Rattle.gate_world.proofs.Joins.{Hears-append}
use Rattle.gate_world.specs.Sending.{Sends}

-- one more piece off the front of the rest
pub moves : (took rest all : List ℕ) (n m : ℕ) → took ++ rest ≡ all → m ≡ length rest - n → (took ++ take n rest) ++ take m (drop n rest) ≡ all
moves took rest all n m whole is =
    let left : take m (drop n rest) ≡ drop n rest = take_all m (drop n rest) (omega (arith, length-drop n rest)) in
    append_assoc took (take n rest) (take m (drop n rest)) ∙ ap (λ (l : List ℕ). took ++ (take n rest ++ l)) left ∙ ap (λ (l : List ℕ). took ++ l) (take-append-drop n rest) ∙ whole

-- the first text was sent, and then the second, or not
pub then_second : {xs : List Event} (ys : List Event) (first second : List ℕ) (r : Result (Unit {0}) Failed) → Hears first xs → Sends second r ys
    → Sends (first ++ second) r (xs ++ ys)
then_second ys first second (Ok _) heard hears = Hears-append heard hears
then_second {xs = xs} ys first second (Err _) heard (more, took, rest, is, hears, whole, left) = (
  xs ++ more,
  first ++ took,
  rest,
  ap (λ (l : List Event). xs ++ l) is ∙ sym (append_assoc xs more _),
  Hears-append heard hears,
  append_assoc first took rest ∙ ap (λ (l : List ℕ). first ++ l) whole,
  left,
)

-- sending the first text failed
pub first_failed : {f : Failed} {xs : List Event} (first second : List ℕ) → Sends first (Err f) xs → Sends (first ++ second) (Err f) xs
first_failed first second (heard, took, rest, is, hears, whole, left) = (
  heard,
  took,
  rest ++ second,
  is,
  hears,
  sym (append_assoc took rest second) ∙ ap (λ (l : List ℕ). l ++ second) whole,
  omega (arith, left, length-append rest second),
)
