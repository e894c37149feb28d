use Rattle.std.proofs.Common.{◌≡◌, ◌<◌, ◌^◌, ◌||◌, ◌==◌, ℕ, List, Bool, true, false, ◌∙◌}
use Rattle.std.specs.List.{list_any}
use Rattle.std.specs.Map.{keys_of}
use Rattle.set_given.specs.Given.{was_numbered}
use Rattle.set_given.proofs.HistoryLemmas.{served_has}
use Rattle.set_given.proofs.NumberLemmas.{small_among}
use Rattle.set_given.proofs.given.numbers_are_small.Goals as goal

-- one of two tests
of_two : (n : ℕ) (first second : Bool) → (first ≡ true → n < 2 ^ 64) → (second ≡ true → n < 2 ^ 64) → (first || second) ≡ true → n < 2 ^ 64
of_two n true second f g t = f t
of_two n false second f g t = g t

pub returns : goal.returns
returns c g is n =
    of_two n (was_numbered g n) (list_any (λ (e : List ℕ × ℕ). e.1 == n) g.made)
    (λ there. small_among (keys_of c.args.given.now.state.now.rows.mailboxes) n c.count-count.ensures.small
    (served_has g.history c.args.given.now.state.now n is.state ∙ there))
    (c.numbers_are_small.ensures g.made is.made n)
