use Rattle.std.proofs.Common.{ℕ, arith, ap, ◌∙◌, drop, length, List}
use Rattle.std.proofs.lemmas.List.{length-take, length-drop}
use Rattle.gate_world.proofs.UnreadLemmas.{skipped}
use Rattle.gate_world.proofs.unread.Unread.skip.Goals as goal

pub returns : goal.returns
returns c =
    let u = c.self.inside in
    skipped u.held.items u.from u.to c.args.count (omega (arith, length-take {A = ℕ}, length-drop {A = ℕ}, ap length c.self.view_is))
    ∙ ap (λ (l : List ℕ). drop c.args.count l) c.self.view_is
