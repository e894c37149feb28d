use Rattle.std.proofs.Common.{◌≡◌, ◌≤◌, ◌-◌, ◌*◌, ◌/◌, ℕ, List, take, sym, subst}
use Rattle.message_lines.specs.Words.{IsCut}
use Rattle.message_lines.proofs.CutLemmas.{cut_here}
use Rattle.message_lines.proofs.words.cut_within.Goals as goal

pub returns : goal.returns
returns c =
    let f = c.floor_char_boundary-len in
    let groups : c.saturating_sub-groups.result ≡ c.args.room - 12 = c.saturating_sub-groups.ensures in
    let cut = cut_here c.args.room f.result c.args.text.now c.utf8.text (subst (λ (n : ℕ). f.result ≤ n / 4 * 3) groups f.ensures.bound) f.ensures.boundary
    (λ i more le. f.ensures.nearest i more (subst (λ (n : ℕ). i ≤ n / 4 * 3) (sym groups) le)) in
    subst (λ (u : List ℕ). IsCut c.args.room u c.split_at.result.1.now c.args.text.now) (sym c.split_at.ensures.front)
    (subst (λ (u : List ℕ). IsCut c.args.room (take f.result c.args.text.now) u c.args.text.now) (sym c.split_at.ensures.back) cut)
