use Rattle.std.proofs.Common.{◌≡◌, ◌∙◌, ◌++◌, ◌∷◌, [], ℕ, true, false, not, List, bytes_eq, ap, sym, arith, rules, true≢false}
use Rattle.std.proofs.lemmas.Bool.{false≢true}
use Rattle.std.specs.List.{list_any}
use Rattle.kept_names.proofs.KeptNames.{filter_more}
use Rattle.kept_names.proofs.names.without.Goals as goal
use Rattle.kept_names.proofs.names.without.Goals.{then-not-is_in+in_ok-share+in_ok-push, else-not-is_in}

pub loop-name-preserved : goal.loop-name-preserved
loop-name-preserved c =
    let those = c.args.those.now in
    let n = c.name-item.result in
    let name_is = c.as_slice.ensures in
    let hit : c.is_in.result ≡ list_any (bytes_eq n) those =
    c.is_in.ensures ∙ (c.in_ok-those.ensures c.as_slice.result.now ∙ ap (λ (m : List ℕ). list_any (bytes_eq m) those) name_is) in
    let test : not (list_any (bytes_eq n) those) ≡ not c.is_in.result = ap not (sym hit) in
    filter_more (λ (f : List ℕ). not (list_any (λ g. bytes_eq f g) those)) c.args.names.now c.loop-name.left c.if-not-is_in.left c.loop-name.name-index n
    (omega arith) c.name-item.is c.loop-name.invariant
    (elim c.if-not-is_in.branch [
      | then-not-is_in+in_ok-share+in_ok-push w ↦ λ e. w.left-is ∙ (w.in_ok-push.ensures.ok ∙ ap (λ (m : List ℕ). c.loop-name.left ++ m ∷ []) w.in_ok-share.ensures)
      | else-not-is_in w ↦ λ e. let hits : c.is_in.result ≡ true = search (rules, w.if-not-is_in.false) in
          absurd (false≢true (ap not (sym hits) ∙ (sym test ∙ e)))
    ])
    (elim c.if-not-is_in.branch [
      | then-not-is_in+in_ok-share+in_ok-push w ↦ λ e. let misses : c.is_in.result ≡ false = search (rules, w.if-not-is_in.true) in
          absurd (true≢false (ap not (sym misses) ∙ (sym test ∙ e)))
      | else-not-is_in w ↦ λ e. w.left-is
    ])
