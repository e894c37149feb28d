use Rattle.std.proofs.Common.{◌≡◌, ◌<◌, ℕ, ◌+◌, List, ◌∷◌, ◌++◌, [], true, false, Bor, map, drop, get_or, length, sym, ap, ◌∙◌, arith}
use Rattle.std.proofs.lemmas.List.{drop_more, map-append}
use Rattle.jmap_arguments.specs.Arguments.{is_among}
use Rattle.jmap_arguments.specs.Gets.{distinct_ids}
use Rattle.jmap_arguments.proofs.OnceLemmas.{left_of, none_left, seen_before, seen_first, seen_too, seen_still, not_true, not_false}
use Rattle.jmap_arguments.proofs.gets.distinct.Goals as goal
use Rattle.jmap_arguments.proofs.gets.distinct.Goals.{then-new+in_ok-push, else-new}

pub loop-id-init : goal.loop-id-init
loop-id-init c =
    let nows : List (Bor (List ℕ)) → List (List ℕ) = λ xs. map (λ t. t.now) xs in
    let all : List (List ℕ) = distinct_ids (nows c.deref-id-items.result.now) in
    record {
      seen = λ text. ap (λ (ks : List (Bor (List ℕ))). is_among text (nows ks)) (c.new-seen.ensures.empty ∙ sym c.new-once.ensures.items);
      once = sym (ap (λ (xs : List (Bor (List ℕ))). nows xs ++ left_of (nows xs) all) c.new-once.ensures.items ∙ none_left all);
    }

pub loop-id-preserved : goal.loop-id-preserved
loop-id-preserved c =
    let nows : List (Bor (List ℕ)) → List (List ℕ) = λ xs. map (λ t. t.now) xs in
    let items : List (Bor (List ℕ)) = c.deref-id-items.result.now in
    let i = c.loop-id.id-index in
    let none : Bor (List ℕ) = record { ref_ptr = (0, 0); now = [] } in
    let within : i < length items = omega (arith, c.loop-id-test.true) in
    let id : List ℕ = (get_or items i none).now in
    let rest : List (List ℕ) = nows (drop (i + 1) items) in
    let keys : List (List ℕ) = nows c.loop-id.seen.keys in
    let once : List (List ℕ) = nows c.loop-id.once.items in
    let so_far : distinct_ids (nows items) ≡ once ++ left_of once (distinct_ids (id ∷ rest)) =
    c.loop-id.invariant.once ∙ ap (λ (xs : List (Bor (List ℕ))). once ++ left_of once (distinct_ids (nows xs))) (drop_more items i none within) in
    elim c.if-new.branch [
      | then-new+in_ok-push w ↦
          let new : is_among id keys ≡ false = not_true (is_among id keys) (sym c.in_ok-new.ensures.new ∙ w.if-new.true) in
          let more : nows w.push.new.self.items ≡ once ++ id ∷ [] =
          ap nows w.in_ok-push.ensures.items ∙ map-append (λ (t : Bor (List ℕ)). t.now) c.loop-id.once.items (get_or items i none ∷ []) in
          rw (w.once-is, more) (record {
            seen = λ text. c.in_ok-new.ensures.seen text ∙ seen_too keys once id text (c.loop-id.invariant.seen text);
            once = seen_first (nows items) rest id once so_far (sym (c.loop-id.invariant.seen id) ∙ new);
          })
      | else-new w ↦
          let there : is_among id keys ≡ true = not_false (is_among id keys) (sym c.in_ok-new.ensures.new ∙ w.if-new.false) in
          rw w.once-is (record {
            seen = λ text. c.in_ok-new.ensures.seen text ∙ seen_still keys once id text there (c.loop-id.invariant.seen text);
            once = seen_before (nows items) rest id once so_far (sym (c.loop-id.invariant.seen id) ∙ there);
          })
    ]
