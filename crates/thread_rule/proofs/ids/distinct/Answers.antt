use Rattle.std.proofs.Common.{◌≡◌, ℕ, List, ◌∷◌, ◌++◌, [], true, false, Bor, map, sym, ap, ◌∙◌, subst}
use Rattle.thread_rule.specs.Ids.{ids_in, each_once}
use Rattle.thread_rule.specs.reading.Once.{has_text, left_of, EndsWhole}
use Rattle.thread_rule.proofs.IdLemmas.{nothing_in, nothing_whole, id_last, last_whole}
use Rattle.thread_rule.proofs.OnceLemmas.{none_left, seen_before, seen_first, seen_too, seen_still, not_true, not_false}
use Rattle.thread_rule.proofs.ids.distinct.Goals as goal

pub loop-id-init : goal.loop-id-init
loop-id-init c =
    let nows : List (Bor (List ℕ)) → List (List ℕ) = λ xs. map (λ t. t.now) xs in
    let all : List (List ℕ) = each_once (ids_in c.args.text.now) in
    let P : List ℕ → Type 0 = λ s. EndsWhole s in
    let none : ids_in c.new-once.result.items ≡ [] = ap ids_in c.new-once.ensures.items ∙ nothing_in in
    record {
      whole = subst P (sym c.new-once.ensures.items) nothing_whole;
      seen = λ text. ap (λ (ks : List (Bor (List ℕ))). has_text text (nows ks)) c.new-seen.ensures.empty ∙ sym (ap (has_text text) none);
      once = sym (ap (λ (xs : List (List ℕ)). xs ++ left_of xs all) none ∙ none_left all);
    }

pub loop-id-preserved-in_ok-push_id : goal.loop-id-preserved-in_ok-push_id
loop-id-preserved-in_ok-push_id c =
    let id : List ℕ = c.in-Some.id.now in
    let more : List (List ℕ) = ids_in c.in-Some.more.now in
    let keys : List (List ℕ) = map (λ (t : Bor (List ℕ)). t.now) c.loop-id.seen.keys in
    let items : List ℕ = c.loop-id.once.items in
    let once : List (List ℕ) = ids_in items in
    let P : List ℕ → Type 0 = λ s. EndsWhole s in
    let last : ids_in c.push_id.new.text.items ≡ once ++ id ∷ [] = ap ids_in c.in_ok-push_id.ensures ∙ id_last items id c.loop-id.invariant.whole c.in-Some.ensures.within in
    let new : has_text id keys ≡ false = not_true (has_text id keys) (sym c.in_ok-new.ensures.new ∙ c.if-new.true) in
    let so_far : each_once (ids_in c.args.text.now) ≡ once ++ left_of once (each_once (id ∷ more)) =
    c.loop-id.invariant.once ∙ ap (λ (xs : List (List ℕ)). once ++ left_of once (each_once xs)) c.in-Some.ensures.ids in
    record {
      whole = subst P (sym c.in_ok-push_id.ensures) (last_whole items id c.loop-id.invariant.whole c.in-Some.ensures.within);
      seen = λ text. c.in_ok-new.ensures.seen text ∙ seen_too keys once id text (c.loop-id.invariant.seen text) ∙ sym (ap (has_text text) last);
      once = seen_first (ids_in c.args.text.now) more id once so_far (sym (c.loop-id.invariant.seen id) ∙ new)
          ∙ sym (ap (λ (xs : List (List ℕ)). xs ++ left_of xs (each_once more)) last);
    }

pub loop-id-preserved : goal.loop-id-preserved
loop-id-preserved c =
    let id : List ℕ = c.in-Some.id.now in
    let more : List (List ℕ) = ids_in c.in-Some.more.now in
    let keys : List (List ℕ) = map (λ (t : Bor (List ℕ)). t.now) c.loop-id.seen.keys in
    let once : List (List ℕ) = ids_in c.loop-id.once.items in
    let there : has_text id keys ≡ true = not_false (has_text id keys) (sym c.in_ok-new.ensures.new ∙ c.if-new.false) in
    let so_far : each_once (ids_in c.args.text.now) ≡ once ++ left_of once (each_once (id ∷ more)) =
    c.loop-id.invariant.once ∙ ap (λ (xs : List (List ℕ)). once ++ left_of once (each_once xs)) c.in-Some.ensures.ids in
    record {
      whole = c.loop-id.invariant.whole;
      seen = λ text. c.in_ok-new.ensures.seen text ∙ seen_still keys once id text there (c.loop-id.invariant.seen text);
      once = seen_before (ids_in c.args.text.now) more id once so_far (sym (c.loop-id.invariant.seen id) ∙ there);
    }
