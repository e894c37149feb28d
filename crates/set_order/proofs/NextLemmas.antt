-- The first that waits for none is taken out of those that are left.
use Rattle.std.proofs.Common.{◌≡◌, ◌≢◌, ◌<◌, ◌||◌, ℕ, List, [], ◌∷◌, length, map, None, refl, arith, Bor, All, String, Global, BTreeMap, option_map, sym, subst, ap, ◌∙◌}
use Rattle.std.specs.BTreeMap.Range.{IsLtBy}
use Rattle.std.specs.List.{find}
use Rattle.std.specs.Map.{lookup, remove_entry}
use Rattle.serde_json.specs.View.{members_view}
use Rattle.serde_json.specs.declared.value.Value.{Value}
use Rattle.jmap_arguments.specs.Arguments.{is_among}
use Rattle.set_arguments.specs.Arguments.{Keyed}
use Rattle.set_arguments.specs.reading.Keys.{ascends}
use Rattle.set_order.specs.Ordered.{next_of, without_key}
use Rattle.set_order.specs.declared.pending.Pending.{Pending}
use Rattle.set_order.specs.reading.Ordering.{ArePending}
use Rattle.set_order.specs.reading.Waiting.{IsPending, entry_data, ready_in, waiting_in}
use Rattle.set_order.proofs.LeftLemmas.{text_cmp}
use Rattle.set_order.proofs.PendingLemmas.{all_wait, are_then, has_key, is_next}
use Rattle.set_order.proofs.TakingLemmas.{ascends_without, least_of, once_ready}
use Rattle.set_order.proofs.WaitingLemmas.{at_key, found_is, removed_is}

abbrev pub nows : List (Bor (List ℕ)) → List (List ℕ)
nows ks = map (λ (k : Bor (List ℕ)). k.now) ks

module _ (p : Pending) (pending : Keyed) (is : IsPending p pending) (key : Bor (List ℕ)) (rest : List (Bor (List ℕ))) (removal : p.ready.keys ≡ key ∷ rest)
    (above : All (IsLtBy text_cmp key) rest) where
  are_here : ArePending pending (key.now ∷ nows rest) (waiting_in p)
  are_here = subst (λ (ks : List (Bor (List ℕ))). ArePending pending (nows ks) (waiting_in p)) removal is.are

  -- it is the first that is ready
  pub next_is : next_of pending ≡ option_map (λ (o : Bor (BTreeMap (String Global) Value)). (key.now, members_view o.now.entries)) (lookup (at_key key.now) p.left.entries)
  next_is =
      is_next pending key.now is.in_order (nows rest) (waiting_in p) are_here (once_ready key rest above) (least_of key rest above)
      ∙ ap (λ (cs : Keyed). find (has_key key.now) cs) (sym is.left_is) ∙ found_is key.now p.left.entries

  -- those that are left, once those that waited for it are ready
  pub left_then : (q : Pending) → q.left.entries ≡ remove_entry (at_key key.now) p.left.entries
      → ((other : List ℕ) → is_among other (ready_in q) ≡ (is_among other (waiting_in p key.now) || is_among other (nows rest)))
      → ((k : List ℕ) → k ≢ key.now → waiting_in q k ≡ waiting_in p k) → IsPending q (without_key key.now pending)
  left_then q entries ready_is waiting_is = record {
    left_is =
        ap (map entry_data) entries ∙ removed_is key.now p.left.entries (ap ascends is.left_is ∙ is.in_order)
        ∙ ap (without_key key.now) is.left_is;
    in_order = ascends_without key.now pending is.in_order;
    are = are_then pending key.now is.in_order (nows rest) (waiting_in p) are_here (once_ready key rest above) (ready_in q) (waiting_in q) ready_is waiting_is;
  }

-- where none is ready, all wait
none_there : (ks : List (Bor (List ℕ))) → (0 < length ks → ⊥) → ks ≡ []
none_there [] none = refl
none_there (k ∷ ks) none = absurd (none (omega arith))

pub none_ready : (p : Pending) (pending : Keyed) → IsPending p pending → (0 < length p.ready.keys → ⊥) → None ≡ next_of pending
none_ready p pending is none =
    let are : ArePending pending [] (waiting_in p) =
    subst (λ (ks : List (Bor (List ℕ))). ArePending pending (nows ks) (waiting_in p)) (none_there p.ready.keys none) is.are in
    sym (all_wait pending (waiting_in p) are)
