-- The maps and sets of the code as what they stand for.
use Rattle.std.specs.Prelude.{◌≡◌, ℕ, true, List, [], map, Option, Some, None, String, Vec}
use Rattle.std.specs.Borrow.{Bor}
use Rattle.std.specs.declared.alloc.Global.{Global}
use Rattle.std.specs.BTreeMap.{BTreeMap, is_at}
use Rattle.std.specs.Cmp.Lexicographic.{slice_cmp}
use Rattle.std.specs.Map.{lookup}
use Rattle.std.specs.Ordering.{nat_cmp}
use Rattle.serde_json.specs.Data.{Members}
use Rattle.serde_json.specs.View.{members_view}
use Rattle.serde_json.specs.declared.value.Value.{Value}
use Rattle.set_arguments.specs.Arguments.{Keyed}
use Rattle.set_arguments.specs.reading.Keys.{ascends}
use Rattle.set_order.specs.declared.pending.Pending.{Pending}
use Rattle.set_order.specs.reading.Ordering.{ArePending}

abbrev pub entry_data : Bor (List ℕ) × Bor (BTreeMap (String Global) Value) → List ℕ × Members
entry_data e = (e.0.now, members_view e.1.now.entries)

-- those that are left
abbrev pub left_in : Pending → Keyed
left_in p = map entry_data p.left.entries

abbrev pub ready_in : Pending → List (List ℕ)
ready_in p = map (λ k. k.now) p.ready.keys

abbrev pub listed : Option (Vec (Bor (List ℕ)) Global) → List (List ℕ)
listed None = []
listed (Some v) = map (λ t. t.now) v.items

-- those that wait for the one of this key
abbrev pub waiting_at : BTreeMap (Bor (List ℕ)) (Vec (Bor (List ℕ)) Global) → List ℕ → List (List ℕ)
waiting_at waiting key = listed (lookup (is_at (λ k. slice_cmp nat_cmp key k.now)) waiting.entries)

abbrev pub waiting_in : Pending → List ℕ → List (List ℕ)
waiting_in p key = waiting_at p.waiting key

pub record IsPending (p : Pending) (pending : Keyed) : Type 0 where
  pub left_is : left_in p ≡ pending
  pub in_order : ascends pending ≡ true
  pub are : ArePending pending (ready_in p) (waiting_in p)
