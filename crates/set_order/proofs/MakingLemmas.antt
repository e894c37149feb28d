-- Mailboxes that are to be made, one after another.
use Rattle.std.proofs.Common.{◌≡◌, ◌++◌, List, [], ◌∷◌, Some, None, refl, sym, ap, subst, ◌∙◌, append_assoc}
use Rattle.set_arguments.specs.Arguments.{Keyed}
use Rattle.set_order.specs.Ordered.{Item, Create, Creation, Orders, AllWait, Goes, next_of, without_key, created_items, circle_items}
use Rattle.set_order.specs.declared.pending.Pending.{Pending}
use Rattle.set_order.specs.reading.Ordering.{MakesInOrder}
use Rattle.set_order.specs.reading.Waiting.{IsPending, left_in}

-- those so far, and then what goes of those that are left, are all in order
abbrev pub AllInOrder : Keyed → List Item → List Item → Keyed → Type 0
AllInOrder create before items left = (ready circle : Keyed) → Orders left ready circle → MakesInOrder create before (items ++ (created_items ready ++ circle_items circle))

pub its_own : (p : Pending) (pending : Keyed) → IsPending p pending → IsPending p (left_in p)
its_own p pending is = subst (λ (cs : Keyed). IsPending p cs) (sym is.left_is) is

-- none goes yet
pub none_yet : (p : Pending) (create : Keyed) (before : List Item) → IsPending p create → AllInOrder create before before (left_in p)
none_yet p create before is = λ ready circle orders. record {
  ready = ready;
  circle = circle;
  orders = subst (λ (cs : Keyed). Orders cs ready circle) is.left_is orders;
  after_is = refl;
}

-- one more goes
one_goes : (create : Keyed) (before items : List Item) (left : Keyed) (c : Creation) → AllInOrder create before items left → Some c ≡ next_of left
    → AllInOrder create before (items ++ Create c.0 c.1 ∷ []) (without_key c.0 left)
one_goes create before items left c so_far is = λ ready circle orders.
    let m : MakesInOrder create before (items ++ (created_items (c ∷ ready) ++ circle_items circle)) = so_far (c ∷ ready) circle (Goes c (sym is) orders) in
    record {
      ready = m.ready;
      circle = m.circle;
      orders = m.orders;
      after_is = append_assoc items (Create c.0 c.1 ∷ []) (created_items ready ++ circle_items circle) ∙ m.after_is;
    }

-- so it is of what is left then and of the items then
pub went : (create : Keyed) (before items after : List Item) (left later : Keyed) (c : Creation) → AllInOrder create before items left → Some c ≡ next_of left
    → later ≡ without_key c.0 left → after ≡ items ++ Create c.0 c.1 ∷ [] → AllInOrder create before after later
went create before items after left later c so_far is later_is after_is =
    subst (λ (is : List Item). AllInOrder create before is later) (sym after_is)
    (subst (λ (cs : Keyed). AllInOrder create before (items ++ Create c.0 c.1 ∷ []) cs) (sym later_is) (one_goes create before items left c so_far is))

-- none goes any more
none_goes : (create : Keyed) (before items : List Item) (left : Keyed) → AllInOrder create before items left → None ≡ next_of left
    → MakesInOrder create before (items ++ circle_items left)
none_goes create before items left so_far none = so_far [] left (AllWait (sym none))

-- so the items then are all in order
pub ended : (create : Keyed) (before items after : List Item) (left later : Keyed) → AllInOrder create before items left → None ≡ next_of left → later ≡ left
    → after ≡ items ++ circle_items later → MakesInOrder create before after
ended create before items after left later so_far none later_is after_is =
    subst (λ (is : List Item). MakesInOrder create before is) (sym (after_is ∙ ap (λ (cs : Keyed). items ++ circle_items cs) later_is)) (none_goes create before items left so_far none)
