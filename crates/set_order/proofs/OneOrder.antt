-- The items of a call have one order.
use Rattle.std.proofs.Common.{◌≡◌, ◌++◌, List, ◌∷◌, Option, Some, None, refl, sym, ◌∙◌, ap, subst}
use Rattle.jmap_core.specs.CreatedIds.{Ids}
use Rattle.set_arguments.specs.Arguments.{Keyed, SetAsked}
use Rattle.set_order.specs.Ordered.{Item, Creation, Orders, AllWait, Goes, without_key, created_items, circle_items, later_items, MailboxItems, ItemsOf}
use Rattle.set_arguments.specs.declared.set_method.SetMethod.{SetMethod}
use Rattle.set_arguments.specs.declared.set_method.SetMethod.TheVariants.{EmailSet, MailboxSet, EmailImport}

none_not_some : (c : Creation) → None ≡ Some c → ⊥
none_not_some c e = absurd (cc)

some_is : (c d : Creation) → Some c ≡ Some d → c ≡ d
some_is c d e = ap had e
  where
    had : Option Creation → Creation
    had None = c
    had (Some b) = b

-- what goes first, and what waits at last, is one
one_order : {pending ready circle others last : Keyed} → Orders pending ready circle → Orders pending others last → (ready ≡ others) × (circle ≡ last)
one_order (AllWait none) (AllWait also) = (refl, refl)
one_order (AllWait none) (Goes d is more) = absurd (none_not_some d (sym none ∙ is))
one_order (Goes c is more) (AllWait none) = absurd (none_not_some c (sym none ∙ is))
one_order (Goes {pending = pending} {ready = ready} {circle = circle} c is more) (Goes d also later) =
    let same : c ≡ d = some_is c d (sym is ∙ also) in
    let moved : Orders (without_key d.0 pending) ready circle = subst (λ (e : Creation). Orders (without_key e.0 pending) ready circle) same more in
    let rest = one_order moved later in
    (ap (λ (e : Creation). e ∷ ready) same ∙ ap (λ (r : Keyed). d ∷ r) rest.0, rest.1)

join_items : (ready circle others last : Keyed) (later : List Item) → ready ≡ others → circle ≡ last
    → (created_items ready ++ circle_items circle) ++ later ≡ (created_items others ++ circle_items last) ++ later
join_items ready circle others last later e f =
    ap (λ (r : Keyed). (created_items r ++ circle_items circle) ++ later) e ∙ ap (λ (c : Keyed). (created_items others ++ circle_items c) ++ later) f

mailbox_items : (created : Ids) (a : SetAsked) (items others : List Item) → MailboxItems created a items → MailboxItems created a others → items ≡ others
mailbox_items created a items others i j =
    let one = one_order i.orders j.orders in
    i.items_are ∙ (join_items i.ready i.circle j.ready j.circle (later_items created a) one.0 one.1 ∙ sym j.items_are)

pub one_list : (m : SetMethod) (created : Ids) (a : SetAsked) (items others : List Item) → ItemsOf m created a items → ItemsOf m created a others → items ≡ others
one_list EmailSet created a items others i j = i ∙ sym j
one_list MailboxSet created a items others i j = mailbox_items created a items others i j
one_list EmailImport created a items others i j = i ∙ sym j
