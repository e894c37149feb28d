-- The items of a call.
use Rattle.std.proofs.Common.{◌≡◌, ◌++◌, List, [], ap, ◌∙◌, append_assoc}
use Rattle.jmap_core.specs.CreatedIds.{Ids}
use Rattle.set_arguments.specs.Arguments.{SetAsked}
use Rattle.set_arguments.specs.declared.set_method.SetMethod.{SetMethod}
use Rattle.set_arguments.specs.declared.set_method.SetMethod.TheVariants.{EmailSet, MailboxSet, EmailImport}
use Rattle.set_order.specs.Ordered.{Item, ItemsOf, updated_items, destroyed_items}
use Rattle.set_order.specs.reading.Ordering.{AddsCreations}

joined : (made updated items : List Item) (updates destroys : List Item) → updated ≡ made ++ updates → items ≡ updated ++ destroys → items ≡ made ++ (updates ++ destroys)
joined made updated items updates destroys u d = d ∙ ap (λ (is : List Item). is ++ destroys) u ∙ append_assoc made updates destroys

-- creations, then updates, then destroys
pub items_of : (m : SetMethod) (created : Ids) (a : SetAsked) (made updated items : List Item) → AddsCreations m a.create [] made → updated ≡ made ++ updated_items a.update
    → items ≡ updated ++ destroyed_items created a → ItemsOf m created a items
items_of EmailSet created a made updated items adds u d =
    joined made updated items (updated_items a.update) (destroyed_items created a) u d
    ∙ ap (λ (is : List Item). is ++ (updated_items a.update ++ destroyed_items created a)) adds
items_of MailboxSet created a made updated items adds u d = record {
  ready = adds.ready;
  circle = adds.circle;
  orders = adds.orders;
  items_are =
      joined made updated items (updated_items a.update) (destroyed_items created a) u d
      ∙ ap (λ (is : List Item). is ++ (updated_items a.update ++ destroyed_items created a)) adds.after_is;
}
items_of EmailImport created a made updated items adds u d =
    joined made updated items (updated_items a.update) (destroyed_items created a) u d
    ∙ ap (λ (is : List Item). is ++ (updated_items a.update ++ destroyed_items created a)) adds
