use Rattle.std.proofs.Common.{◌≡◌, ◌<◌, ℕ, ◌+◌, ◌||◌, List, [], ◌∷◌, ◌++◌, true, false, Bor, map, drop, get_or, length, sym, ap, subst, ◌∙◌, arith}
use Rattle.std.specs.Str.{bytes_eq}
use Rattle.std.proofs.lemmas.List.{drop_all, drop_more, map-append}
use Rattle.jmap_arguments.specs.Arguments.{is_among}
use Rattle.jmap_arguments.proofs.OnceLemmas.{not_true, not_false}
use Rattle.set_order.specs.Ordered.{Item, Destroy, each_once, stands_for}
use Rattle.set_order.specs.declared.item.Item.{Item as CodeItem}
use Rattle.set_order.specs.declared.item.Item.TheVariants as code
use Rattle.set_order.specs.reading.Items.{item_data}
use Rattle.set_order.proofs.DestroyLemmas.{AreDestroyed, none_destroyed, destroyed_first, destroyed_before, all_destroyed}
use Rattle.set_order.proofs.order.add_destroys.Goals as goal
use Rattle.set_order.proofs.order.add_destroys.Goals.{then-new+in_ok-push, else-new}

abbrev nows : List (Bor (List ℕ)) → List (List ℕ)
nows xs = map (λ (t : Bor (List ℕ)). t.now) xs

pub loop-text-init : goal.loop-text-init
loop-text-init c = λ keys has.
    rw c.new-seen.ensures.empty (none_destroyed (stands_for keys c.args.created.now) (nows c.deref-text-items.result.now) (map item_data c.args.items.now.items))

pub loop-text-preserved : goal.loop-text-preserved
loop-text-preserved c = λ keys has.
    let items : List (Bor (List ℕ)) = c.deref-text-items.result.now in
    let i = c.loop-text.text-index in
    let none : Bor (List ℕ) = record { ref_ptr = (0, 0); now = [] } in
    let within : i < length items = omega (arith, c.loop-text-test.true) in
    let text : List ℕ = (get_or items i none).now in
    let rest : List (List ℕ) = nows (drop (i + 1) items) in
    let object : List ℕ → List ℕ = stands_for keys c.args.created.now in
    let before : List Item = map item_data c.args.items.now.items in
    let so_far : List Item = map item_data c.loop-text.items.items in
    let seen : List (List ℕ) = nows c.loop-text.seen.keys in
    let here : AreDestroyed object (nows items) (text ∷ rest) seen before so_far =
    subst (λ (xs : List (Bor (List ℕ))). AreDestroyed object (nows items) (nows xs) seen before so_far) (drop_more items i none within) (c.loop-text.invariant keys has) in
    let stands : c.stands_for.result.now ≡ object text = c.stands_for.ensures keys has in
    let seen_then : (other : List ℕ) → is_among other (nows c.is_new.new.seen.keys) ≡ (bytes_eq (object text) other || is_among other seen) =
    λ other. c.in_ok-new.ensures.seen other ∙ ap (λ (t : List ℕ). bytes_eq t other || is_among other seen) stands in
    elim c.if-new.branch [
      | then-new+in_ok-push w ↦
          let new : is_among (object text) seen ≡ false =
          ap (λ (t : List ℕ). is_among t seen) (sym stands) ∙ not_true (is_among c.stands_for.result.now seen) (sym c.in_ok-new.ensures.new ∙ w.if-new.true) in
          let more : map item_data w.push.new.self.items ≡ so_far ++ Destroy text ∷ [] =
          ap (λ (is : List CodeItem). map item_data is) w.in_ok-push.ensures.items
          ∙ map-append item_data c.loop-text.items.items (code.Destroy (get_or items i none) ∷ []) in
          rw (w.items-is, more) (destroyed_first object (nows items) before text rest seen (nows c.is_new.new.seen.keys) so_far here seen_then new)
      | else-new w ↦
          let there : is_among (object text) seen ≡ true =
          ap (λ (t : List ℕ). is_among t seen) (sym stands) ∙ not_false (is_among c.stands_for.result.now seen) (sym c.in_ok-new.ensures.new ∙ w.if-new.false) in
          rw w.items-is (destroyed_before object (nows items) before text rest seen (nows c.is_new.new.seen.keys) so_far here seen_then there)
    ]

pub returns : goal.returns
returns c = λ keys has.
    let items : List (Bor (List ℕ)) = c.deref-text-items.result.now in
    let object : List ℕ → List ℕ = stands_for keys c.args.created.now in
    let before : List Item = map item_data c.args.items.now.items in
    let after : List Item = map item_data c.loop-text.items.items in
    let seen : List (List ℕ) = nows c.loop-text.seen.keys in
    let ended : drop c.loop-text.text-index items ≡ [] = drop_all c.loop-text.text-index items (omega (arith, c.loop-text-test.false)) in
    let all : AreDestroyed object (nows items) [] seen before after =
    subst (λ (xs : List (Bor (List ℕ))). AreDestroyed object (nows items) (nows xs) seen before after) ended (c.loop-text.invariant keys has) in
    all_destroyed object (nows items) before seen after all
    ∙ ap (λ (xs : List (Bor (List ℕ))). before ++ map Destroy (each_once object (nows xs))) c.deref-text-items.ensures.value
