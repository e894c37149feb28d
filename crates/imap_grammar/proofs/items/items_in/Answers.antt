use Rattle.std.proofs.Common.{◌≡◌, ◌∙◌, ◌-◌, ℕ, List, true, false, drop, get_or, ap, sym}
use Rattle.std.specs.Prelude.{◌==◌}
use Rattle.std.proofs.lemmas.Bool.{eq-eqb, ne_eqb}
use Rattle.imap_types.specs.declared.response.FetchItems.{FetchItems}
use Rattle.imap_grammar.specs.reading.ItemReading.{item_in, items_in}
use Rattle.imap_grammar.proofs.ItemReadings.{items_next, items_last}
use Rattle.imap_grammar.proofs.items.items_in.Goals as goal

pub returns-then-octet_at-ne32 : goal.returns-then-octet_at-ne32
returns-then-octet_at-ne32 c =
    let so_far = c.loop-left.items in
    let b = c.loop-left.rest.now in
    let octet : (get_or (item_in so_far b).1 0 0 == 32) ≡ false = ap (λ (u : List ℕ). get_or u 0 0 == 32) (sym c.in_ok-after.ensures.rest)
    ∙ ap (λ (k : ℕ). k == 32) (sym c.octet_at.ensures) ∙ ne_eqb c.octet_at.result 32 c.if-octet_at-ne32.true in
    c.in_ok-after.ensures.items ∙ sym (items_last c.loop-left.left so_far b c.loop-left-test.true octet) ∙ c.loop-left.invariant

pub loop-left-preserved : goal.loop-left-preserved
loop-left-preserved c =
    let so_far = c.loop-left.items in
    let b = c.loop-left.rest.now in
    let octet : (get_or (item_in so_far b).1 0 0 == 32) ≡ true = ap (λ (u : List ℕ). get_or u 0 0 == 32) (sym c.in_ok-after.ensures.rest)
    ∙ ap (λ (k : ℕ). k == 32) (sym c.octet_at.ensures) ∙ eq-eqb c.octet_at.result 32 c.if-octet_at-ne32.false in
    ap (items_in (c.loop-left.left - 1) c.item_in.new.items) (c.behind-rest.ensures ∙ ap (drop 1) c.in_ok-after.ensures.rest)
    ∙ ap (λ (s : FetchItems). items_in (c.loop-left.left - 1) s (drop 1 (item_in so_far b).1)) c.in_ok-after.ensures.items
    ∙ sym (items_next c.loop-left.left so_far b c.loop-left-test.true octet) ∙ c.loop-left.invariant
