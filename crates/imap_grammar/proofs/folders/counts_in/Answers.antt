use Rattle.std.proofs.Common.{◌≡◌, ◌∙◌, ◌-◌, ℕ, List, true, false, drop, get_or, ap, sym}
use Rattle.std.specs.Prelude.{◌==◌}
use Rattle.std.proofs.lemmas.Bool.{eq-eqb, ne_eqb}
use Rattle.imap_types.specs.declared.response.StatusItems.{StatusItems}
use Rattle.imap_grammar.specs.reading.FolderReading.{count_in, status_counts}
use Rattle.imap_grammar.proofs.FolderReadings.{counts_next, counts_last}
use Rattle.imap_grammar.proofs.folders.counts_in.Goals as goal

pub returns-then-octet_at-ne32 : goal.returns-then-octet_at-ne32
returns-then-octet_at-ne32 c =
    let so_far = c.loop-left.items in
    let b = c.loop-left.rest.now in
    let octet : (get_or (count_in so_far b).1 0 0 == 32) ≡ false = ap (λ (u : List ℕ). get_or u 0 0 == 32) (sym c.count_in.ensures.rest)
    ∙ ap (λ (k : ℕ). k == 32) (sym c.octet_at.ensures) ∙ ne_eqb c.octet_at.result 32 c.if-octet_at-ne32.true in
    c.count_in.ensures.items ∙ sym (counts_last c.loop-left.left so_far b c.loop-left-test.true octet) ∙ c.loop-left.invariant

pub loop-left-preserved : goal.loop-left-preserved
loop-left-preserved c =
    let so_far = c.loop-left.items in
    let b = c.loop-left.rest.now in
    let octet : (get_or (count_in so_far b).1 0 0 == 32) ≡ true = ap (λ (u : List ℕ). get_or u 0 0 == 32) (sym c.count_in.ensures.rest)
    ∙ ap (λ (k : ℕ). k == 32) (sym c.octet_at.ensures) ∙ eq-eqb c.octet_at.result 32 c.if-octet_at-ne32.false in
    ap (status_counts (c.loop-left.left - 1) c.count_in.result.0) (c.behind-rest.ensures ∙ ap (drop 1) c.count_in.ensures.rest)
    ∙ ap (λ (s : StatusItems). status_counts (c.loop-left.left - 1) s (drop 1 (count_in so_far b).1)) c.count_in.ensures.items
    ∙ sym (counts_next c.loop-left.left so_far b c.loop-left-test.true octet) ∙ c.loop-left.invariant
