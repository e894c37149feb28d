use Rattle.std.proofs.Common.{◌≡◌, ◌∙◌, ◌+◌, ◌-◌, ℕ, List, true, false, map, take, drop, get_or, Vec, Global, ap, sym}
use Rattle.std.specs.Prelude.{◌==◌}
use Rattle.std.proofs.lemmas.Bool.{eq-eqb, ne_eqb}
use Rattle.imap_values.specs.Spans.{span, in_name, names_in}
use Rattle.imap_values.proofs.FlagLemmas.{names_next, names_last}
use Rattle.imap_types.specs.Items.{add_name}
use Rattle.imap_types.specs.Octets.{lower}
use Rattle.imap_values.proofs.flags.names_in.Goals as goal

pub returns-then-octet-ne32-clause-names : goal.returns-then-octet-ne32-clause-names
returns-then-octet-ne32-clause-names c =
    let b = c.loop-left.rest.now in
    let n = c.name_len-n.ensures.count in
    let keys = map (λ (v : Vec ℕ Global). v.items) c.loop-left.set.keys in
    let name : c.in_ok-name.name.items ≡ map lower (take (span in_name b) b) = c.in_ok-name.ensures ∙ ap (map lower) (c.before-in-loop-left.ensures ∙ ap (λ (k : ℕ). take k b) n) in
    let octet : (get_or b (span in_name b) 0 == 32) ≡ false = ap (λ (k : ℕ). get_or b k 0 == 32) (sym n) ∙ ap (λ (k : ℕ). k == 32) (sym c.octet_at-octet.ensures)
    ∙ ne_eqb c.octet_at-octet.result 32 c.if-octet-ne32.true in
    c.in_ok-add_name.ensures ∙ ap (add_name keys) name ∙ ap (λ (r : List (List ℕ) × List ℕ). r.0)
    (sym (names_last c.loop-left.left keys b c.loop-left-test.true octet) ∙ c.loop-left.invariant)

pub returns-then-octet-ne32-clause-rest : goal.returns-then-octet-ne32-clause-rest
returns-then-octet-ne32-clause-rest c =
    let b = c.loop-left.rest.now in
    let n = c.name_len-n.ensures.count in
    let keys = map (λ (v : Vec ℕ Global). v.items) c.loop-left.set.keys in
    let octet : (get_or b (span in_name b) 0 == 32) ≡ false = ap (λ (k : ℕ). get_or b k 0 == 32) (sym n) ∙ ap (λ (k : ℕ). k == 32) (sym c.octet_at-octet.ensures)
    ∙ ne_eqb c.octet_at-octet.result 32 c.if-octet-ne32.true in
    c.behind-rest.ensures ∙ ap (λ (k : ℕ). drop (k + 1) b) n ∙ ap (λ (r : List (List ℕ) × List ℕ). r.1)
    (sym (names_last c.loop-left.left keys b c.loop-left-test.true octet) ∙ c.loop-left.invariant)

pub loop-left-preserved : goal.loop-left-preserved
loop-left-preserved c =
    let b = c.loop-left.rest.now in
    let n = c.name_len-n.ensures.count in
    let keys = map (λ (v : Vec ℕ Global). v.items) c.loop-left.set.keys in
    let name : c.in_ok-name.name.items ≡ map lower (take (span in_name b) b) = c.in_ok-name.ensures ∙ ap (map lower) (c.before-in-loop-left.ensures ∙ ap (λ (k : ℕ). take k b) n) in
    let octet : (get_or b (span in_name b) 0 == 32) ≡ true = ap (λ (k : ℕ). get_or b k 0 == 32) (sym n) ∙ ap (λ (k : ℕ). k == 32) (sym c.octet_at-octet.ensures)
    ∙ eq-eqb c.octet_at-octet.result 32 c.if-octet-ne32.false in
    let keys_are : map (λ (v : Vec ℕ Global). v.items) c.add_name.new.set.keys ≡ add_name keys (map lower (take (span in_name b) b)) = c.in_ok-add_name.ensures
    ∙ ap (add_name keys) name in
    let rest_is : c.behind-rest.result.now ≡ drop (span in_name b + 1) b = c.behind-rest.ensures ∙ ap (λ (k : ℕ). drop (k + 1) b) n in
    ap (λ (u : List (List ℕ)). names_in (c.loop-left.left - 1) u c.behind-rest.result.now) keys_are
    ∙ ap (names_in (c.loop-left.left - 1) (add_name keys (map lower (take (span in_name b) b)))) rest_is
    ∙ sym (names_next c.loop-left.left keys b c.loop-left-test.true octet) ∙ c.loop-left.invariant
