use Rattle.std.proofs.Common.{◌≡◌, ◌∙◌, ℕ, ◌+◌, ◌<◌, List, false, length, map, take, drop, get_or, [], ap, sym, arith}
use Rattle.std.specs.Prelude.{◌==◌}
use Rattle.std.proofs.lemmas.Bool.{ne_eqb}
use Rattle.imap_values.specs.Spans.{span, in_name}
use Rattle.imap_values.proofs.FlagLemmas.{flags_one}
use Rattle.imap_types.specs.Items.{add_name}
use Rattle.imap_types.specs.Octets.{lower}
use Rattle.imap_values.proofs.flags.flags_in.Goals as goal

pub returns-then-after-ne32-clause-flags : goal.returns-then-after-ne32-clause-flags
returns-then-after-ne32-clause-flags c =
    let b = c.args.bytes.now in
    let n = c.name_len-n.ensures.count in
    let begun : (get_or b 0 0 == 41) ≡ false = ap (λ (k : ℕ). k == 41) (sym c.octet_at.ensures) ∙ ne_eqb c.octet_at.result 41 c.if-octet_at-eq41.false in
    let octet : (get_or b (span in_name b) 0 == 32) ≡ false = ap (λ (k : ℕ). get_or b k 0 == 32) (sym n) ∙ ap (λ (k : ℕ). k == 32) (sym c.octet_at-after.ensures)
    ∙ ne_eqb c.octet_at-after.result 32 c.if-after-ne32.true in
    let some : 0 < length b = omega (arith, c.if-n-bytes.true) in
    c.in_ok-names.ensures ∙ ap (λ (u : List ℕ). add_name [] (map lower u)) (c.before-then-after-ne32.ensures ∙ ap (λ (k : ℕ). take k b) n)
    ∙ ap (λ (r : List (List ℕ) × List ℕ). r.0) (sym (flags_one b begun some octet))

pub returns-then-after-ne32-clause-rest : goal.returns-then-after-ne32-clause-rest
returns-then-after-ne32-clause-rest c =
    let b = c.args.bytes.now in
    let n = c.name_len-n.ensures.count in
    let begun : (get_or b 0 0 == 41) ≡ false = ap (λ (k : ℕ). k == 41) (sym c.octet_at.ensures) ∙ ne_eqb c.octet_at.result 41 c.if-octet_at-eq41.false in
    let octet : (get_or b (span in_name b) 0 == 32) ≡ false = ap (λ (k : ℕ). get_or b k 0 == 32) (sym n) ∙ ap (λ (k : ℕ). k == 32) (sym c.octet_at-after.ensures)
    ∙ ne_eqb c.octet_at-after.result 32 c.if-after-ne32.true in
    let some : 0 < length b = omega (arith, c.if-n-bytes.true) in
    c.behind-then-after-ne32.ensures ∙ ap (λ (k : ℕ). drop (k + 1) b) n ∙ ap (λ (r : List (List ℕ) × List ℕ). r.1) (sym (flags_one b begun some octet))
