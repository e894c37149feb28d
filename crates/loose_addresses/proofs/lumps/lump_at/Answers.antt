use Rattle.std.proofs.Common.{◌≡◌, ◌-◌, ℕ, List, ◌++◌, length, take, sym, ap, ◌∙◌, subst, arith, take-append-drop}
use Rattle.std.proofs.lemmas.List.{length-drop}
use Rattle.header_tokens.proofs.ClosingLemmas.{tell_len, tell_end, tell_open}
use Rattle.header_tokens.specs.Kinds.{first_octet}
use Rattle.loose_addresses.specs.Lumps.{is_separator}
use Rattle.loose_addresses.specs.reading.ElementSteps.{LumpOf}
use Rattle.loose_addresses.proofs.lumps.lump_at.Goals as goal

pub returns-then-is_separator : goal.returns-then-is_separator
returns-then-is_separator c =
    ap (λ (u : List ℕ). is_separator (first_octet u)) (sym c.split_at.ensures.back) ∙ ap is_separator (sym c.first_octet.ensures) ∙ sym c.is_separator.ensures ∙ c.if-is_separator.true

pub bounds-closed-rest : goal.bounds-closed-rest
bounds-closed-rest c =
    let n = tell_len c.args.closed.now c.args.text.now c.requires.tell in
    omega (arith, n, length-drop c.args.at c.args.text.now, ap length c.split_at.ensures.back, c.requires.within)

pub lump_len-requires-clause-plain : goal.lump_len-requires-clause-plain
lump_len-requires-clause-plain c = ap is_separator (sym c.first_octet.ensures) ∙ sym c.is_separator.ensures ∙ c.if-is_separator.false

pub lump_len-requires-clause-open : goal.lump_len-requires-clause-open
lump_len-requires-clause-open c = λ f.
    let t = c.args.text.now in
    let rest = c.split_at.result.1.now in
    let e = c.split_at.ensures.back in
    let w : t ≡ take c.args.at t ++ rest = sym (take-append-drop c.args.at t) ∙ ap (λ (u : List ℕ). take c.args.at t ++ u) (sym e) in
    let h = tell_end c.args.closed.now (take c.args.at t) rest t w c.requires.tell in
    tell_open c.args.closed.now rest (length rest - 1) _ h (omega (arith, length-drop c.args.at t, ap length e, c.requires.within)) f

pub returns : goal.returns
returns c = subst (λ (u : List ℕ). LumpOf c.lump_len.result u) c.split_at.ensures.back c.lump_len.ensures
