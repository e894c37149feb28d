use Rattle.std.proofs.Common.{ℕ, ◌%◌, List, length, ap, sym, ◌∙◌, subst, arith}
use Rattle.text_words.specs.Cuts.{Each}
use Rattle.header_words.specs.Base64.{is_equals_sign}
use Rattle.header_words.proofs.Base64Lemmas.{symbols_are, padding_is, is_base64}
use Rattle.header_words.proofs.base64_text.decode_base64.Goals as goal

pub returns-then-symbols-eq1-clause-none : goal.returns-then-symbols-eq1-clause-none
returns-then-symbols-eq1-clause-none c = λ octets b.
    let e = ap length (symbols_are octets c.args.text.now b ∙ sym c.cut.ensures.front) in
    b.complete (ap (λ (n : ℕ). n % 4) e ∙ c.if-symbols-eq1.true)

pub returns-then-padding-gt2-clause-none : goal.returns-then-padding-gt2-clause-none
returns-then-padding-gt2-clause-none c = λ octets b.
    let e = ap length (padding_is octets c.args.text.now b ∙ sym c.cut.ensures.back) in
    omega (arith, b.few, c.if-padding-gt2.true)

pub returns-then-not-are_all-clause-none : goal.returns-then-not-are_all-clause-none
returns-then-not-are_all-clause-none c = λ octets b.
    let P : List ℕ → Type 0 = λ u. Each is_equals_sign u in
    let e = c.are_all.ensures.each.1 (subst P (padding_is octets c.args.text.now b ∙ sym c.cut.ensures.back) b.equals) in
    let f = c.if-not-are_all.true in
    absurd cc

pub returns-clause-some : goal.returns-clause-some
returns-clause-some c =
    is_base64 _ c.args.text.now c.cut.result.0.now c.cut.result.1.now c.cut.ensures.front c.cut.ensures.back
    c.if-symbols-eq1.false (omega (arith, c.if-padding-gt2.false)) (c.are_all.ensures.each.0 (let f = c.if-not-are_all.false in cc)) (c.in_ok-decode_symbols.ensures)
