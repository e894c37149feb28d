use Rattle.std.proofs.Common.{◌≡◌, ◌++◌, ℕ, List, take, drop, true, false, sym, ap, ◌∙◌, arith}
use Rattle.std.proofs.lemmas.List.{take-append-drop}
use Rattle.text_words.specs.LineEnds.{begins_with_lf}
use Rattle.mail_header.specs.Lines.{begins_with_cr}
use Rattle.mail_header.proofs.LineLemmas.{whole_kept, crlf_cut, lf_cut}
use Rattle.mail_header.proofs.lines.without_end.Goals as goal

joined : (t x l : List ℕ) (n : ℕ) → x ≡ take n t → l ≡ drop n t → t ≡ x ++ l
joined t x l n e f = sym (take-append-drop n t) ∙ ap (λ (u : List ℕ). u ++ drop n t) (sym e) ∙ ap (λ (u : List ℕ). x ++ u) (sym f)

pub returns-then-not-begins_with_lf : goal.returns-then-not-begins_with_lf
returns-then-not-begins_with_lf c =
    let x = c.split_at.result.0.now in
    let l = c.split_at.result.1.now in
    whole_kept c.args.text.now x l (joined _ x l _ c.split_at.ensures.front c.split_at.ensures.back) (omega (arith, c.split_at.ensures.back_len))
    (let e : begins_with_lf l ≡ false = cc in e)

pub returns-then-begins_with_cr : goal.returns-then-begins_with_cr
returns-then-begins_with_cr c =
    let x = c.split_at.result.0.now in
    let l = c.split_at.result.1.now in
    let y = c.split_at-2.result.0.now in
    let m = c.split_at-2.result.1.now in
    crlf_cut c.args.text.now x l y m (joined _ x l _ c.split_at.ensures.front c.split_at.ensures.back) (omega (arith, c.split_at.ensures.back_len))
    (let e : begins_with_lf l ≡ true = cc in e)
    (joined _ y m _ c.split_at-2.ensures.front c.split_at-2.ensures.back) (omega (arith, c.split_at-2.ensures.back_len)) (let e : begins_with_cr m ≡ true = cc in e)

pub returns-else-begins_with_cr : goal.returns-else-begins_with_cr
returns-else-begins_with_cr c =
    let x = c.split_at.result.0.now in
    let l = c.split_at.result.1.now in
    let y = c.split_at-2.result.0.now in
    let m = c.split_at-2.result.1.now in
    lf_cut c.args.text.now x l y m (joined _ x l _ c.split_at.ensures.front c.split_at.ensures.back) (omega (arith, c.split_at.ensures.back_len))
    (let e : begins_with_lf l ≡ true = cc in e)
    (joined _ y m _ c.split_at-2.ensures.front c.split_at-2.ensures.back) (omega (arith, c.split_at-2.ensures.back_len)) (let e : begins_with_cr m ≡ false = cc in e)
