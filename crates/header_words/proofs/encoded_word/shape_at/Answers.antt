use Rattle.std.proofs.Common.{◌∷◌, ◌++◌}
use Rattle.header_words.proofs.ShapeLemmas.{NoShape, if_none, behind_charset, behind_text}
use Rattle.header_words.proofs.encoded_word.shape_at.Goals as goal

pub returns-in_err-letter-clause-none : goal.returns-in_err-letter-clause-none
returns-in_err-letter-clause-none c = if_none {P = NoShape c.args.text.now} _ (λ cs l x y h.
    let k = behind_charset _ _ _ _ _ cs l x y c.in_ok-inner.ensures c.in_ok-inner-2.ensures c.in_ok-charset.ensures.1 c.in_ok-charset.ensures.0 h in
    let e = k.back in let f = c.in_err-letter.ensures in absurd cc)

pub returns-in_err-inner-3-clause-none : goal.returns-in_err-inner-3-clause-none
returns-in_err-inner-3-clause-none c = if_none {P = NoShape c.args.text.now} _ (λ cs l x y h.
    let k = behind_charset _ _ _ _ _ cs l x y c.in_ok-inner.ensures c.in_ok-inner-2.ensures c.in_ok-charset.ensures.1 c.in_ok-charset.ensures.0 h in
    let e = k.back in let f = c.in_ok-letter.ensures in
    c.in_err-inner-3.ensures (x ++ 63 ∷ 61 ∷ y) cc)

pub returns-in_err-encoded-clause-none : goal.returns-in_err-encoded-clause-none
returns-in_err-encoded-clause-none c = if_none {P = NoShape c.args.text.now} _ (λ cs l x y h.
    let k = behind_charset _ _ _ _ _ cs l x y c.in_ok-inner.ensures c.in_ok-inner-2.ensures c.in_ok-charset.ensures.1 c.in_ok-charset.ensures.0 h in
    let e = k.back in let f = c.in_ok-letter.ensures in let g = c.in_ok-inner-3.ensures in
    c.in_err-encoded.ensures x (61 ∷ y) h.printed cc)

pub returns-in_err-after-clause-none : goal.returns-in_err-after-clause-none
returns-in_err-after-clause-none c = if_none {P = NoShape c.args.text.now} _ (λ cs l x y h.
    let k = behind_charset _ _ _ _ _ cs l x y c.in_ok-inner.ensures c.in_ok-inner-2.ensures c.in_ok-charset.ensures.1 c.in_ok-charset.ensures.0 h in
    let e = k.back in let f = c.in_ok-letter.ensures in let g = c.in_ok-inner-3.ensures in
    let b = behind_text _ _ _ x y c.in_ok-encoded.ensures.1 c.in_ok-encoded.ensures.0 h.printed cc in
    c.in_err-after.ensures y b.back)
