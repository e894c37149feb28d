use Rattle.std.proofs.Common.{◌≡◌, ◌<◌, ℕ, List, ◌++◌, length, eqb, false, sym, ap, ◌∙◌, subst, arith}
use Rattle.std.specs.List.{flat_map}
use Rattle.text_words.specs.Cuts.{front, back}
use Rattle.header_words.specs.OneLine.{line_octet, one_line}
use Rattle.header_words.proofs.LineLemmas.{is_plain, white_text, line_more, shorter}
use Rattle.header_words.proofs.one_line.as_one_line.Goals as goal

some : (t : List ℕ) → eqb (length t) 0 ≡ false → 0 < length t
some t e = by (length t) e
  where
    by : (n : ℕ) → eqb n 0 ≡ false → 0 < n
    by n e = grind arith

pub loop-rest-preserved : goal.loop-rest-preserved
loop-rest-preserved c =
    let t = c.loop-rest.rest.now in
    let line = c.push_octets.new.line.items in
    let more = c.cut-in-loop-rest.ensures.back ∙ ap (back is_plain) c.cut.ensures.back in
    let plain = c.cut-in-loop-rest.ensures.front ∙ ap (front is_plain) c.cut.ensures.back in
    ap (λ (u : List ℕ). line ++ one_line u) more
    ∙ line_more t c.loop-rest.line.items c.push_white.new.line.items line (one_line c.args.text.now) c.loop-rest.invariant
    (c.in_ok-push_white.ensures ∙ ap (λ (u : List ℕ). c.loop-rest.line.items ++ white_text u) c.cut.ensures.front)
    (c.in_ok-push_octets.ensures ∙ ap (λ (u : List ℕ). c.push_white.new.line.items ++ flat_map line_octet u) plain)

pub loop-rest-smaller : goal.loop-rest-smaller
loop-rest-smaller c =
    let t = c.loop-rest.rest.now in
    let more = c.cut-in-loop-rest.ensures.back ∙ ap (back is_plain) c.cut.ensures.back in
    let P : List ℕ → Type 0 = λ u. length u < length t in
    subst P (sym more) (shorter t (some t (let e : eqb (length t) 0 ≡ false = cc in e)))
