use Rattle.std.proofs.Common.{◌≡◌, ℕ, Bool, List, ◌∷◌, ◌+◌, ◌-◌, true, false, get_or, drop, arith, ◌∙◌}
use Rattle.header_tokens.specs.reading.TokenReading.{close_in, further}
use Rattle.header_tokens.proofs.BracketSteps.{keeps, ends_here, found_here, close_escaped, close_slash, close_down, close_up, close_other}
use Rattle.header_tokens.proofs.tokens.closing.Goals as goal
use Rattle.header_tokens.proofs.tokens.closing.Goals.{then-escaped, else-escaped+then-octet-eq92, else-escaped+else-octet-eq92+then-octet-closer+else-depth-eq0}
use Rattle.header_tokens.proofs.tokens.closing.Goals.{else-escaped+else-octet-eq92+else-octet-closer+then-octet-opener}
use Rattle.header_tokens.proofs.tokens.closing.Goals.{else-escaped+else-octet-eq92+else-octet-closer+else-octet-opener}

pub returns-then-depth-eq0-clause-value : goal.returns-then-depth-eq0-clause-value
returns-then-depth-eq0-clause-value c =
    found_here _ _ _ _ _ _ _ c.loop-i-test.true c.if-depth-eq0.true c.if-escaped.false c.if-octet-eq92.false c.if-octet-closer.true c.loop-i.invariant.same

pub loop-i-preserved : goal.loop-i-preserved
loop-i-preserved c =
    let o = c.args.opener in
    let q = c.args.closer in
    let d = c.loop-i.depth in
    let e = c.loop-i.escaped in
    let b = c.args.text.now in
    let i = c.loop-i.i in
    let x = get_or b i 0 in
    let t = drop (i + 1) b in
    let lt = c.loop-i-test.true in
    let was = c.loop-i.invariant.same in
    elim c.if-escaped.branch [
      | then-escaped w ↦ record { shallow = omega arith; same = keeps o q d d _ e false _ b i _ lt was w.depth-is w.escaped-is (at_true o q d e x t w.if-escaped.true) }
      | else-escaped+then-octet-eq92 w ↦ record {
        shallow = omega arith;
        same = keeps o q d d _ e true _ b i _ lt was w.depth-is w.escaped-is
            (at_false o q d d e true x t w.if-escaped.false (close_slash o q d x t w.if-octet-eq92.true));
      }
      | else-escaped+else-octet-eq92+then-octet-closer+else-depth-eq0 w ↦ record {
        shallow = omega arith;
        same = keeps o q d (d - 1) _ e false _ b i _ lt was w.depth-is
            (w.escaped-is ∙ w.if-escaped.false) (at_false o q d (d - 1) e false x t w.if-escaped.false
            (close_down o q d x t w.if-octet-eq92.false w.if-octet-closer.true w.if-depth-eq0.false));
      }
      | else-escaped+else-octet-eq92+else-octet-closer+then-octet-opener w ↦ record {
        shallow = omega arith;
        same = keeps o q d (d + 1) _ e false _ b i _ lt was w.depth-is
            (w.escaped-is ∙ w.if-escaped.false) (at_false o q d (d + 1) e false x t w.if-escaped.false
            (close_up o q d x t w.if-octet-eq92.false w.if-octet-closer.false w.if-octet-opener.true));
      }
      | else-escaped+else-octet-eq92+else-octet-closer+else-octet-opener w ↦ record {
        shallow = omega arith;
        same = keeps o q d d _ e false _ b i _ lt was w.depth-is
            (w.escaped-is ∙ w.if-escaped.false) (at_false o q d d e false x t w.if-escaped.false
            (close_other o q d x t w.if-octet-eq92.false w.if-octet-closer.false w.if-octet-opener.false));
      }
    ]
  where
    at_true : (o c d : ℕ) (e : Bool) (x : ℕ) (t : List ℕ) → e ≡ true → close_in o c d e (x ∷ t) ≡ further 1 (close_in o c d false t)
    at_true o c d e x t h = let h' = close_escaped o c d x t in cc

    at_false : (o c d d' : ℕ) (e e' : Bool) (x : ℕ) (t : List ℕ) → e ≡ false → close_in o c d false (x ∷ t) ≡ further 1 (close_in o c d' e' t)
        → close_in o c d e (x ∷ t) ≡ further 1 (close_in o c d' e' t)
    at_false o c d d' e e' x t h k = cc

pub returns-clause-value : goal.returns-clause-value
returns-clause-value c = ends_here _ _ c.loop-i.depth c.loop-i.escaped c.args.text.now c.loop-i.i _ c.loop-i-test.false c.loop-i.invariant.same
