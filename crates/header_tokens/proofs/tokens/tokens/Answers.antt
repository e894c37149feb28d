use Rattle.std.proofs.Common.{◌≡◌, ◌≢◌, ℕ, List, [], length, eqb, true, false, eq-eqb, eqb-true, ap}
use Rattle.std.proofs.lemmas.List.{nil_from_length}
use Rattle.header_tokens.specs.TokenView.{tokens_view}
use Rattle.header_tokens.proofs.LeadingLemmas.{all_read, not_all}
use Rattle.header_tokens.proofs.tokens.tokens.Goals as goal

some_left : (t : List ℕ) → eqb (length t) 0 ≡ false → t ≢ []
some_left t e n = let q : eqb (length t) 0 ≡ true = eq-eqb (length t) 0 (ap length n) in cc

pub returns-then-is_empty-clause-some : goal.returns-then-is_empty-clause-some
returns-then-is_empty-clause-some c =
    let rest = c.in_ok-found.rest.now in
    all_read c.args.alphabet (tokens_view c.in_ok-found.found.items) rest c.args.text.now c.in_ok-found.ensures (nil_from_length rest
    (let e : eqb (length rest) 0 ≡ true = cc in eqb-true (length rest) 0 e))

pub returns-clause-none : goal.returns-clause-none
returns-clause-none c =
    let rest = c.in_ok-found.rest.now in
    not_all c.args.alphabet (tokens_view c.in_ok-found.found.items) rest c.args.text.now c.in_ok-found.ensures (some_left rest (let e : eqb (length rest) 0 ≡ false = cc in e))
