use Rattle.std.proofs.Common.{◌≡◌, ℕ, List, length, Some, None, take, sym, ap, subst, arith}
use Rattle.text_words.proofs.SequenceLemmas.{Within, unit_within}
use Rattle.header_tokens.specs.declared.token.Alphabet.{Alphabet}
use Rattle.header_tokens.specs.declared.token.Kind.{Kind}
use Rattle.header_tokens.specs.Tokens.{Spelled}
use Rattle.header_tokens.specs.reading.TokenReading.{token_in, spelled_of, spelled_in, IsFirstToken}
use Rattle.header_tokens.proofs.OneToken.{token_reader}
use Rattle.header_tokens.proofs.tokens.first_token.Goals as goal

spelled : Kind → ℕ → List ℕ → Spelled
spelled k n t = record { kind = k; text = take n t }

reads : (a : Alphabet) (k : Kind) (n : ℕ) (t : List ℕ) → token_in a t ≡ Some (k, n) → spelled_in a t ≡ Some (spelled k n t, n)
unfolding spelled
reads a k n t e = ap (spelled_of t) e

within : (a : Alphabet) (k : Kind) (n : ℕ) (t : List ℕ) → token_in a t ≡ Some (k, n) → Within n (length t)
within a k n t e = unit_within (spelled_in a) (token_reader a) (spelled k n t) n t (reads a k n t e)

pub split_at-requires : goal.split_at-requires
split_at-requires c =
    let e : token_in c.args.alphabet c.args.text.now ≡ Some (c.in-Some.kind, c.in-Some.len) = cc in
    (within c.args.alphabet c.in-Some.kind c.in-Some.len c.args.text.now e).within

pub returns-in-None-clause-value : goal.returns-in-None-clause-value
returns-in-None-clause-value c =
    let e : token_in c.args.alphabet c.args.text.now ≡ None = cc in
    ap (spelled_of c.args.text.now) e

pub returns-in-Some-clause-value : goal.returns-in-Some-clause-value
unfolding spelled
returns-in-Some-clause-value c =
    let t = c.args.text.now in
    let k = c.in-Some.kind in
    let n = c.in-Some.len in
    let e : token_in c.args.alphabet t ≡ Some (k, n) = cc in
    let P : List ℕ → Type 0 = λ u. IsFirstToken c.args.alphabet (record { kind = k; text = u }) c.split_at.result.1.now t in
    subst P (sym c.split_at.ensures.front) (record { len = n; read = reads c.args.alphabet k n t e; rest_is = c.split_at.ensures.back })

pub returns-in-Some-clause-shorter : goal.returns-in-Some-clause-shorter
returns-in-Some-clause-shorter c =
    let e : token_in c.args.alphabet c.args.text.now ≡ Some (c.in-Some.kind, c.in-Some.len) = cc in
    let w = within c.args.alphabet c.in-Some.kind c.in-Some.len c.args.text.now e in
    omega (arith, w.some, w.within, c.split_at.ensures.back_len)
