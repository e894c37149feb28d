-- Rows of tokens, one before another (RFC 5322 section 3.2).
use Rattle.std.proofs.Common.{◌≡◌, ℕ, Bool, true, List, [], ◌∷◌, ◌++◌, sym, ap, ◌∙◌, subst, append_assoc}
use Rattle.text_words.specs.Cuts.{Each, Stops}
use Rattle.header_tokens.specs.declared.token.Alphabet.{Alphabet}
use Rattle.header_tokens.specs.declared.token.Kind.{Kind}
use Rattle.header_tokens.specs.declared.token.Kind.TheVariants as kind
use Rattle.header_tokens.specs.Tokens.{is_letter, EndsBefore, Spelled, AreTokens}
use Rattle.header_tokens.specs.Lexemes.{is_lexeme_kind, is_lexeme}

stops_on : (p : ℕ → Bool) (r u : List ℕ) → Stops p r → Stops p u → Stops p (r ++ u)
stops_on p [] u e f = f
stops_on p (c ∷ r) u e f = e

ends_on : (a : Alphabet) (k : Kind) (r u : List ℕ) → is_lexeme_kind k ≡ true → EndsBefore a k r → Stops (is_letter a) u → EndsBefore a k (r ++ u)
ends_on a kind.Atom r u n e f = stops_on (is_letter a) r u e f
ends_on a kind.Space r u n e f = absurd cc
ends_on a kind.Comment r u n e f = tt
ends_on a kind.Quoted r u n e f = tt
ends_on a kind.Literal r u n e f = tt
ends_on a kind.Mark r u n e f = tt

-- tokens without gaps, before a text that goes on with no letter
pub tokens_before : (a : Alphabet) (ts us : List Spelled) (t u : List ℕ) → AreTokens a ts t → Each is_lexeme ts → Stops (is_letter a) u → AreTokens a us u
    → AreTokens a (ts ++ us) (t ++ u)
tokens_before a [] us t u h g e f = subst (λ (x : List ℕ). AreTokens a us (x ++ u)) (sym h) f
tokens_before a (v ∷ vs) us t u h g e f = record {
  unit = h.unit;
  rest = h.rest ++ u;
  whole = ap (λ (x : List ℕ). x ++ u) h.whole ∙ append_assoc h.unit h.rest u;
  is = record { text_is = h.is.text_is; spelled = h.is.spelled; ends = ends_on a v.kind h.rest u g.0 h.is.ends e };
  more = tokens_before a vs us h.rest u h.more g.1 e f;
}
