use Rattle.std.proofs.Common.{◌≡◌, ℕ, List, false, true, refl, sym, ap, subst, ◌∙◌, arith}
use Rattle.header_tokens.specs.TokenView.{token_view}
use Rattle.header_tokens.specs.Lexemes.{is_lexeme}
use Rattle.header_tokens.specs.reading.LexemeReading.{lexemes_in}
use Rattle.header_tokens.proofs.LexemeLemmas.{gap_passed, next_read, none_left, first_past, first_here, FirstOf}
use Rattle.header_tokens.proofs.lexemes.lexeme_at.Goals as goal

pub loop-token-preserved : goal.loop-token-preserved
loop-token-preserved c =
    let a = c.args.alphabet in
    let rest = c.loop-token.rest.now in
    let f = c.in-Some.ensures.value in
    let v = token_view c.in-Some.token in
    let g : is_lexeme v ≡ false = sym c.is_lexeme.ensures ∙ c.if-is_lexeme.false in
    record {
      lexemes = ap (lexemes_in a) f.rest_is ∙ sym (gap_passed a v f.len rest f.read g) ∙ c.loop-token.invariant.lexemes;
      first = let P : List ℕ → Type 0 = λ u. FirstOf a u c.args.text.now in
          subst P (sym f.rest_is) (first_past a v f.len rest c.args.text.now c.loop-token.invariant.first f.read g);
      within = omega (arith, c.in-Some.ensures.shorter, c.loop-token.invariant.within);
    }

pub returns-then-is_lexeme-clause-value : goal.returns-then-is_lexeme-clause-value
returns-then-is_lexeme-clause-value c =
    let v = token_view c.in-Some.token in
    let l : is_lexeme v ≡ true = sym c.is_lexeme.ensures ∙ c.if-is_lexeme.true in
    next_read c.args.alphabet v c.in-Some.behind.now c.loop-token.rest.now c.args.text.now c.loop-token.invariant.lexemes c.in-Some.ensures.value l

pub returns-clause-value : goal.returns-clause-value
returns-clause-value c = sym c.loop-token.invariant.lexemes ∙ none_left c.args.alphabet c.loop-token.rest.now c.in_default.ensures.value

pub loop-token-init : goal.loop-token-init
loop-token-init c = record { lexemes = refl; first = λ v more b. b; within = omega arith }

pub returns-then-is_lexeme-clause-first : goal.returns-then-is_lexeme-clause-first
returns-then-is_lexeme-clause-first c =
    let v = token_view c.in-Some.token in
    let l : is_lexeme v ≡ true = sym c.is_lexeme.ensures ∙ c.if-is_lexeme.true in
    c.loop-token.invariant.first v c.in-Some.behind.now (first_here c.args.alphabet v c.in-Some.behind.now c.loop-token.rest.now c.in-Some.ensures.value l)

pub returns-clause-first : goal.returns-clause-first
returns-clause-first c = sym c.loop-token.invariant.lexemes ∙ none_left c.args.alphabet c.loop-token.rest.now c.in_default.ensures.value
