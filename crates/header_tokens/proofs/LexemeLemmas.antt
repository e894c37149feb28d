-- The lexemes at the front of a text, read one after another.
use Rattle.std.proofs.Common.{◌≡◌, ◌≢◌, ℕ, zero, suc, ◌<◌, ◌≤◌, Bool, true, false, MatchBool, eqb, eqb-true, eq-eqb, List, [], ◌∷◌, ◌++◌, length, drop, refl, sym, ap, ◌∙◌, subst, Option}
use Rattle.std.proofs.Common.{Some, None}
use Rattle.std.proofs.Common.{arith}
use Rattle.std.specs.List.{filter}
use Rattle.std.specs.Option.{MatchOption}
use Rattle.std.proofs.lemmas.Bool.{cond-true, cond-false}
use Rattle.std.proofs.lemmas.List.{length-drop, drop_at, nil_from_length}
use Rattle.text_words.proofs.SequenceLemmas.{Within, unit_within}
use Rattle.header_tokens.specs.declared.token.Alphabet.{Alphabet}
use Rattle.header_tokens.specs.Tokens.{Spelled, IsToken, AreTokens, AreLeading}
use Rattle.header_tokens.specs.reading.TokenReading.{spelled_in, IsFirstToken}
use Rattle.header_tokens.specs.Lexemes.{is_lexeme, AreLexemes, AreLeadingLexemes, IsNextLexeme, BeginsAfter, BeginsWithLexeme}
use Rattle.header_tokens.specs.reading.LexemeReading.{tokens_then, tokens_within, rest_then, rest_within, tokens_in, rest_in, lexemes_in, ReadsLexeme}
use Rattle.header_tokens.proofs.OneToken.{token_reader}
use Rattle.header_tokens.proofs.LeadingLemmas.{none_begins, all_read, not_all, one_leading_lexemes, one_token}

-- a token that was read is some of the text
pub read_within : (a : Alphabet) (v : Spelled) (n : ℕ) (t : List ℕ) → spelled_in a t ≡ Some (v, n) → Within n (length t)
read_within a v n t e = unit_within (spelled_in a) (token_reader a) v n t e

-- ---- with room for the whole text, room doesn't matter

none_in_nothing : (a : Alphabet) → spelled_in a [] ≡ None
unfolding Rattle.header_tokens.specs.reading.TokenReading.token_in
none_in_nothing a = refl

same_tokens : (a : Alphabet) (n m : ℕ) (t : List ℕ) → length t ≤ n → length t ≤ m → tokens_within a n t ≡ tokens_within a m t
unfolding tokens_within
same_tokens a zero zero t h k = refl
same_tokens a zero (suc m) t h k =
    let e = nil_from_length t (omega arith) in
    sym (ap (λ (o : Option (Spelled × ℕ)). tokens_then o (tokens_within a m) t) (ap (spelled_in a) e ∙ none_in_nothing a))
same_tokens a (suc n) zero t h k =
    let e = nil_from_length t (omega arith) in
    ap (λ (o : Option (Spelled × ℕ)). tokens_then o (tokens_within a n) t) (ap (spelled_in a) e ∙ none_in_nothing a)
same_tokens a (suc n) (suc m) t h k = by (spelled_in a t) refl (λ x l g. same_tokens a n m x l g)
  where
    by : (o : Option (Spelled × ℕ)) → spelled_in a t ≡ o → ((x : List ℕ) → length x ≤ n → length x ≤ m → tokens_within a n x ≡ tokens_within a m x)
        → tokens_then (spelled_in a t) (tokens_within a n) t ≡ tokens_then (spelled_in a t) (tokens_within a m) t
    by None e same = ap (λ (o : Option (Spelled × ℕ)). tokens_then o (tokens_within a n) t) e ∙ sym (ap (λ (o : Option (Spelled × ℕ)). tokens_then o (tokens_within a m) t) e)
    by (Some p) e same =
        let w = read_within a p.0 p.1 t e in
        let l : length (drop p.1 t) ≤ n = omega (arith, length-drop p.1 t, w.some, w.within) in
        let g : length (drop p.1 t) ≤ m = omega (arith, length-drop p.1 t, w.some, w.within) in
        ap (λ (o : Option (Spelled × ℕ)). tokens_then o (tokens_within a n) t) e
        ∙ ap (λ (u : List Spelled). p.0 ∷ u) (same (drop p.1 t) l g)
        ∙ sym (ap (λ (o : Option (Spelled × ℕ)). tokens_then o (tokens_within a m) t) e)

same_rest : (a : Alphabet) (n m : ℕ) (t : List ℕ) → length t ≤ n → length t ≤ m → rest_within a n t ≡ rest_within a m t
unfolding rest_within
same_rest a zero zero t h k = refl
same_rest a zero (suc m) t h k =
    let e = nil_from_length t (omega arith) in
    sym (ap (λ (o : Option (Spelled × ℕ)). rest_then o (rest_within a m) t) (ap (spelled_in a) e ∙ none_in_nothing a))
same_rest a (suc n) zero t h k =
    let e = nil_from_length t (omega arith) in
    ap (λ (o : Option (Spelled × ℕ)). rest_then o (rest_within a n) t) (ap (spelled_in a) e ∙ none_in_nothing a)
same_rest a (suc n) (suc m) t h k = by (spelled_in a t) refl (λ x l g. same_rest a n m x l g)
  where
    by : (o : Option (Spelled × ℕ)) → spelled_in a t ≡ o → ((x : List ℕ) → length x ≤ n → length x ≤ m → rest_within a n x ≡ rest_within a m x)
        → rest_then (spelled_in a t) (rest_within a n) t ≡ rest_then (spelled_in a t) (rest_within a m) t
    by None e same = ap (λ (o : Option (Spelled × ℕ)). rest_then o (rest_within a n) t) e ∙ sym (ap (λ (o : Option (Spelled × ℕ)). rest_then o (rest_within a m) t) e)
    by (Some p) e same =
        let w = read_within a p.0 p.1 t e in
        let l : length (drop p.1 t) ≤ n = omega (arith, length-drop p.1 t, w.some, w.within) in
        let g : length (drop p.1 t) ≤ m = omega (arith, length-drop p.1 t, w.some, w.within) in
        ap (λ (o : Option (Spelled × ℕ)). rest_then o (rest_within a n) t) e
        ∙ same (drop p.1 t) l g
        ∙ sym (ap (λ (o : Option (Spelled × ℕ)). rest_then o (rest_within a m) t) e)

-- ---- the token at the front, and what follows it

-- where a token is read, the tokens at the front are that one, and then those of what follows it
pub tokens_step : (a : Alphabet) (v : Spelled) (n : ℕ) (t : List ℕ) → spelled_in a t ≡ Some (v, n) → tokens_in a t ≡ v ∷ tokens_in a (drop n t)
unfolding tokens_in tokens_within
tokens_step a v n [] e = let z = none_in_nothing a in absurd cc
tokens_step a v n (c ∷ t) e =
    let w = read_within a v n (c ∷ t) e in
    ap (λ (o : Option (Spelled × ℕ)). tokens_then o (tokens_within a (length t)) (c ∷ t)) e
    ∙ ap (λ (u : List Spelled). v ∷ u) (same_tokens a (length t) (length (drop n (c ∷ t))) (drop n (c ∷ t)) (omega (arith, length-drop n (c ∷ t), w.some, w.within)) (omega arith))

-- where no token is read, there are no tokens at the front
pub tokens_none : (a : Alphabet) (t : List ℕ) → spelled_in a t ≡ None → tokens_in a t ≡ []
unfolding tokens_in tokens_within
tokens_none a [] e = refl
tokens_none a (c ∷ t) e = ap (λ (o : Option (Spelled × ℕ)). tokens_then o (tokens_within a (length t)) (c ∷ t)) e

-- where a token is read, what the tokens at the front leave is what the tokens after that one leave
pub rest_step : (a : Alphabet) (v : Spelled) (n : ℕ) (t : List ℕ) → spelled_in a t ≡ Some (v, n) → rest_in a t ≡ rest_in a (drop n t)
unfolding rest_in rest_within
rest_step a v n [] e = let z = none_in_nothing a in absurd cc
rest_step a v n (c ∷ t) e =
    let w = read_within a v n (c ∷ t) e in
    ap (λ (o : Option (Spelled × ℕ)). rest_then o (rest_within a (length t)) (c ∷ t)) e
    ∙ same_rest a (length t) (length (drop n (c ∷ t))) (drop n (c ∷ t)) (omega (arith, length-drop n (c ∷ t), w.some, w.within)) (omega arith)

-- where no token is read, the whole text is left
pub rest_none : (a : Alphabet) (t : List ℕ) → spelled_in a t ≡ None → rest_in a t ≡ t
unfolding rest_in rest_within
rest_none a [] e = refl
rest_none a (c ∷ t) e = ap (λ (o : Option (Spelled × ℕ)). rest_then o (rest_within a (length t)) (c ∷ t)) e

-- ---- they are the tokens of the text

leads_step : (a : Alphabet) (t : List ℕ) → ((x : List ℕ) → length x < length t → AreLeading a (tokens_in a x) (rest_in a x) x) → AreLeading a (tokens_in a t) (rest_in a t) t
leads_step a t shorter = by (spelled_in a t) refl
  where
    by : (o : Option (Spelled × ℕ)) → spelled_in a t ≡ o → AreLeading a (tokens_in a t) (rest_in a t) t
    by None e =
        let P : List Spelled → Type 0 = λ u. AreLeading a u (rest_in a t) t in
        subst P (sym (tokens_none a t e)) (sym (rest_none a t e), none_begins a t e)
    by (Some p) e =
        let w = read_within a p.0 p.1 t e in
        let u = (token_reader a).sound p.0 p.1 t e in
        let behind : drop p.1 t ≡ u.rest = ap (drop p.1) u.whole ∙ drop_at u.unit u.rest p.1 (sym u.counted) in
        let more = shorter (drop p.1 t) (omega (arith, length-drop p.1 t, w.some, w.within)) in
        let P : List Spelled → Type 0 = λ x. AreLeading a x (rest_in a t) t in
        let Q : List ℕ → Type 0 = λ x. AreLeading a (tokens_in a (drop p.1 t)) x u.rest in
        let R : List ℕ → Type 0 = λ x. AreLeading a (tokens_in a (drop p.1 t)) (rest_in a (drop p.1 t)) x in
        subst P (sym (tokens_step a p.0 p.1 t e))
        (record { unit = u.unit; rest = u.rest; whole = u.whole; is = u.is; more = subst Q (sym (rest_step a p.0 p.1 t e)) (subst R behind more) })

leads_within : (a : Alphabet) (n : ℕ) (t : List ℕ) → length t ≤ n → AreLeading a (tokens_in a t) (rest_in a t) t
leads_within a zero t h = leads_step a t (λ x l. absurd (omega (arith, l, h)))
leads_within a (suc n) t h = leads_step a t (λ x l. leads_within a n x (omega (arith, l, h)))

-- the tokens that are read at the front of a text are the tokens there, and no token begins what they leave
pub leads : (a : Alphabet) (t : List ℕ) → AreLeading a (tokens_in a t) (rest_in a t) t
leads a t = leads_within a (length t) t (omega arith)

-- the lexemes that are read at the front of a text are the lexemes there
pub lexemes_are : (a : Alphabet) (t : List ℕ) → AreLeadingLexemes a (lexemes_in a t) t
unfolding lexemes_in
lexemes_are a t = record { tokens = tokens_in a t; rest = rest_in a t; are = leads a t; lexemes_are = refl }

-- the text is a row of tokens where nothing is left, and else it is none
pub row_read : (a : Alphabet) (t : List ℕ) → rest_in a t ≡ [] → AreLexemes a (lexemes_in a t) t
unfolding lexemes_in
row_read a t e = record { tokens = tokens_in a t; are = all_read a (tokens_in a t) (rest_in a t) t (leads a t) e; lexemes_are = refl }

-- where the reading leaves something, the text is no row of tokens
pub no_row : (a : Alphabet) (t : List ℕ) → rest_in a t ≢ [] → (ts : List Spelled) → AreTokens a ts t → ⊥
no_row a t n ts h = not_all a (tokens_in a t) (rest_in a t) t (leads a t) n ts h

-- whether nothing is left tells whether the text is a row of tokens
pub row_told : (a : Alphabet) (t rest : List ℕ) (b : Bool) → rest ≡ rest_in a t → b ≡ eqb (length rest) 0
    → MatchBool b ((ts : List Spelled) × AreTokens a ts t) ((ts : List Spelled) → AreTokens a ts t → ⊥)
row_told a t rest true r e = let w = row_read a t (sym r ∙ nil_from_length rest (eqb-true (length rest) 0 (sym e))) in (w.tokens, w.are)
row_told a t rest false r e = no_row a t (λ z. let f = eq-eqb (length rest) 0 (ap length (r ∙ z)) in absurd cc)

-- of a row of tokens, the lexemes that are read are the lexemes
pub row_lexemes : (a : Alphabet) (t : List ℕ) (ts : List Spelled) → AreTokens a ts t → AreLexemes a (lexemes_in a t) t
row_lexemes a t ts h = by (rest_in a t) refl
  where
    by : (u : List ℕ) → rest_in a t ≡ u → AreLexemes a (lexemes_in a t) t
    by [] e = row_read a t e
    by (c ∷ u) e = absurd (no_row a t (λ z. let y = sym e ∙ z in absurd cc) ts h)

-- ---- lexemes one after another

-- where the token that is read is no lexeme, the lexemes are those of what follows it
pub gap_passed : (a : Alphabet) (v : Spelled) (n : ℕ) (t : List ℕ) → spelled_in a t ≡ Some (v, n) → is_lexeme v ≡ false → lexemes_in a t ≡ lexemes_in a (drop n t)
unfolding lexemes_in
gap_passed a v n t e g = ap (filter is_lexeme) (tokens_step a v n t e) ∙ cond-false (is_lexeme v) _ _ g

-- where the token that is read is a lexeme, the lexemes are that one, and then those of what follows it
pub lexeme_read : (a : Alphabet) (v : Spelled) (n : ℕ) (t : List ℕ) → spelled_in a t ≡ Some (v, n) → is_lexeme v ≡ true → lexemes_in a t ≡ v ∷ lexemes_in a (drop n t)
unfolding lexemes_in
lexeme_read a v n t e g = ap (filter is_lexeme) (tokens_step a v n t e) ∙ cond-true (is_lexeme v) _ _ g

-- where no token is read, no lexeme is read
pub none_left : (a : Alphabet) (t : List ℕ) → spelled_in a t ≡ None → lexemes_in a t ≡ []
unfolding lexemes_in
none_left a t e = ap (filter is_lexeme) (tokens_none a t e)

-- the token that was read after gaps is the next lexeme
pub next_read : (a : Alphabet) (v : Spelled) (more rest t : List ℕ) → lexemes_in a rest ≡ lexemes_in a t → IsFirstToken a v more rest → is_lexeme v ≡ true → ReadsLexeme a v more t
next_read a v more rest t g f l = record {
  lexemes = sym g ∙ lexeme_read a v f.len rest f.read l ∙ ap (λ (u : List ℕ). v ∷ lexemes_in a u) (sym f.rest_is);
  some = λ e. let u = (token_reader a).sound v f.len rest f.read in (token_reader a).some v u.unit u.rest u.is (sym u.is.text_is ∙ e);
}

-- what was read is the next lexeme
pub next_is : (a : Alphabet) (v : Spelled) (more t : List ℕ) → ReadsLexeme a v more t → IsNextLexeme a v more t
next_is a v more t r = record {
  lexemes = λ ls h.
      let P : List Spelled → Type 0 = λ u. AreLeadingLexemes a u t in
      subst P (r.lexemes ∙ ap (λ (u : List Spelled). v ∷ u) (one_leading_lexemes a (lexemes_in a more) ls more (lexemes_are a more) h)) (lexemes_are a t);
  some = r.some;
}

-- where no lexeme is read, there is no lexeme at the front of the text
pub none_is : (a : Alphabet) (t : List ℕ) → lexemes_in a t ≡ [] → AreLeadingLexemes a [] t
none_is a t e = let P : List Spelled → Type 0 = λ u. AreLeadingLexemes a u t in subst P e (lexemes_are a t)

-- as a function on lists
pub next_in : (a : Alphabet) (v : Spelled) (more t : List ℕ) → IsNextLexeme a v more t → lexemes_in a t ≡ v ∷ lexemes_in a more
next_in a v more t n = one_leading_lexemes a (lexemes_in a t) (v ∷ lexemes_in a more) t (lexemes_are a t) (n.lexemes (lexemes_in a more) (lexemes_are a more))

-- the next lexeme of a text is read as its first, with the same text after it
pub reads_next : (a : Alphabet) (v : Spelled) (more t : List ℕ) → IsNextLexeme a v more t → ReadsLexeme a v more t
reads_next a v more t n = record { lexemes = next_in a v more t n; some = n.some }

-- where there is no lexeme at the front of the text, none is read
pub none_in : (a : Alphabet) (t : List ℕ) → AreLeadingLexemes a [] t → lexemes_in a t ≡ []
none_in a t h = one_leading_lexemes a (lexemes_in a t) [] t (lexemes_are a t) h

-- ---- what is said of a result is widened

-- what is said of a result, of its value or of there being none, may be replaced by what follows from it
pub match_map : {X P P' : Type 0} {Q Q' : X → Type 0} (o : Option X) → (P → P') → ((x : X) → Q x → Q' x) → MatchOption o P Q → MatchOption o P' Q'
match_map None f g h = f h
match_map (Some x) f g h = g x h

-- ---- the first lexeme, and what follows it

-- a first lexeme of what is left is the first of the whole
abbrev pub FirstOf : Alphabet → List ℕ → List ℕ → Type 0
FirstOf a rest t = (v : Spelled) (more : List ℕ) → BeginsWithLexeme a v more rest → BeginsWithLexeme a v more t

-- past a token that is no lexeme, the first lexeme is still the whole's
pub first_past : (a : Alphabet) (g : Spelled) (n : ℕ) (rest t : List ℕ) → FirstOf a rest t → spelled_in a rest ≡ Some (g, n) → is_lexeme g ≡ false → FirstOf a (drop n rest) t
first_past a g n rest t h e l = λ v more b.
    let u = (token_reader a).sound g n rest e in
    let behind : drop n rest ≡ u.rest = ap (drop n) u.whole ∙ drop_at u.unit u.rest n (sym u.counted) in
    let P : List ℕ → Type 0 = λ x. BeginsAfter a b.gaps v more x in
    h v more (record {
      gaps = g ∷ b.gaps;
      begins = (l, record { unit = u.unit; rest = u.rest; whole = u.whole; is = u.is; more = subst P behind b.begins });
      is = b.is;
    })

-- a token that is a lexeme is the first
pub first_here : (a : Alphabet) (v : Spelled) (more rest : List ℕ) → IsFirstToken a v more rest → is_lexeme v ≡ true → BeginsWithLexeme a v more rest
first_here a v more rest f l =
    let u = (token_reader a).sound v f.len rest f.read in
    let behind : drop f.len rest ≡ u.rest = ap (drop f.len) u.whole ∙ drop_at u.unit u.rest f.len (sym u.counted) in
    record { gaps = []; begins = record { unit = u.unit; rest = u.rest; whole = u.whole; is = u.is; more = sym behind ∙ sym f.rest_is }; is = l }

reads_start : (a : Alphabet) (v : Spelled) (unit rest t : List ℕ) → t ≡ unit ++ rest → IsToken a v unit rest → (spelled_in a t ≡ Some (v, length unit)) × (drop (length unit) t ≡ rest)
reads_start a v unit rest t w i = (ap (spelled_in a) w ∙ (token_reader a).complete v unit rest i, ap (drop (length unit)) w ∙ drop_at unit rest (length unit) refl)

-- the lexemes of a text whose first one is v are v and those of what follows it
pub begins_reads : (a : Alphabet) (gs : List Spelled) (v : Spelled) (rest t : List ℕ) → BeginsAfter a gs v rest t → is_lexeme v ≡ true → lexemes_in a t ≡ v ∷ lexemes_in a rest
begins_reads a [] v rest t b l =
    let r = reads_start a v b.unit b.rest t b.whole b.is in
    lexeme_read a v (length b.unit) t r.0 l ∙ ap (λ (u : List ℕ). v ∷ lexemes_in a u) (r.1 ∙ b.more)
begins_reads a (g ∷ gs) v rest t b l =
    let r = reads_start a g b.1.unit b.1.rest t b.1.whole b.1.is in
    gap_passed a g (length b.1.unit) t r.0 b.0 ∙ ap (lexemes_in a) r.1 ∙ begins_reads a gs v rest b.1.rest b.1.more l

-- where no lexeme is read, none is the first
pub none_first : (a : Alphabet) (t : List ℕ) → lexemes_in a t ≡ [] → (v : Spelled) (rest : List ℕ) → BeginsWithLexeme a v rest t → ⊥
none_first a t e v rest b = let q = begins_reads a b.gaps v rest t b.begins b.is in absurd cc

-- two first lexemes of a text are one, and the same follows them
pub one_first : (a : Alphabet) (gs hs : List Spelled) (v w : Spelled) (x y t : List ℕ) → BeginsAfter a gs v x t → BeginsAfter a hs w y t → is_lexeme v ≡ true
    → is_lexeme w ≡ true → (v ≡ w) × (x ≡ y)
one_first a [] [] v w x y t b c l m =
    let s = (one_token a).one v w b.unit c.unit b.rest c.rest (sym b.whole ∙ c.whole) b.is c.is in
    (s.value, sym b.more ∙ s.rest ∙ c.more)
one_first a [] (h ∷ hs) v w x y t b c l m =
    let s = (one_token a).one v h b.unit c.1.unit b.rest c.1.rest (sym b.whole ∙ c.1.whole) b.is c.1.is in
    let e = sym l ∙ ap is_lexeme s.value ∙ c.0 in
    absurd cc
one_first a (g ∷ gs) [] v w x y t b c l m =
    let s = (one_token a).one g w b.1.unit c.unit b.1.rest c.rest (sym b.1.whole ∙ c.whole) b.1.is c.is in
    let e = sym m ∙ ap is_lexeme (sym s.value) ∙ b.0 in
    absurd cc
one_first a (g ∷ gs) (h ∷ hs) v w x y t b c l m =
    let s = (one_token a).one g h b.1.unit c.1.unit b.1.rest c.1.rest (sym b.1.whole ∙ c.1.whole) b.1.is c.1.is in
    let P : List ℕ → Type 0 = λ u. BeginsAfter a hs w y u in
    one_first a gs hs v w x y b.1.rest b.1.more (subst P (sym s.rest) c.1.more) l m
