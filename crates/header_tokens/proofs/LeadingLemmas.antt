-- The tokens at the front of a text, up to where none begins.
use Rattle.std.proofs.Common.{◌≡◌, ◌≢◌, ℕ, List, [], ◌∷◌, ◌++◌, drop, refl, sym, ap, ◌∙◌, subst, append_assoc, Some, None}
use Rattle.std.specs.List.{filter}
use Rattle.std.proofs.lemmas.List.{append-nil, drop_at}
use Rattle.text_words.specs.Sequence.{IsDetermined}
use Rattle.text_words.proofs.SequenceLemmas.{one_reading, determined}
use Rattle.header_tokens.specs.declared.token.Alphabet.{Alphabet}
use Rattle.header_tokens.specs.Tokens.{Spelled, IsToken, AreTokens, BeginsNone, AreLeading}
use Rattle.header_tokens.specs.reading.TokenReading.{spelled_in}
use Rattle.header_tokens.specs.Lexemes.{is_lexeme, AreLeadingLexemes}
use Rattle.header_tokens.proofs.OneToken.{token_reader}

-- the tokens vs were read, and rest is what follows them
abbrev pub Leads : Alphabet → List Spelled → List ℕ → List ℕ → Type 0
Leads a vs rest t = (more : List Spelled) (end : List ℕ) → AreLeading a more end rest → AreLeading a (vs ++ more) end t

-- before any token was read, the whole text is what follows
pub leads_begin : (a : Alphabet) (t : List ℕ) → Leads a [] t t
leads_begin a t = λ more end h. h

-- the token that was read is the next
pub leads_more : (a : Alphabet) (vs : List Spelled) (v : Spelled) (n : ℕ) (rest t : List ℕ) → Leads a vs rest t → spelled_in a rest ≡ Some (v, n)
    → Leads a (vs ++ v ∷ []) (drop n rest) t
leads_more a vs v n rest t h e = λ more end g.
    let u = (token_reader a).sound v n rest e in
    let behind : drop n rest ≡ u.rest = ap (drop n) u.whole ∙ drop_at u.unit u.rest n (sym u.counted) in
    let P : List ℕ → Type 0 = λ x. AreLeading a more end x in
    let Q : List Spelled → Type 0 = λ x. AreLeading a x end t in
    subst Q (sym (append_assoc vs (v ∷ []) more)) (h (v ∷ more) end (record { unit = u.unit; rest = u.rest; whole = u.whole; is = u.is; more = subst P behind g }))

-- where nothing is read, no token begins
pub none_begins : (a : Alphabet) (t : List ℕ) → spelled_in a t ≡ None → BeginsNone a t
none_begins a t e = λ v x rest w i. let q = (token_reader a).complete v x rest i in let p = ap (spelled_in a) w in absurd cc

-- where no further token is read, the tokens that were read are those at the front of the text
pub leads_done : (a : Alphabet) (vs : List Spelled) (rest t : List ℕ) → Leads a vs rest t → spelled_in a rest ≡ None → AreLeading a vs rest t
leads_done a vs rest t h e = let P : List Spelled → Type 0 = λ x. AreLeading a x rest t in subst P (append-nil vs) (h [] rest (refl, none_begins a rest e))

-- ---- the whole text is tokens exactly where nothing is left

-- where nothing is left after the tokens at the front, they are the tokens of the whole text
pub all_read : (a : Alphabet) (vs : List Spelled) (rest t : List ℕ) → AreLeading a vs rest t → rest ≡ [] → AreTokens a vs t
all_read a [] rest t h e = h.0 ∙ e
all_read a (v ∷ vs) rest t h e = record { unit = h.unit; rest = h.rest; whole = h.whole; is = h.is; more = all_read a vs rest h.rest h.more e }

-- a text begins with one token at most
pub one_token : (a : Alphabet) → IsDetermined (IsToken a)
one_token a = determined (spelled_in a) (token_reader a)

no_unit : (x s : List ℕ) → x ++ s ≡ [] → x ≡ []
no_unit [] s e = refl
no_unit (c ∷ x) s e = absurd cc

-- where something is left after the tokens at the front, the whole text is no row of tokens
pub not_all : (a : Alphabet) (vs : List Spelled) (rest t : List ℕ) → AreLeading a vs rest t → rest ≢ [] → (us : List Spelled) → AreTokens a us t → ⊥
not_all a [] rest t h n [] g = n (sym h.0 ∙ g)
not_all a [] rest t h n (u ∷ us) g = h.1 u g.unit g.rest g.whole g.is
not_all a (v ∷ vs) rest t h n [] g = (one_token a).some v h.unit h.rest h.is (no_unit h.unit h.rest (sym h.whole ∙ g))
not_all a (v ∷ vs) rest t h n (u ∷ us) g =
    let s = (one_token a).one v u h.unit g.unit h.rest g.rest (sym h.whole ∙ g.whole) h.is g.is in
    let P : List ℕ → Type 0 = λ x. AreTokens a us x in
    not_all a vs rest h.rest h.more n us (subst P (sym s.rest) g.more)

-- ---- no text has two rows of tokens at its front

-- two rows of tokens at the front of a text, each up to where no token begins, are the same
pub one_leading : (a : Alphabet) (vs ws : List Spelled) (r q t : List ℕ) → AreLeading a vs r t → AreLeading a ws q t → vs ≡ ws
one_leading a [] [] r q t h g = refl
one_leading a [] (w ∷ ws) r q t h g = absurd (h.1 w g.unit g.rest g.whole g.is)
one_leading a (v ∷ vs) [] r q t h g = absurd (g.1 v h.unit h.rest h.whole h.is)
one_leading a (v ∷ vs) (w ∷ ws) r q t h g =
    let s = (one_token a).one v w h.unit g.unit h.rest g.rest (sym h.whole ∙ g.whole) h.is g.is in
    let P : List ℕ → Type 0 = λ x. AreLeading a ws q x in
    let tail = one_leading a vs ws r q h.rest h.more (subst P (sym s.rest) g.more) in
    ap (λ (x : Spelled). x ∷ vs) s.value ∙ ap (λ (xs : List Spelled). w ∷ xs) tail

-- two rows of tokens at the front of a text, each up to where no token begins, leave the same rest
pub one_rest : (a : Alphabet) (vs ws : List Spelled) (r q t : List ℕ) → AreLeading a vs r t → AreLeading a ws q t → r ≡ q
one_rest a [] [] r q t h g = sym h.0 ∙ g.0
one_rest a [] (w ∷ ws) r q t h g = absurd (h.1 w g.unit g.rest g.whole g.is)
one_rest a (v ∷ vs) [] r q t h g = absurd (g.1 v h.unit h.rest h.whole h.is)
one_rest a (v ∷ vs) (w ∷ ws) r q t h g =
    let s = (one_token a).one v w h.unit g.unit h.rest g.rest (sym h.whole ∙ g.whole) h.is g.is in
    let P : List ℕ → Type 0 = λ x. AreLeading a ws q x in
    one_rest a vs ws r q h.rest h.more (subst P (sym s.rest) g.more)

-- two rows of lexemes at the front of a text, each up to where no token begins, are the same
pub one_leading_lexemes : (a : Alphabet) (x y : List Spelled) (t : List ℕ) → AreLeadingLexemes a x t → AreLeadingLexemes a y t → x ≡ y
one_leading_lexemes a x y t h g =
    h.lexemes_are ∙ ap (filter is_lexeme) (one_leading a h.tokens g.tokens h.rest g.rest t h.are g.are) ∙ sym g.lexemes_are

-- no text has two rows of tokens
pub one_tokens : (a : Alphabet) (x y : List Spelled) (t : List ℕ) → AreTokens a x t → AreTokens a y t → x ≡ y
one_tokens a x y t g h = one_reading (determined (spelled_in a) (token_reader a)) x y t g h
