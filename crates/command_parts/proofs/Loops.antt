-- What loops over octets keep.
use Rattle.std.proofs.Common.{◌≡◌, ℕ, suc, ◌+◌, ◌-◌, ◌<◌, ◌≤◌, max, List, [], ◌∷◌, length, drop, get_or, cond, refl, sym, ap, ◌∙◌, arith, length-drop}
use Rattle.std.specs.Prelude.{◌==◌, Ok, Err}
use Rattle.std.proofs.lemmas.Bool.{cond-true, cond-false, eq-eqb, ne_eqb}
use Rattle.std.proofs.lemmas.List.{drop_all, drop_more}
use Rattle.imap_keywords.proofs.Texts.{drop_at}
use Rattle.command_parts.specs.declared.no_command.NoCommand.TheVariants.{NeedMore, Bad}
use Rattle.command_parts.specs.declared.lexeme.LexemeStep.{LexemeStep}
use Rattle.command_parts.specs.declared.lexeme.LexemeStep.TheVariants as step
use Rattle.command_parts.specs.declared.fixed_text.FixedText.{FixedText}
use Rattle.command_parts.specs.declared.fixed_text.FixedText.TheVariants.{Capability}
use Rattle.imap_types.specs.Octets.{lower}
use Rattle.command_parts.specs.reading.FixedTexts.{fixed_text, agreeing, choose}
use Rattle.command_parts.specs.reading.Steps.{stepped_to, read_from}

-- a lexeme that has octets left is read as its step at the next one says
read_at : {S : Type 0} (f : S → ℕ → LexemeStep S) (s : S) (b : List ℕ) (i : ℕ) (m : LexemeStep S) → i < length b → f s (get_or b i 0) ≡ m
    → read_from f s (drop i b) ≡ stepped_to m (λ p. read_from f p (drop (i + 1) b)) (drop (i + 1) b)
unfolding read_from
read_at {S} f s b i m lt e =
    ap (read_from f s) (drop_at b i lt) ∙ ap (λ (n : LexemeStep S). stepped_to n (λ p. read_from f p (drop (i + 1) b)) (drop (i + 1) b)) e

-- no octet is left
pub read_end : {S : Type 0} (f : S → ℕ → LexemeStep S) (s : S) (b : List ℕ) (i : ℕ) → length b ≤ i → read_from f s (drop i b) ≡ Err NeedMore
unfolding read_from
read_end f s b i le = ap (read_from f s) (drop_all i b le)

-- no text goes on with the next octet
pub read_fail : {S : Type 0} (f : S → ℕ → LexemeStep S) (s : S) (b : List ℕ) (i : ℕ) → i < length b → f s (get_or b i 0) ≡ step.Fail
    → read_from f s (drop i b) ≡ Err (Bad (length b - i))
read_fail {S} f s b i lt e =
    let rest : length (drop (i + 1) b) ≡ length b - (i + 1) = length-drop (i + 1) b in
    let left : suc (length (drop (i + 1) b)) ≡ length b - i = omega (arith, rest, lt) in
    read_at f s b i step.Fail lt e ∙ ap (λ (n : ℕ). Err (Bad n)) left

-- the lexeme goes on after the next octet
pub read_on : {S : Type 0} (f : S → ℕ → LexemeStep S) (s p : S) (b : List ℕ) (i : ℕ) → i < length b → f s (get_or b i 0) ≡ step.On p
    → read_from f s (drop i b) ≡ read_from f p (drop (i + 1) b)
read_on f s p b i lt e = read_at f s b i (step.On p) lt e

-- the next octet ends the lexeme
pub read_last : {S : Type 0} (f : S → ℕ → LexemeStep S) (s p : S) (b : List ℕ) (i : ℕ) → i < length b → f s (get_or b i 0) ≡ step.End p
    → read_from f s (drop i b) ≡ Ok (p, drop (i + 1) b)
read_last f s p b i lt e = read_at f s b i (step.End p) lt e

pub ruleset reads = (read_end, read_fail, read_on, read_last)

-- ---- octets that agree

agree_at : (t b : List ℕ) (i : ℕ) → i < length t → i < length b
    → agreeing (drop i t) (drop i b) ≡ cond (lower (get_or b i 0) == get_or t i 0) (suc (agreeing (drop (i + 1) t) (drop (i + 1) b))) 0
unfolding agreeing
agree_at t b i lt within = ap (λ (u : List ℕ). agreeing u (drop i b)) (drop_at t i lt) ∙ ap (agreeing (get_or t i 0 ∷ drop (i + 1) t)) (drop_at b i within)

-- no octet of the text is left
pub agree_end : (t b : List ℕ) (i : ℕ) → length t ≤ i → agreeing (drop i t) (drop i b) ≡ 0
unfolding agreeing
agree_end t b i le = ap (λ (u : List ℕ). agreeing u (drop i b)) (drop_all i t le)

-- no other octet is left
pub agree_short : (t b : List ℕ) (i : ℕ) → length b ≤ i → agreeing (drop i t) (drop i b) ≡ 0
unfolding agreeing
agree_short t b i le = ap (agreeing (drop i t)) (drop_all i b le) ∙ none (drop i t)
  where
    none : (u : List ℕ) → agreeing u [] ≡ 0
    none [] = refl
    none (x ∷ u) = refl

-- the next octets differ
pub agree_apart : (t b : List ℕ) (i : ℕ) → i < length t → i < length b → (lower (get_or b i 0) ≡ get_or t i 0 → ⊥) → agreeing (drop i t) (drop i b) ≡ 0
agree_apart t b i lt within ne =
    agree_at t b i lt within
    ∙ cond-false (lower (get_or b i 0) == get_or t i 0) (suc (agreeing (drop (i + 1) t) (drop (i + 1) b))) 0 (ne_eqb (lower (get_or b i 0)) (get_or t i 0) ne)

-- the next octets agree
pub agree_on : (t b : List ℕ) (i : ℕ) → i < length t → i < length b → lower (get_or b i 0) ≡ get_or t i 0
    → agreeing (drop i t) (drop i b) ≡ suc (agreeing (drop (i + 1) t) (drop (i + 1) b))
agree_on t b i lt within e =
    agree_at t b i lt within
    ∙ cond-true (lower (get_or b i 0) == get_or t i 0) (suc (agreeing (drop (i + 1) t) (drop (i + 1) b))) 0 (eq-eqb (lower (get_or b i 0)) (get_or t i 0) e)

pub ruleset agrees = (agree_end, agree_short, agree_apart, agree_on)

-- ---- texts of which one is read

choose_at : (far : ℕ) (ks : List FixedText) (b : List ℕ) (i : ℕ) → i < length ks
    → choose far (drop i ks) b ≡ choose far (get_or ks i Capability ∷ drop (i + 1) ks) b
choose_at far ks b i lt = ap (λ (l : List FixedText). choose far l b) (drop_more ks i Capability lt)

-- a text stands there
pub choose_found : (far count : ℕ) (ks : List FixedText) (b : List ℕ) (i : ℕ) → i < length ks → count ≡ agreeing (fixed_text (get_or ks i Capability)) b
    → count ≡ length (fixed_text (get_or ks i Capability)) → choose far (drop i ks) b ≡ Ok (get_or ks i Capability, drop count b)
unfolding choose
choose_found far count ks b i lt agree all =
    let k = get_or ks i Capability in
    let n = agreeing (fixed_text k) b in
    choose_at far ks b i lt
    ∙ cond-true (n == length (fixed_text k)) (Ok (k, drop n b)) (cond (n == length b) (Err NeedMore) (choose (max far n) (drop (i + 1) ks) b))
    (eq-eqb n (length (fixed_text k)) (sym agree ∙ all))
    ∙ ap (λ (m : ℕ). Ok (k, drop m b)) (sym agree)

-- the octets end before a text does
pub choose_short : (far count : ℕ) (ks : List FixedText) (b : List ℕ) (i : ℕ) → i < length ks → count ≡ agreeing (fixed_text (get_or ks i Capability)) b
    → (count ≡ length (fixed_text (get_or ks i Capability)) → ⊥) → count ≡ length b → choose far (drop i ks) b ≡ Err NeedMore
unfolding choose
choose_short far count ks b i lt agree part all =
    let k = get_or ks i Capability in
    let n = agreeing (fixed_text k) b in
    choose_at far ks b i lt
    ∙ cond-false (n == length (fixed_text k)) (Ok (k, drop n b)) (cond (n == length b) (Err NeedMore) (choose (max far n) (drop (i + 1) ks) b))
    (ne_eqb n (length (fixed_text k)) (λ e. part (agree ∙ e)))
    ∙ cond-true (n == length b) (Err NeedMore) (choose (max far n) (drop (i + 1) ks) b) (eq-eqb n (length b) (sym agree ∙ all))

-- they differ within the text
pub choose_on : (far count : ℕ) (ks : List FixedText) (b : List ℕ) (i : ℕ) → i < length ks → count ≡ agreeing (fixed_text (get_or ks i Capability)) b
    → (count ≡ length (fixed_text (get_or ks i Capability)) → ⊥) → (count ≡ length b → ⊥) → choose far (drop i ks) b ≡ choose (max far count) (drop (i + 1) ks) b
unfolding choose
choose_on far count ks b i lt agree part some =
    let k = get_or ks i Capability in
    let n = agreeing (fixed_text k) b in
    choose_at far ks b i lt
    ∙ cond-false (n == length (fixed_text k)) (Ok (k, drop n b)) (cond (n == length b) (Err NeedMore) (choose (max far n) (drop (i + 1) ks) b))
    (ne_eqb n (length (fixed_text k)) (λ e. part (agree ∙ e)))
    ∙ cond-false (n == length b) (Err NeedMore) (choose (max far n) (drop (i + 1) ks) b) (ne_eqb n (length b) (λ e. some (agree ∙ e)))
    ∙ ap (λ (m : ℕ). choose (max far m) (drop (i + 1) ks) b) (sym agree)

-- no text is left
pub choose_end : (far : ℕ) (ks : List FixedText) (b : List ℕ) (i : ℕ) → length ks ≤ i → choose far (drop i ks) b ≡ Err (Bad (length b - far))
unfolding choose
choose_end far ks b i le = ap (λ (l : List FixedText). choose far l b) (drop_all i ks le)
