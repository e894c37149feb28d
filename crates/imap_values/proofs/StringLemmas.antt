-- A quoted text, octet by octet.
use Rattle.std.proofs.Common.{◌≡◌, ℕ, ◌+◌, ◌<◌, ◌≤◌, Bool, true, false, List, [], ◌∷◌, ◌++◌, length, drop, get_or, cond, sym, ap, ◌∙◌, append_assoc}
use Rattle.std.specs.Prelude.{◌==◌}
use Rattle.std.proofs.lemmas.Bool.{cond-true, cond-false}
use Rattle.std.proofs.lemmas.List.{drop_all, append-nil}
use Rattle.imap_keywords.proofs.Texts.{drop_at}
use Rattle.imap_values.specs.Strings.{unquoted}

-- one octet before what is read
abbrev pub with_octet : ℕ → List ℕ × List ℕ → List ℕ × List ℕ
with_octet c r = (c ∷ r.0, r.1)

abbrev one_read : ℕ → List ℕ → List ℕ × List ℕ
one_read c b = cond (c == 34) ([], b) (cond (c == 92) (unquoted true b) (with_octet c (unquoted false b)))

-- at the end of the octets a quoted text has no more, whether after a `\` or not
pub unquoted_end : (pair : Bool) (b : List ℕ) (i : ℕ) → length b ≤ i → unquoted pair (drop i b) ≡ ([], [])
unfolding unquoted
unquoted_end true b i le = ap (unquoted true) (drop_all i b le)
unquoted_end false b i le = ap (unquoted false) (drop_all i b le)

unquoted_one : (b : List ℕ) (i : ℕ) → i < length b → unquoted false (drop i b) ≡ one_read (get_or b i 0) (drop (i + 1) b)
unfolding unquoted
unquoted_one b i lt = ap (unquoted false) (drop_at b i lt)

-- at a quote that isn't escaped a quoted text ends, and what follows the quote is left
pub unquoted_close : (b : List ℕ) (i : ℕ) → i < length b → (get_or b i 0 == 34) ≡ true → unquoted false (drop i b) ≡ ([], drop (i + 1) b)
unquoted_close b i lt e =
    unquoted_one b i lt ∙ cond-true (get_or b i 0 == 34) ([], drop (i + 1) b)
    (cond (get_or b i 0 == 92) (unquoted true (drop (i + 1) b)) (with_octet (get_or b i 0) (unquoted false (drop (i + 1) b)))) e

-- at a `\` that isn't escaped the reading goes on after it, and takes the next octet as it stands
pub unquoted_slash : (b : List ℕ) (i : ℕ) → i < length b → (get_or b i 0 == 34) ≡ false → (get_or b i 0 == 92) ≡ true → unquoted false (drop i b) ≡ unquoted true (drop (i + 1) b)
unquoted_slash b i lt e f =
    unquoted_one b i lt ∙ cond-false (get_or b i 0 == 34) ([], drop (i + 1) b)
    (cond (get_or b i 0 == 92) (unquoted true (drop (i + 1) b)) (with_octet (get_or b i 0) (unquoted false (drop (i + 1) b)))) e
    ∙ cond-true (get_or b i 0 == 92) (unquoted true (drop (i + 1) b)) (with_octet (get_or b i 0) (unquoted false (drop (i + 1) b))) f

-- an octet that is neither a quote nor `\` is one of the text, and the reading goes on after it
pub unquoted_octet : (b : List ℕ) (i : ℕ) → i < length b → (get_or b i 0 == 34) ≡ false → (get_or b i 0 == 92) ≡ false
    → unquoted false (drop i b) ≡ (get_or b i 0 ∷ (unquoted false (drop (i + 1) b)).0, (unquoted false (drop (i + 1) b)).1)
unquoted_octet b i lt e f =
    unquoted_one b i lt ∙ cond-false (get_or b i 0 == 34) ([], drop (i + 1) b)
    (cond (get_or b i 0 == 92) (unquoted true (drop (i + 1) b)) (with_octet (get_or b i 0) (unquoted false (drop (i + 1) b)))) e
    ∙ cond-false (get_or b i 0 == 92) (unquoted true (drop (i + 1) b)) (with_octet (get_or b i 0) (unquoted false (drop (i + 1) b))) f

-- an escaped octet is one of the text whatever it is, and the reading goes on after it
pub unquoted_pair : (b : List ℕ) (i : ℕ) → i < length b → unquoted true (drop i b) ≡ (get_or b i 0 ∷ (unquoted false (drop (i + 1) b)).0, (unquoted false (drop (i + 1) b)).1)
unfolding unquoted
unquoted_pair b i lt = ap (unquoted true) (drop_at b i lt)

-- ---- with the text so far

abbrev pub so_far : List ℕ → List ℕ × List ℕ → List ℕ × List ℕ
so_far t r = (t ++ r.0, r.1)

-- at the end of the octets the text so far is all that is read
pub end_of : (pair : Bool) (t b : List ℕ) (i : ℕ) → length b ≤ i → (t, []) ≡ so_far t (unquoted pair (drop i b))
end_of pair t b i le = ap (λ (u : List ℕ). (u, [])) (sym (append-nil t)) ∙ ap (so_far t) (sym (unquoted_end pair b i le))

-- at a quote that isn't escaped the text so far is all that is read, and what follows the quote is left
pub close_of : (t b : List ℕ) (i : ℕ) → i < length b → (get_or b i 0 == 34) ≡ true → (t, drop (i + 1) b) ≡ so_far t (unquoted false (drop i b))
close_of t b i lt e = ap (λ (u : List ℕ). (u, drop (i + 1) b)) (sym (append-nil t)) ∙ ap (so_far t) (sym (unquoted_close b i lt e))

-- an octet that is neither a quote nor `\` joins the text so far, and the reading goes on after it
pub octet_of : (t b : List ℕ) (i : ℕ) → i < length b → (get_or b i 0 == 34) ≡ false → (get_or b i 0 == 92) ≡ false
    → so_far (t ++ get_or b i 0 ∷ []) (unquoted false (drop (i + 1) b)) ≡ so_far t (unquoted false (drop i b))
octet_of t b i lt e f =
    let r = unquoted false (drop (i + 1) b) in
    ap (λ (u : List ℕ). (u, r.1)) (append_assoc t (get_or b i 0 ∷ []) r.0) ∙ ap (so_far t) (sym (unquoted_octet b i lt e f))

-- an escaped octet joins the text so far whatever it is, and the reading goes on after it
pub pair_of : (t b : List ℕ) (i : ℕ) → i < length b → so_far (t ++ get_or b i 0 ∷ []) (unquoted false (drop (i + 1) b)) ≡ so_far t (unquoted true (drop i b))
pair_of t b i lt =
    let r = unquoted false (drop (i + 1) b) in
    ap (λ (u : List ℕ). (u, r.1)) (append_assoc t (get_or b i 0 ∷ []) r.0) ∙ ap (so_far t) (sym (unquoted_pair b i lt))
