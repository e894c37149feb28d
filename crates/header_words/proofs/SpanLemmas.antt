-- The text of spans, gathered from the left.
use Rattle.std.proofs.Common.{◌≡◌, ℕ, List, [], ◌∷◌, ◌++◌, refl, ap, ◌∙◌, append_assoc}
use Rattle.std.specs.List.{flat_map}
use Rattle.std.proofs.lemmas.Str.{utf8_lossy-IsUtf8}
use Rattle.header_words.specs.declared.charset.Charset.TheVariants as charset
use Rattle.header_words.specs.EncodedWords.{Span, Text, InUtf8, is_printed, text_of_words, with_span, runs_of, run_text, text_of_spans}
use Rattle.std.specs.List.{filter}

nothing : text_of_words charset.Utf8 [] ≡ []
nothing = ap (λ (u : List ℕ). filter is_printed u) (utf8_lossy-IsUtf8 [] ([], (refl, refl)))

-- an empty run adds no text
pub no_run : (spans : List Span) → text_of_spans (InUtf8 [] ∷ spans) ≡ text_of_spans spans
no_run spans = by (runs_of spans)
  where
    by : (runs : List Span) → flat_map run_text (with_span (InUtf8 []) runs) ≡ flat_map run_text runs
    by [] = ap (λ (u : List ℕ). u ++ []) nothing
    by (Text t ∷ runs) = ap (λ (u : List ℕ). u ++ flat_map run_text (Text t ∷ runs)) nothing
    by (InUtf8 b ∷ runs) = refl

-- a run and a word in UTF-8 after it are one run
pub longer_run : (run b : List ℕ) (spans : List Span) → text_of_spans (InUtf8 (run ++ b) ∷ spans) ≡ text_of_spans (InUtf8 run ∷ InUtf8 b ∷ spans)
longer_run run b spans = by (runs_of spans)
  where
    by : (runs : List Span) → flat_map run_text (with_span (InUtf8 (run ++ b)) runs) ≡ flat_map run_text (with_span (InUtf8 run) (with_span (InUtf8 b) runs))
    by [] = refl
    by (Text t ∷ runs) = refl
    by (InUtf8 a ∷ runs) = ap (λ (u : List ℕ). text_of_words charset.Utf8 u ++ flat_map run_text runs) (append_assoc run b a)

-- where a run was decoded, and a text was added
pub text_added : (old run text before mid new none : List ℕ) → none ≡ [] → before ≡ text_of_words charset.Utf8 run → mid ≡ old ++ before → new ≡ mid ++ text
    → (spans : List Span) → new ++ text_of_spans (InUtf8 none ∷ spans) ≡ old ++ text_of_spans (InUtf8 run ∷ Text text ∷ spans)
text_added old run text before mid new none n b m e spans =
    let t = text_of_spans spans in
    ap (λ (u : List ℕ). new ++ text_of_spans (InUtf8 u ∷ spans)) n ∙ ap (λ (u : List ℕ). new ++ u) (no_run spans)
    ∙ ap (λ (u : List ℕ). u ++ t) (e ∙ ap (λ (u : List ℕ). u ++ text) (m ∙ ap (λ (u : List ℕ). old ++ u) b))
    ∙ append_assoc (old ++ text_of_words charset.Utf8 run) text t ∙ append_assoc old (text_of_words charset.Utf8 run) (text ++ t)
