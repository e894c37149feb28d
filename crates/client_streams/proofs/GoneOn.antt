-- Clients that go on, one after another.
use Rattle.std.proofs.Common.{◌≡◌, ◌+◌, ◌<◌, ◌++◌, ℕ, List, [], ◌∷◌, length, take, drop, sym, ap, subst, ◌∙◌, refl, true, false, inl, inr}
use Rattle.std.specs.Prelude.{Option}
use Rattle.std.proofs.Math.Seq.{drop-length, take-length}
use Rattle.std.proofs.lemmas.List.{append_assoc, append-nil}
use Rattle.client_streams.proofs.Turning.{has-some, next-left, next-taken, some-left}
use Rattle.client_streams.specs.Lingering.{FirstGoesOn, GoOn, Leaves, Nobody, RemainsOpen, StaysOpen}
use Rattle.client_streams.specs.declared.finished.Finished.{Finished}

module _ {S : Type 0} (gives : S → ℕ → Option (List ℕ) → S → Type 0) (closes : S → Type 0) (now : ℕ) where
  -- those that go on next stand before those that stay
  abbrev pub Turned : List (Finished S) → ℕ → List (Finished S) → Type 0
  Turned all turn items = (kept : List (Finished S)) × (items ≡ drop turn all ++ kept) × GoOn gives closes now (take turn all) kept

  -- none has gone on yet
  pub none-turned : (all : List (Finished S)) → Turned all 0 all
  none-turned all = ([], sym (append-nil all), Nobody)

  -- the next one goes on
  pub one-turned : (all items new : List (Finished S)) (turn : ℕ) → turn < length all → Turned all turn items → FirstGoesOn gives closes now items new
      → Turned all (turn + 1) new
  one-turned all [] new turn within turned drained =
      absurd (some-left all turned.0 turn (has-some all turn within) within turned.1)
  one-turned all (first ∷ rest) new turn within turned (inl stays) = (
    turned.0 ++ stays.0 ∷ [],
    stays.2 ∙ ap (λ (l : List (Finished S)). l ++ stays.0 ∷ []) (next-left all turned.0 rest turn first within turned.1)
        ∙ append_assoc (drop (turn + 1) all) turned.0 (stays.0 ∷ []),
    subst (λ (l : List (Finished S)). GoOn gives closes now l (turned.0 ++ stays.0 ∷ [])) (next-taken all turned.0 rest turn first within turned.1)
        (RemainsOpen turned.2 stays.1),
  )
  one-turned all (first ∷ rest) new turn within turned (inr leaves) = (
    turned.0,
    leaves.3 ∙ next-left all turned.0 rest turn first within turned.1,
    subst (λ (l : List (Finished S)). GoOn gives closes now l turned.0) (next-taken all turned.0 rest turn first within turned.1)
        (Leaves turned.2 leaves.0 leaves.1 leaves.2),
  )

  -- the first one stands last
  pub first-stays : (items rest new : List (Finished S)) (first last : Finished S) → items ≡ first ∷ rest → StaysOpen gives now true first last
      → new ≡ rest ++ last ∷ [] → FirstGoesOn gives closes now items new
  first-stays items rest new first last popped drained is =
      subst (λ (l : List (Finished S)). FirstGoesOn gives closes now l new) (sym popped) (inl (last, drained, is))

  pub first-leaves : (items rest : List (Finished S)) (first left : Finished S) → items ≡ first ∷ rest → StaysOpen gives now false first left
      → closes left.stream → FirstGoesOn gives closes now items rest
  first-leaves items rest first left popped drained closed =
      subst (λ (l : List (Finished S)). FirstGoesOn gives closes now l rest) (sym popped) (inr (left, drained, closed, refl))

  -- all have gone on
  pub all-turned : (all items : List (Finished S)) (turn : ℕ) → turn ≡ length all → Turned all turn items → GoOn gives closes now all items
  all-turned all items turn end turned =
      let last : Turned all (length all) items = subst (λ (n : ℕ). Turned all n items) end turned in
      let none : items ≡ last.0 = last.1 ∙ ap (λ (l : List (Finished S)). l ++ last.0) (drop-length all) in
      subst (λ (l : List (Finished S)). GoOn gives closes now l items) (take-length all)
      (subst (λ (l : List (Finished S)). GoOn gives closes now (take (length all) all) l) (sym none) last.2)

  -- there is none
  pub none-stands : (items new : List (Finished S)) → items ≡ [] → new ≡ [] → FirstGoesOn gives closes now items new
  none-stands items new none is = subst (λ (l : List (Finished S)). FirstGoesOn gives closes now l new) (sym none) is
