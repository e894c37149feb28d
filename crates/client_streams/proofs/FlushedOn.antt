-- Clients that take what is left of their response, one after another.
use Rattle.std.proofs.Common.{◌≡◌, ◌+◌, ◌<◌, ◌++◌, ℕ, List, [], ◌∷◌, length, take, drop, sym, ap, subst, ◌∙◌, refl, inl, inr}
use Rattle.std.specs.Prelude.{Option}
use Rattle.std.proofs.Math.Seq.{drop-length, take-length}
use Rattle.std.proofs.lemmas.List.{append_assoc, append-nil}
use Rattle.client_streams.proofs.Turning.{has-some, next-left, next-taken, some-left}
use Rattle.client_streams.specs.Flushing.{EndsAt, FirstFlushes, FlushOn, GoesOut, IsLost, IsSent, NoneUnsent, StaysUnsent}
use Rattle.client_streams.specs.Lingering.{Lingers}
use Rattle.client_streams.specs.declared.finished.Finished.{Finished}
use Rattle.client_streams.specs.declared.unflushed.Flow.TheVariants.{Lost, Sent, Waits}
use Rattle.client_streams.specs.declared.unflushed.Unflushed.{Unflushed}

module _ {S : Type 0} (takes : S → List ℕ → Option ℕ → S → Type 0) (ends : S → S → Type 0) (gives : S → ℕ → Option (List ℕ) → S → Type 0)
    (closes : S → Type 0) (now : ℕ) where
  -- those that go on next stand before those that stay
  abbrev pub Turned : List (Finished S) → List (Unflushed S) → ℕ → List (Unflushed S) → List (Finished S) → Type 0
  Turned open_yet all turn items after =
      (kept : List (Unflushed S)) × (items ≡ drop turn all ++ kept) × FlushOn takes ends gives closes now open_yet (take turn all) kept after

  -- none has gone on yet
  pub none-turned : (open_yet : List (Finished S)) (all : List (Unflushed S)) → Turned open_yet all 0 all open_yet
  none-turned open_yet all = ([], sym (append-nil all), NoneUnsent)

  -- the next one goes on
  pub one-turned : (open_yet mid after : List (Finished S)) (all items new : List (Unflushed S)) (turn : ℕ) → turn < length all
      → Turned open_yet all turn items mid → FirstFlushes takes ends gives closes now items mid new after → Turned open_yet all (turn + 1) new after
  one-turned open_yet mid after all [] new turn within turned flushed =
      absurd (some-left all turned.0 turn (has-some all turn within) within turned.1)
  one-turned open_yet mid after all (first ∷ rest) new turn within turned (inl stays) = (
    turned.0 ++ stays.0 ∷ [],
    stays.2 ∙ ap (λ (l : List (Unflushed S)). l ++ stays.0 ∷ []) (next-left all turned.0 rest turn first within turned.1)
        ∙ append_assoc (drop (turn + 1) all) turned.0 (stays.0 ∷ []),
    subst (λ (l : List (Finished S)). FlushOn takes ends gives closes now open_yet (take (turn + 1) all) (turned.0 ++ stays.0 ∷ []) l) (sym stays.3)
        (subst (λ (l : List (Unflushed S)). FlushOn takes ends gives closes now open_yet l (turned.0 ++ stays.0 ∷ []) mid)
        (next-taken all turned.0 rest turn first within turned.1) (StaysUnsent turned.2 first stays.0 stays.1)),
  )
  one-turned open_yet mid after all (first ∷ rest) new turn within turned (inr (inl sent)) = (
    turned.0,
    sent.5 ∙ next-left all turned.0 rest turn first within turned.1,
    subst (λ (l : List (Unflushed S)). FlushOn takes ends gives closes now open_yet l turned.0 after)
        (next-taken all turned.0 rest turn first within turned.1) (IsSent turned.2 first sent.0 sent.1 sent.2 sent.3 sent.4),
  )
  one-turned open_yet mid after all (first ∷ rest) new turn within turned (inr (inr lost)) = (
    turned.0,
    lost.3 ∙ next-left all turned.0 rest turn first within turned.1,
    subst (λ (l : List (Finished S)). FlushOn takes ends gives closes now open_yet (take (turn + 1) all) turned.0 l) (sym lost.4)
        (subst (λ (l : List (Unflushed S)). FlushOn takes ends gives closes now open_yet l turned.0 mid)
        (next-taken all turned.0 rest turn first within turned.1) (IsLost turned.2 first lost.0 lost.1 lost.2)),
  )

  -- the first one stands last
  pub first-stays : (items rest new : List (Unflushed S)) (open_yet : List (Finished S)) (first last : Unflushed S) → items ≡ first ∷ rest
      → GoesOut takes now Waits first last → new ≡ rest ++ last ∷ [] → FirstFlushes takes ends gives closes now items open_yet new open_yet
  first-stays items rest new open_yet first last popped waits is =
      subst (λ (l : List (Unflushed S)). FirstFlushes takes ends gives closes now l open_yet new open_yet) (sym popped) (inl (last, waits, is, refl))

  -- it has all
  pub first-sent : (items rest : List (Unflushed S)) (open_yet after : List (Finished S)) (first left : Unflushed S) (client : Finished S)
      → items ≡ first ∷ rest → GoesOut takes now Sent first left → EndsAt ends now left.stream client → Lingers gives closes client open_yet after
      → FirstFlushes takes ends gives closes now items open_yet rest after
  first-sent items rest open_yet after first left client popped sent ended added =
      subst (λ (l : List (Unflushed S)). FirstFlushes takes ends gives closes now l open_yet rest after) (sym popped)
      (inr (inl (left, sent, client, ended, added, refl)))

  -- it is closed
  pub first-lost : (items rest : List (Unflushed S)) (open_yet : List (Finished S)) (first left : Unflushed S) → items ≡ first ∷ rest
      → GoesOut takes now Lost first left → closes left.stream → FirstFlushes takes ends gives closes now items open_yet rest open_yet
  first-lost items rest open_yet first left popped lost closed =
      subst (λ (l : List (Unflushed S)). FirstFlushes takes ends gives closes now l open_yet rest open_yet) (sym popped)
      (inr (inr (left, lost, closed, refl, refl)))

  -- all have gone on
  pub all-turned : (open_yet after : List (Finished S)) (all items : List (Unflushed S)) (turn : ℕ) → turn ≡ length all
      → Turned open_yet all turn items after → FlushOn takes ends gives closes now open_yet all items after
  all-turned open_yet after all items turn end turned =
      let last : Turned open_yet all (length all) items after = subst (λ (n : ℕ). Turned open_yet all n items after) end turned in
      let none : items ≡ last.0 = last.1 ∙ ap (λ (l : List (Unflushed S)). l ++ last.0) (drop-length all) in
      subst (λ (l : List (Unflushed S)). FlushOn takes ends gives closes now open_yet l items after) (take-length all)
      (subst (λ (l : List (Unflushed S)). FlushOn takes ends gives closes now open_yet (take (length all) all) l after) (sym none) last.2)

  -- there is none
  pub none-stands : (items new : List (Unflushed S)) (open_yet after : List (Finished S)) → items ≡ [] → new ≡ [] → after ≡ open_yet
      → FirstFlushes takes ends gives closes now items open_yet new after
  none-stands items new open_yet after none is same =
      subst (λ (l : List (Unflushed S)). FirstFlushes takes ends gives closes now l open_yet new after) (sym none) (is, same)
